use Rattle.std.proofs.Common.{◌≡◌, List, length, ◌∙◌, ap, subst, arith}
use Rattle.std.specs.Prelude.{IfOk}
use Rattle.std.proofs.lemmas.List.{length-map}
use Rattle.ll_links.specs.Links.{block_id}
use Rattle.portion_cuts.specs.declared.portion.Portion.{Portion}
use Rattle.portion_cuts.proofs.CutLaws.{portions_found, leaves_within}
use Rattle.portion_cuts.proofs.cuts.portions.Goals as goal

pub list_steps-requires-clause-within : goal.list_steps-requires-clause-within
list_steps-requires-clause-within c =
    let it = c.args.sound.now in
    let count : length c.order.result.now ≡ length it.flow.order = ap length c.order.ensures.order ∙ length-map it.flow.order block_id in
    leaves_within it c.edges.ensures.sound c.edges.result.now c.edges.ensures.edges (length c.order.result.now) count

pub returns : goal.returns
returns c =
    let it = c.args.sound.now in
    let count : length c.order.result.now ≡ length it.flow.order = ap length c.order.ensures.order ∙ length-map it.flow.order block_id in
    let is = portions_found it c.edges.result.now c.edges.ensures.edges (length c.order.result.now) count c.in_ok-steps.steps.items c.as_slice.result.now c.in_ok-cuts.cuts.items c.as_slice-2.result.now c.as_slice.ensures.value c.as_slice-2.ensures.value (omega (arith, c.as_slice.ensures.len, c.in_ok-steps.ensures.size)) c.in_ok-steps.ensures.steps c.in_ok-cuts.ensures in
    subst (λ (portions : List Portion). IfOk c.list_portions.result (λ list. list.items ≡ portions)) is c.list_portions.ensures
