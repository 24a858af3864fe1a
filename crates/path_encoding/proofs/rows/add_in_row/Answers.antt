use Rattle.std.proofs.Common.{◌<◌, ◌∙◌, ℕ, length, sym, ap, subst, arith, rules}
use Rattle.std.specs.Prelude.{zip}
use Rattle.std.specs.List.{All, filter}
use Rattle.path_encoding.specs.FlowRows.{enters}
use Rattle.path_encoding.proofs.FlowLaws.{flow_known, flow_sizes}
use Rattle.path_encoding.proofs.rows.add_in_row.Goals as goal

pub add_sum-requires-clause-known : goal.add_sum-requires-clause-known
add_sum-requires-clause-known c =
    let vars = length c.args.into.now.ranges in
    let low : c.index-var.result.now < vars = search rules in
    let known = subst (All (λ (var : ℕ). var < vars)) (sym c.as_slice-vars.ensures.value) c.requires.known.edges in
    rw (c.as_slice-row.ensures.value ∙ c.in_ok-parts.ensures)
    (flow_known vars c.index-var.result.now (enters c.args.at) c.edges.result.now c.as_slice-vars.result.now known low)

pub add_sum-requires-clause-small : goal.add_sum-requires-clause-small
add_sum-requires-clause-small c =
    let is = c.in_ok-parts.ensures in
    let pairs = filter (enters c.args.at) (zip c.edges.result.now c.as_slice-vars.result.now) in
    rw (c.as_slice-row.ensures.value ∙ is) (omega (arith, flow_sizes c.index-var.result.now pairs, ap length is, c.in_ok-parts.parts.ok.0))
