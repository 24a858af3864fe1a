use Rattle.std.proofs.Common.{◌≡◌, ◌<◌, ◌+◌, ◌++◌, length, map, drop, sym, ◌∙◌, subst, ap, List}
use Rattle.ll_rules.specs.Items.{labels_of, values_of}
use Rattle.ll_links.specs.Items.{item_at}
use Rattle.ll_links.specs.Links.{AreLinks}
use Rattle.ir_runner.specs.declared.code.Step.{Step}
use Rattle.ir_runner.specs.Code.{step_with, step_code}
use Rattle.ir_runner.proofs.LowerLaws.{map_next, step_linked}
use Rattle.ir_runner.proofs.lower.steps_of.Goals as goal

pub loop-item-preserved : goal.loop-item-preserved
loop-item-preserved c =
    let func = c.args.sound.now.func in
    let block = c.args.block.now in
    let linked : AreLinks (values_of func) (labels_of func) (item_at func.blocks c.args.at.0 (length block.phis + c.loop-item.item)) c.links-links.result = rw (← c.len-first.ensures) c.links-links.ensures.links in
    let inside : c.loop-item.item < length block.body = rw (← c.items-body.ensures) c.loop-item-test.true in
    let is = rw c.items-body.ensures at c.index-body-item.is in
    let step : c.step_with.result ≡ step_code func c.index-body-item.result =
    c.step_with.ensures ∙ ap (step_with c.index-body-item.result.op c.links-links.result.sources.now) c.slot_of.ensures ∙ step_linked func c.args.at.0 block c.requires.at c.loop-item.item c.index-body-item.result c.links-links.result inside is linked in
    subst (λ (now : List Step). now ++ map (step_code func) (drop (c.loop-item.item + 1) c.items-body.result.now) ≡ map (step_code func) c.items-body.result.now) (sym c.in_ok-push.ensures.ok)
    (map_next (step_code func) c.loop-item.steps c.items-body.result.now c.loop-item.item c.index-body-item.result c.step_with.result c.loop-item.invariant c.loop-item-test.true c.index-body-item.is step)
