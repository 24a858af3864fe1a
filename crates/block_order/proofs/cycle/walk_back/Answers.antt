use Rattle.std.proofs.Common.{◌<◌, length, false, refl, sym, ◌∙◌, arith}
use Rattle.std.proofs.lemmas.List.{get_or_default}
use Rattle.block_order.proofs.TakingLaws.{left_falls}
use Rattle.block_order.proofs.WalkLaws.{walked_first, walked_more}
use Rattle.block_order.proofs.cycle.walk_back.Goals as goal

pub loop-seen-init : goal.loop-seen-init
loop-seen-init c =
    walked_first c.args.edges.now c.args.taken.now c.in_ok-seen.seen.items c.new-walk.result.items c.args.start (length c.args.taken.now) (c.in_ok-seen.ensures.items_if_clones_equal (λ y is. is)) refl c.new-walk.ensures.items c.requires.start c.requires.left

pub loop-seen-preserved : goal.loop-seen-preserved
loop-seen-preserved c =
    rw c.in_ok-push.ensures.items (walked_more c.args.edges.now c.args.taken.now c.loop-seen.seen.items c.loop-seen.walk.items c.loop-seen.at c.left_before-at.result c.requires.within c.loop-seen.invariant c.left_before-at.ensures.edge c.left_before-at.ensures.left)

pub loop-seen-smaller : goal.loop-seen-smaller
loop-seen-smaller c =
    let within : c.loop-seen.at < length c.loop-seen.seen.items = omega arith in
    left_falls c.loop-seen.seen.items c.loop-seen.at within (get_or_default c.loop-seen.seen.items c.loop-seen.at false c.index.result.now within ∙ sym c.index.ensures ∙ c.loop-seen-test.true)
