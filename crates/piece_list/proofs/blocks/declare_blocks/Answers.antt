use Rattle.std.proofs.Common.{◌≡◌, ◌+◌, ℕ, length, subst, arith}
use Rattle.piece_list.specs.Drafts.{IsOver}
use Rattle.piece_list.proofs.FollowLaws.{over_self, over_then, constants_kept}
use Rattle.piece_list.proofs.blocks.declare_blocks.Goals as goal

pub loop-at-init : goal.loop-at-init
loop-at-init c = over_self c.args.sound.now 0 0 c.args.into.now c.requires.drafted

pub declare_block-requires : goal.declare_block-requires
declare_block-requires c =
    let it = c.args.sound.now in
    let over = c.loop-at.invariant in
    record {
      within = omega (arith, c.loop-at-test.true, c.requires.blocks);
      constants = constants_kept c.args.constants.now c.args.into.now.spots c.loop-at.into.spots over.on.same c.requires.constants;
      drafted = over.drafted;
    }

pub loop-at-preserved : goal.loop-at-preserved
loop-at-preserved c = over_then c.args.sound.now (c.loop-at.at + 1) 0 c.args.into.now c.loop-at.into c.declare_block.new.into c.loop-at.invariant.on c.in_ok-declare_block.ensures

pub returns : goal.returns
returns c =
    let it = c.args.sound.now in
    let all : c.loop-at.at ≡ length it.flow.order = omega (arith, c.loop-at-test.false, c.loop-at.auto.at-end, c.requires.blocks) in
    subst (λ (at : ℕ). IsOver it at 0 c.args.into.now c.loop-at.into) all c.loop-at.invariant
