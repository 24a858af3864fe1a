use Rattle.std.proofs.Common.{◌≡◌, ◌<◌, ◌+◌, ℕ, List, length, get_or, ap, sym, subst, ◌∙◌, arith}
use Rattle.ll_tree.specs.declared.block.Phi.{Phi}
use Rattle.path_encoding.specs.Spots.{block_at}
use Rattle.piece_list.specs.Drafts.{IsOver}
use Rattle.piece_list.proofs.EndLaws.{phi_item}
use Rattle.piece_list.proofs.FollowLaws.{over_self, over_then, constants_kept}
use Rattle.piece_list.proofs.blocks.declare_phis.Goals as goal

pub loop-item-init : goal.loop-item-init
loop-item-init c = (omega arith, over_self c.args.sound.now c.args.at 0 c.args.into.now c.requires.drafted)

pub declare_phi-requires : goal.declare_phi-requires
declare_phi-requires c =
    let it = c.args.sound.now in
    let item = c.loop-item.item in
    let phi = c.index-phis-item.result in
    let over = c.loop-item.invariant.1 in
    let low : item < length (block_at it c.args.at).phis = subst (λ (phis : List Phi). item < length phis) (sym c.requires.phis) c.loop-item-test.true in
    let stands : get_or (block_at it c.args.at).phis item phi ≡ phi = ap (λ (phis : List Phi). get_or phis item phi) c.requires.phis ∙ sym c.index-phis-item.is in
    record {
      here = phi_item it c.args.at c.requires.within c.requires.sound item phi low stands;
      constants = constants_kept c.args.constants.now c.args.into.now.spots c.loop-item.into.spots over.on.same c.requires.constants;
      drafted = over.drafted;
    }

pub loop-item-preserved : goal.loop-item-preserved
loop-item-preserved c =
    let low : c.loop-item.item < length c.args.phis.now = c.loop-item-test.true in
    (omega (arith, low), over_then c.args.sound.now c.args.at (c.loop-item.item + 1) c.args.into.now c.loop-item.into c.declare_phi.new.into c.loop-item.invariant.1.on c.in_ok-declare_phi.ensures)

pub returns : goal.returns
returns c =
    let it = c.args.sound.now in
    let all : c.loop-item.item ≡ length c.args.phis.now = omega (arith, c.loop-item-test.false, c.loop-item.invariant.0) in
    subst (λ (item : ℕ). IsOver it c.args.at item c.args.into.now c.loop-item.into) all c.loop-item.invariant.1
