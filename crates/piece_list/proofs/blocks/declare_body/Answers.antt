use Rattle.std.proofs.Common.{◌≡◌, ◌<◌, ◌+◌, ℕ, List, length, get_or, ap, sym, subst, ◌∙◌, arith}
use Rattle.ll_tree.specs.declared.block.Instr.{Instr}
use Rattle.ll_rules.specs.Items.{Item, OfInstr}
use Rattle.path_encoding.specs.Spots.{block_at}
use Rattle.piece_list.specs.Drafts.{front_of, IsItem, IsDrafted, IsOver}
use Rattle.piece_list.proofs.EndLaws.{phis_first, instr_item}
use Rattle.piece_list.proofs.FollowLaws.{over_self, over_then, constants_kept}
use Rattle.piece_list.proofs.blocks.declare_body.Goals as goal

pub loop-k-init : goal.loop-k-init
loop-k-init c =
    let it = c.args.sound.now in
    let at = c.args.at in
    let start : length (block_at it at).phis ≡ c.args.phis + 0 = omega (arith, c.requires.phis) in
    let drafted : IsDrafted it at (front_of it at (length (block_at it at).phis)) c.args.into.now = subst (λ (front : List Item). IsDrafted it at front c.args.into.now) (sym (phis_first it at)) c.requires.drafted in
    (omega arith, over_self it at (c.args.phis + 0) c.args.into.now (subst (λ (n : ℕ). IsDrafted it at (front_of it at n) c.args.into.now) start drafted))

pub declare_instr-requires : goal.declare_instr-requires
declare_instr-requires c =
    let it = c.args.sound.now in
    let at = c.args.at in
    let k = c.loop-k.k in
    let instr = c.index-body-k.result in
    let over = c.loop-k.invariant.1 in
    let low : k < length (block_at it at).body = subst (λ (body : List Instr). k < length body) (sym c.requires.body) c.loop-k-test.true in
    let stands : get_or (block_at it at).body k instr ≡ instr = ap (λ (body : List Instr). get_or body k instr) c.requires.body ∙ sym c.index-body-k.is in
    record {
      here = subst (λ (n : ℕ). IsItem it at (n + k) (OfInstr instr)) c.requires.phis (instr_item it at c.requires.within c.requires.sound k instr low stands);
      constants = constants_kept c.args.constants.now c.args.into.now.spots c.loop-k.into.spots over.on.same c.requires.constants;
      drafted = over.drafted;
    }

pub loop-k-preserved : goal.loop-k-preserved
loop-k-preserved c =
    let it = c.args.sound.now in
    let at = c.args.at in
    let next : c.args.phis + c.loop-k.k + 1 ≡ c.args.phis + (c.loop-k.k + 1) = omega arith in
    let low : c.loop-k.k < length c.args.body.now = c.loop-k-test.true in
    let over = over_then it at (c.args.phis + c.loop-k.k + 1) c.args.into.now c.loop-k.into c.declare_instr.new.into c.loop-k.invariant.1.on c.in_ok-declare_instr.ensures in
    (omega (arith, low), subst (λ (n : ℕ). IsOver it at n c.args.into.now c.declare_instr.new.into) next over)

pub returns : goal.returns
returns c =
    let it = c.args.sound.now in
    let all : c.loop-k.k ≡ length c.args.body.now = omega (arith, c.loop-k-test.false, c.loop-k.invariant.0) in
    subst (λ (k : ℕ). IsOver it c.args.at (c.args.phis + k) c.args.into.now c.loop-k.into) all c.loop-k.invariant.1
