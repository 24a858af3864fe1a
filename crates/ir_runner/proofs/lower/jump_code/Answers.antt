use Rattle.std.proofs.Common.{◌≡◌, ◌<◌, ◌+◌, ◌∷◌, [], ◌++◌, List, length, map, drop, sym, ◌∙◌, subst, ap, arith}
use Rattle.ll_rules.specs.Items.{values_of}
use Rattle.ll_links.specs.Items.{item_at}
use Rattle.ll_links.specs.Links.{source_coming}
use Rattle.ll_tree.specs.declared.block.Phi.{Phi}
use Rattle.ll_tree.specs.declared.block.Block.{Block}
use Rattle.ll_flow.specs.Paths.{label_of}
use Rattle.ir_runner.specs.declared.code.PhiMove.{PhiMove}
use Rattle.ir_runner.specs.Code.{known, move_code, phis_at}
use Rattle.ir_runner.specs.Place.{IsAt}
use Rattle.ir_runner.proofs.LowerLaws.{phi_there, element, map_next, move_linked}
use Rattle.ir_runner.proofs.TurnLaws.{phis_are}
use Rattle.ir_runner.proofs.lower.jump_code.Goals.{In-loop-phi}
use Rattle.ir_runner.proofs.lower.jump_code.Goals as goal

is_at : (c : In-loop-phi) → IsAt c.args.sound.now.func c.args.to.0 c.index-items-to.result
is_at c = record {
  within = c.requires.to;
  is = rw (← c.func.ensures.func, ← c.items.ensures) (sym c.index-items-to.is);
}

inside : (c : In-loop-phi) → c.loop-phi.phi < length c.index-items-to.result.phis
inside c = let count = ap (λ (block : Block). length block.phis) c.index-items-to.is in omega (arith, c.loop-phi-test.true, c.len-count.ensures, count)

pub incoming-requires-clause-phi : goal.incoming-requires-clause-phi
incoming-requires-clause-phi c = phi_there c.args.sound.now.func c.args.to.0 c.index-items-to.result (is_at c) c.loop-phi.phi (inside c)

pub loop-phi-preserved : goal.loop-phi-preserved
loop-phi-preserved c =
    let func = c.args.sound.now.func in
    let block = c.index-items-to.result in
    let d = (goal.at.loop-phi-preserved c).In-loop-phi in
    let from = label_of func c.args.from.0 in
    let phis : phis_at func c.args.to.0 ≡ block.phis = phis_are func c.func.ensures.rules c.args.to.0 block (is_at d) in
    let phi = element block.phis c.loop-phi.phi (inside d) in
    let move : PhiMove = record { source = c.known-source.result; to = c.slot_of-slot.result } in
    let source : move.source ≡ known (source_coming (values_of func) from (item_at func.blocks c.args.to.0 c.loop-phi.phi)) = c.known-source.ensures ∙ ap known c.incoming.ensures in
    let is : move ≡ move_code func from phi.0 = move_linked func c.args.to.0 block (is_at d) c.args.from.0 c.loop-phi.phi phi.0 c.links.result move (inside d) phi.1 c.links.ensures.links source c.slot_of-slot.ensures in
    let so_far = rw phis at c.loop-phi.invariant in
    subst (λ (now : List PhiMove). now ++ map (move_code func from) (drop (c.loop-phi.phi + 1) (phis_at func c.args.to.0)) ≡ map (move_code func from) (phis_at func c.args.to.0)) (sym c.in_ok-push.ensures.ok)
    (subst (λ (all : List Phi). (c.loop-phi.moves ++ move ∷ []) ++ map (move_code func from) (drop (c.loop-phi.phi + 1) all) ≡ map (move_code func from) all) (sym phis)
    (map_next (move_code func from) c.loop-phi.moves block.phis c.loop-phi.phi phi.0 move so_far (inside d) phi.1 is))
