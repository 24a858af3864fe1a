use Rattle.std.proofs.Common.{◌≡◌, ◌<◌, ◌≤◌, ◌+◌, ◌∷◌, [], ◌++◌, ◌∙◌, List, length, sym, ap, subst, refl, arith}
use Rattle.std.proofs.lemmas.List.{length-append}
use Rattle.ll_tree.specs.declared.func.Func.{Func}
use Rattle.ll_tree.specs.declared.func.Param.{Param}
use Rattle.ll_links.specs.declared.link.BlockId.{BlockId}
use Rattle.ll_flow.specs.Paths.{label_of, GoesTo}
use Rattle.ir_runs.specs.Costs.{path_cost}
use Rattle.ir_runner.specs.declared.code.PhiMove.{PhiMove}
use Rattle.ir_runner.specs.LastRun.{labels_at}
use Rattle.ir_runner.specs.Slots.{moved}
use Rattle.ir_runner.specs.Start.{ArePlaced, HasArguments}
use Rattle.ir_runner.proofs.CostLaws.{cost_one}
use Rattle.ir_runner.proofs.StartLaws.{begin, args_count, pushed}
use Rattle.ir_runner.proofs.TurnLaws.{Stands}
use Rattle.ir_runner.proofs.LoopLaws as turn
use Rattle.ir_runner.proofs.runner.walk.Goals.{In-To, After-push-in-To}
use Rattle.ir_runner.proofs.runner.walk.Goals as goal

pub place_arguments-requires-clause-count : goal.place_arguments-requires-clause-count
place_arguments-requires-clause-count g c = ap (length {A = Param}) c.items.ensures ∙ args_count c.args.func.now.params c.args.args.now c.requires.arguments

pub turn-init : goal.turn-init
turn-init g c =
    let func = c.args.func.now in
    let costs = g.C.PathCosts.costs c.args.costs.now in
    let entry : BlockId = record { 0 = 0 } in
    let some = c.requires.rules.formed.some_block in
    let none : length c.args.path.now.items ≡ 0 = ap length c.requires.empty in
    let path : c.push.new.self.items ≡ entry ∷ [] =
    pushed c.push.result c.push.new.self.items _ (c.args.path.now.items ++ entry ∷ []) c.push.ensures.items (c.push.ensures.succeeds (omega (arith, c.args.path.now.ok.0, some, none, c.requires.room)))
    ∙ ap (λ (items : List BlockId). items ++ entry ∷ []) c.requires.empty in
    let has : HasArguments func c.args.args.now c.place_arguments.new.slots = record {
      room = omega (arith, c.requires.slots, c.place_arguments.auto.slots);
      placed = subst (λ (params : List Param). ArePlaced params c.args.args.now c.place_arguments.new.slots) c.items.ensures c.place_arguments.ensures;
    } in
    let block = c.from-cost.ensures ∙ c.block.ensures ∙ ap (λ (f : Func). costs.block (label_of f 0)) c.requires.costs in
    record {
      stands = subst (λ (all : List BlockId). Stands func c.args.args.now 0 all c.place_arguments.new.slots) (sym path) (begin func c.requires.rules c.args.args.now c.requires.arguments c.place_arguments.new.slots has);
      cost = block ∙ sym (cost_one costs (label_of func 0)) ∙ ap (λ (all : List BlockId). path_cost costs (labels_at func all)) (sym path);
      small = omega (arith, c.from-cost.ensures, c.block.type_inv, ap length path);
      room = omega (arith, c.requires.room, c.push.ensures.capacity);
    }

pub run_steps-requires : goal.run_steps-requires
run_steps-requires g c =
    turn.can_run c.args.func.now c.requires.rules c.args.args.now c.requires.arguments (g.C.PathCosts.costs c.args.costs.now) c.args.code.now c.requires.code c.turn.at.0 c.turn.path.items c.turn.slots c.turn.invariant.stands c.index-code-at.result c.index-code-at.is c.items-in-turn.result.now c.items-in-turn.ensures

pub returns-then-not-run_steps-clause-answer : goal.returns-then-not-run_steps-clause-answer
returns-then-not-run_steps-clause-answer g c =
    turn.falls c.args.func.now c.requires.rules c.args.args.now c.requires.arguments (g.C.PathCosts.costs c.args.costs.now) c.args.code.now c.requires.code c.turn.at.0 c.turn.path.items c.turn.slots c.turn.invariant.stands c.index-code-at.result c.index-code-at.is c.items-in-turn.result.now c.items-in-turn.ensures
    c.requires.taken c.run_steps.new.slots c.run_steps.result c.run_steps.ensures c.if-not-run_steps.true

pub next_of-requires : goal.next_of-requires
next_of-requires g c =
    turn.can_exit c.args.func.now c.requires.rules c.args.args.now c.requires.arguments (g.C.PathCosts.costs c.args.costs.now) c.args.code.now c.requires.code c.turn.at.0 c.turn.path.items c.turn.slots c.turn.invariant.stands c.index-code-at.result c.index-code-at.is c.items-in-turn.result.now c.items-in-turn.ensures
    c.requires.taken c.run_steps.new.slots c.run_steps.result c.run_steps.ensures c.if-not-run_steps.false

pub returns-in-Returns-clause-answer : goal.returns-in-Returns-clause-answer
returns-in-Returns-clause-answer g c =
    turn.returns c.args.func.now c.requires.rules c.args.args.now c.requires.arguments (g.C.PathCosts.costs c.args.costs.now) c.args.code.now c.requires.code c.turn.at.0 c.turn.path.items c.turn.slots c.turn.invariant.stands c.index-code-at.result c.index-code-at.is c.items-in-turn.result.now c.items-in-turn.ensures
    c.requires.taken c.run_steps.new.slots c.run_steps.result c.run_steps.ensures c.if-not-run_steps.false c.in-Returns.result c.turn.cost c.in-Returns.ensures c.turn.invariant.cost

pub returns-in-Fails-clause-answer : goal.returns-in-Fails-clause-answer
returns-in-Fails-clause-answer g c =
    turn.sticks c.args.func.now c.requires.rules c.args.args.now c.requires.arguments (g.C.PathCosts.costs c.args.costs.now) c.args.code.now c.requires.code c.turn.at.0 c.turn.path.items c.turn.slots c.turn.invariant.stands c.index-code-at.result c.index-code-at.is c.items-in-turn.result.now c.items-in-turn.ensures
    c.requires.taken c.run_steps.new.slots c.run_steps.result c.run_steps.ensures c.if-not-run_steps.false c.in-Fails.cause c.in-Fails.ensures

pub run_moves-requires : goal.run_moves-requires
run_moves-requires g c =
    rw c.items-in-To.ensures
    (turn.can_move c.args.func.now c.requires.rules c.args.args.now c.requires.arguments (g.C.PathCosts.costs c.args.costs.now) c.args.code.now c.requires.code c.turn.at.0 c.turn.path.items c.turn.slots c.turn.invariant.stands c.index-code-at.result c.index-code-at.is c.items-in-turn.result.now c.items-in-turn.ensures
    c.requires.taken c.run_steps.new.slots c.run_steps.result c.run_steps.ensures c.if-not-run_steps.false c.in-To.jump.now c.in-To.ensures)

pub edge-requires-clause-to : goal.edge-requires-clause-to
edge-requires-clause-to g c =
    subst (λ (f : Func). c.in-To.jump.now.to.0 < length f.blocks) (sym c.requires.costs)
    (turn.low c.args.func.now c.requires.rules c.args.args.now c.requires.arguments (g.C.PathCosts.costs c.args.costs.now) c.args.code.now c.requires.code c.turn.at.0 c.turn.path.items c.turn.slots c.turn.invariant.stands c.index-code-at.result c.index-code-at.is c.items-in-turn.result.now c.items-in-turn.ensures
    c.requires.taken c.run_steps.new.slots c.run_steps.result c.run_steps.ensures c.if-not-run_steps.false c.in-To.jump.now c.in-To.ensures)

pub edge-requires-clause-goes : goal.edge-requires-clause-goes
edge-requires-clause-goes g c =
    subst (λ (f : Func). GoesTo f (label_of f c.turn.at.0) (label_of f c.in-To.jump.now.to.0)) (sym c.requires.costs)
    (turn.goes_to c.args.func.now c.requires.rules c.args.args.now c.requires.arguments (g.C.PathCosts.costs c.args.costs.now) c.args.code.now c.requires.code c.turn.at.0 c.turn.path.items c.turn.slots c.turn.invariant.stands c.index-code-at.result c.index-code-at.is c.items-in-turn.result.now c.items-in-turn.ensures
    c.requires.taken c.run_steps.new.slots c.run_steps.result c.run_steps.ensures c.if-not-run_steps.false c.in-To.jump.now c.in-To.ensures)

pub block-requires-in-To : goal.block-requires-in-To
block-requires-in-To g c =
    subst (λ (f : Func). c.in-To.jump.now.to.0 < length f.blocks) (sym c.requires.costs)
    (turn.low c.args.func.now c.requires.rules c.args.args.now c.requires.arguments (g.C.PathCosts.costs c.args.costs.now) c.args.code.now c.requires.code c.turn.at.0 c.turn.path.items c.turn.slots c.turn.invariant.stands c.index-code-at.result c.index-code-at.is c.items-in-turn.result.now c.items-in-turn.ensures
    c.requires.taken c.run_steps.new.slots c.run_steps.result c.run_steps.ensures c.if-not-run_steps.false c.in-To.jump.now c.in-To.ensures)

-- the path has room for one block more
room : (g : _) (c : In-To g) → length c.turn.path.items + 1 ≤ length c.args.func.now.blocks
room g c =
    turn.shorter c.args.func.now c.requires.rules c.args.args.now c.requires.arguments (g.C.PathCosts.costs c.args.costs.now) c.args.code.now c.requires.code c.turn.at.0 c.turn.path.items c.turn.slots c.turn.invariant.stands c.index-code-at.result c.index-code-at.is c.items-in-turn.result.now c.items-in-turn.ensures
    c.requires.taken c.run_steps.new.slots c.run_steps.result c.run_steps.ensures c.if-not-run_steps.false c.in-To.jump.now c.in-To.ensures

pub overflow_add-cost-in-To : goal.overflow_add-cost-in-To
overflow_add-cost-in-To g c =
    let more = room g (goal.at.overflow_add-cost-in-To g c).In-To in
    omega (arith, more, c.turn.invariant.small, c.requires.rules.limits.blocks, c.from.ensures, c.edge.type_inv, c.from-in-To.ensures, c.block-in-To.type_inv)

-- the path with that block
path-is : (g : _) (c : After-push-in-To g) → length c.turn.path.items + 1 ≤ length c.args.func.now.blocks → c.push-in-To.new.self.items ≡ c.turn.path.items ++ c.in-To.jump.now.to ∷ []
path-is g c more =
    pushed c.push-in-To.result c.push-in-To.new.self.items _ (c.turn.path.items ++ c.in-To.jump.now.to ∷ []) c.push-in-To.ensures.items (c.push-in-To.ensures.succeeds (omega (arith, c.turn.path.ok.0, more, c.turn.invariant.room)))

pub turn-smaller : goal.turn-smaller
turn-smaller g c =
    let more = room g (goal.at.turn-smaller g c).In-To in
    let long : length c.push-in-To.new.self.items ≡ length c.turn.path.items + 1 = ap length (path-is g (goal.at.turn-smaller g c).After-push-in-To more) ∙ length-append c.turn.path.items (c.in-To.jump.now.to ∷ []) in
    omega (arith, more, long)

pub turn-preserved : goal.turn-preserved
turn-preserved g c =
    let more = room g (goal.at.turn-preserved g c).In-To in
    let path = path-is g (goal.at.turn-preserved g c).After-push-in-To more in
    let long : length c.push-in-To.new.self.items ≡ length c.turn.path.items + 1 = ap length path ∙ length-append c.turn.path.items (c.in-To.jump.now.to ∷ []) in
    let costs = g.C.PathCosts.costs c.args.costs.now in
    let moves = c.run_moves.ensures ∙ ap (λ (all : List PhiMove). moved all c.run_steps.new.slots) c.items-in-To.ensures in
    let edge = c.from.ensures ∙ c.edge.ensures ∙ ap (λ (f : Func). costs.edge (label_of f c.turn.at.0) (label_of f c.in-To.jump.now.to.0)) c.requires.costs in
    let block = c.from-in-To.ensures ∙ c.block-in-To.ensures ∙ ap (λ (f : Func). costs.block (label_of f c.in-To.jump.now.to.0)) c.requires.costs in
    record {
      stands =
          turn.goes_on c.args.func.now c.requires.rules c.args.args.now c.requires.arguments (g.C.PathCosts.costs c.args.costs.now) c.args.code.now c.requires.code c.turn.at.0 c.turn.path.items c.turn.slots c.turn.invariant.stands c.index-code-at.result c.index-code-at.is c.items-in-turn.result.now c.items-in-turn.ensures c.requires.taken c.run_steps.new.slots c.run_steps.result c.run_steps.ensures c.if-not-run_steps.false c.in-To.jump.now c.in-To.ensures c.push-in-To.new.self.items path c.run_moves.new.slots moves;
      cost =
          turn.costs_more c.args.func.now c.requires.rules c.args.args.now c.requires.arguments (g.C.PathCosts.costs c.args.costs.now) c.args.code.now c.requires.code c.turn.at.0 c.turn.path.items c.turn.slots c.turn.invariant.stands c.index-code-at.result c.index-code-at.is c.items-in-turn.result.now c.items-in-turn.ensures c.requires.taken c.run_steps.new.slots c.run_steps.result c.run_steps.ensures c.if-not-run_steps.false c.in-To.jump.now c.in-To.ensures c.push-in-To.new.self.items path c.turn.cost c.from.result c.from-in-To.result _ c.turn.invariant.cost edge block refl;
      small = omega (arith, long, c.turn.invariant.small, c.from.ensures, c.edge.type_inv, c.from-in-To.ensures, c.block-in-To.type_inv);
      room = omega (arith, c.turn.invariant.room, c.push-in-To.ensures.capacity);
    }
