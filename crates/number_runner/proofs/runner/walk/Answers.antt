use Rattle.std.proofs.Common.{rules, ◌≡◌, ◌<◌, ◌+◌, ◌^◌, ◌∷◌, [], ◌++◌, ◌∙◌, List, length, map, false, sym, ap, subst, refl, arith}
use Rattle.std.specs.Prelude.{zip}
use Rattle.std.specs.List.{list_any}
use Rattle.std.proofs.lemmas.List.{length-map}
use Rattle.ll_tree.specs.declared.func.Func.{Func}
use Rattle.ll_tree.specs.declared.func.Param.{Param}
use Rattle.ll_flow.specs.Paths.{label_of}
use Rattle.ir_meaning.specs.declared.value.Val.TheVariants.{Num}
use Rattle.ir_runs.specs.Walk.{has_poison_argument, is_barred}
use Rattle.ir_runner.specs.Start.{ArePlaced, HasArguments}
use Rattle.ir_runner.proofs.CostLaws.{cost_one}
use Rattle.ir_runner.proofs.StartLaws.{begin, args_count}
use Rattle.number_runner.proofs.RunLaws as run
use Rattle.number_runner.proofs.runner.walk.Goals as goal

pub place_arguments-requires-clause-count : goal.place_arguments-requires-clause-count
place_arguments-requires-clause-count g c = ap (length {A = Param}) c.items.ensures ∙ args_count c.args.func.now.params c.args.args.now c.requires.arguments

pub loop-count-init : goal.loop-count-init
loop-count-init g c =
    let func = c.args.func.now in
    let costs = g.C.PathCosts.costs c.args.costs.now in
    let slots = map Num c.place_arguments.new.numbers in
    let has : HasArguments func c.args.args.now slots = record {
      room = omega (arith, c.requires.room, c.place_arguments.ensures.count, length-map c.place_arguments.new.numbers Num);
      placed = subst (λ (params : List Param). ArePlaced params c.args.args.now slots) c.items.ensures (c.if-not-place_arguments.ensures.placed refl);
    } in
    let block = c.from-cost.ensures ∙ c.block.ensures ∙ ap (λ (f : Func). costs.block (label_of f 0)) c.requires.costs in
    record {
      path = record { 0 = 0 } ∷ [];
      stands = begin func c.requires.rules c.args.args.now c.requires.arguments slots has;
      cost = block ∙ sym (cost_one costs (label_of func 0));
      small = omega (arith, c.from-cost.ensures, c.block.type_inv);
      count = refl;
    }

pub run_steps-requires : goal.run_steps-requires
run_steps-requires g c =
    let taken : has_poison_argument c.args.func.now c.args.args.now ≡ false = ap (λ (params : List Param). list_any is_barred (zip params c.args.args.now)) (sym c.items.ensures) ∙ c.if-not-place_arguments.ensures.taken refl in
    rw c.items-in-loop-count.ensures (run.can_steps c.args.func.now c.requires.rules c.args.args.now c.requires.arguments taken (g.C.PathCosts.costs c.args.costs.now) c.args.code.now c.requires.count c.requires.blocks c.loop-count.at.0 c.loop-count.invariant.path c.loop-count.numbers c.loop-count.invariant.stands c.index-code-at.result c.index-code-at.is)

pub leave-requires : goal.leave-requires
leave-requires g c =
    let taken : has_poison_argument c.args.func.now c.args.args.now ≡ false = ap (λ (params : List Param). list_any is_barred (zip params c.args.args.now)) (sym c.items.ensures) ∙ c.if-not-place_arguments.ensures.taken refl in
    let ran = rw c.items-in-loop-count.ensures at c.if-not-run_steps.ensures.ran refl in
    run.can_leave c.args.func.now c.requires.rules c.args.args.now c.requires.arguments taken (g.C.PathCosts.costs c.args.costs.now) c.args.code.now c.requires.count c.requires.blocks c.loop-count.at.0 c.loop-count.invariant.path c.loop-count.numbers c.loop-count.invariant.stands c.index-code-at.result c.index-code-at.is c.run_steps.new.numbers ran

pub returns-in-Returns-clause-cost : goal.returns-in-Returns-clause-cost
returns-in-Returns-clause-cost g c =
    let taken : has_poison_argument c.args.func.now c.args.args.now ≡ false = ap (λ (params : List Param). list_any is_barred (zip params c.args.args.now)) (sym c.items.ensures) ∙ c.if-not-place_arguments.ensures.taken refl in
    let ran = rw c.items-in-loop-count.ensures at c.if-not-run_steps.ensures.ran refl in
    run.reached c.args.func.now c.requires.rules c.args.args.now c.requires.arguments taken (g.C.PathCosts.costs c.args.costs.now) c.args.code.now c.requires.count c.requires.blocks c.loop-count.at.0 c.loop-count.invariant.path c.loop-count.numbers c.loop-count.invariant.stands c.index-code-at.result c.index-code-at.is c.run_steps.new.numbers ran c.loop-count.cost c.loop-count.invariant.cost c.in-Returns.ensures.way

pub loop-count-preserved : goal.loop-count-preserved
loop-count-preserved g c =
    let taken : has_poison_argument c.args.func.now c.args.args.now ≡ false = ap (λ (params : List Param). list_any is_barred (zip params c.args.args.now)) (sym c.items.ensures) ∙ c.if-not-place_arguments.ensures.taken refl in
    let ran = rw c.items-in-loop-count.ensures at c.if-not-run_steps.ensures.ran refl in
    let cost = run.cost_on c.args.func.now c.requires.rules c.args.args.now c.requires.arguments taken (g.C.PathCosts.costs c.args.costs.now) c.args.code.now c.requires.count c.requires.blocks c.loop-count.at.0 c.loop-count.invariant.path c.loop-count.numbers c.loop-count.invariant.stands c.index-code-at.result c.index-code-at.is c.run_steps.new.numbers ran c.leave.new.numbers c.in-To.to c.in-To.edge c.in-To.block c.in-To.ensures.way c.loop-count.cost c.loop-count.invariant.cost in
    record {
      path = c.loop-count.invariant.path ++ c.in-To.to ∷ [];
      stands = run.stands_on c.args.func.now c.requires.rules c.args.args.now c.requires.arguments taken (g.C.PathCosts.costs c.args.costs.now) c.args.code.now c.requires.count c.requires.blocks c.loop-count.at.0 c.loop-count.invariant.path c.loop-count.numbers c.loop-count.invariant.stands c.index-code-at.result c.index-code-at.is c.run_steps.new.numbers ran c.leave.new.numbers c.in-To.to c.in-To.edge c.in-To.block c.in-To.ensures.way;
      cost = (λ i. c.loop-count.cost + (c.from.ensures i + c.from-in-To.ensures i)) ∙ cost;
      small = let edge : c.in-To.edge < 2 ^ 32 = search rules in let block : c.in-To.block < 2 ^ 32 = search rules in omega (arith, c.loop-count.invariant.small, c.from.ensures, c.from-in-To.ensures, edge, block);
      count = c.leave.ensures.count ∙ c.run_steps.ensures.count ∙ c.loop-count.invariant.count;
    }
