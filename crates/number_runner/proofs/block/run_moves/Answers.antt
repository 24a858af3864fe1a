use Rattle.std.proofs.Common.{◌+◌, map, drop, sym, ap, subst, ◌∙◌}
use Rattle.std.proofs.Math.ListN.{length-set}
use Rattle.ir_meaning.specs.declared.value.Val.TheVariants.{Num}
use Rattle.ir_runner.specs.Slots.{CanMove, moved}
use Rattle.ir_runner.proofs.RunLaws.{move_can, move_after, moved_all}
use Rattle.number_runner.proofs.StepLaws.{as_numbers, move_low}
use Rattle.number_runner.proofs.block.run_moves.Goals as goal

pub read-requires : goal.read-requires
read-requires c = (move_can c.args.moves.now c.loop-step.step-index _ (map Num c.loop-step.numbers) c.loop-step-test.true c.loop-step.invariant.can).1

pub bounds-numbers-step : goal.bounds-numbers-step
bounds-numbers-step c = move_low c.args.moves.now c.loop-step.step-index _ c.loop-step.numbers c.loop-step-test.true c.loop-step.invariant.can

pub loop-step-preserved : goal.loop-step-preserved
loop-step-preserved c =
    let rest = drop (c.loop-step.step-index + 1) c.args.moves.now in
    let can = (move_can c.args.moves.now c.loop-step.step-index _ (map Num c.loop-step.numbers) c.loop-step-test.true c.loop-step.invariant.can).2 in
    let turn = move_after c.args.moves.now c.loop-step.step-index _ (map Num c.loop-step.numbers) c.loop-step-test.true in
    let now = as_numbers c.loop-step.numbers _ c.in-Num.number _ (sym c.read.ensures ∙ c.in-Num.is) in
    record {
      can = subst (CanMove rest) now can;
      after = ap (moved rest) (sym now) ∙ sym turn ∙ c.loop-step.invariant.after;
      count = length-set c.loop-step.numbers _ c.in-Num.number ∙ c.loop-step.invariant.count;
    }

pub returns-clause-moved : goal.returns-clause-moved
returns-clause-moved c done = sym (moved_all c.args.moves.now c.loop-step.step-index (map Num c.loop-step.numbers) c.loop-step-test.false) ∙ c.loop-step.invariant.after
