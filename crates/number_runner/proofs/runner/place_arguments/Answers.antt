use Rattle.std.proofs.Common.{◌∙◌, ◌≤◌, sym, length, get_or, arith}
use Rattle.std.proofs.Math.ListN.{length-set}
use Rattle.ir_runner.proofs.StartLaws.{barred_none}
use Rattle.number_runner.proofs.PlaceLaws.{barred_later, placed_more}
use Rattle.number_runner.proofs.runner.place_arguments.Goals as goal

pub loop-at-preserved : goal.loop-at-preserved
loop-at-preserved c =
    let in_range = sym c.is_in_range.ensures ∙ c.if-not-is_in_range.false in
    let room : length c.args.params.now ≤ length c.loop-at.numbers = omega (arith, c.requires.room, c.loop-at.invariant.count) in
    record {
      placed = placed_more c.args.params.now c.args.args.now c.requires.count c.loop-at.at c.index-params-at.result c.loop-at-test.true c.index-params-at.is in_range c.loop-at.numbers room c.loop-at.invariant.placed;
      in_ranges = barred_later c.args.params.now c.args.args.now c.requires.count c.loop-at.at c.index-params-at.result c.loop-at-test.true c.index-params-at.is in_range ∙ c.loop-at.invariant.in_ranges;
      count = length-set c.loop-at.numbers c.loop-at.at (get_or c.args.args.now c.loop-at.at 0) ∙ c.loop-at.invariant.count;
    }

pub returns-clause-taken : goal.returns-clause-taken
returns-clause-taken c done = sym c.loop-at.invariant.in_ranges ∙ barred_none c.args.params.now c.args.args.now c.requires.count c.loop-at.at c.loop-at-test.false
