use Rattle.std.proofs.Common.{◌+◌, ◌-◌, length}
use Rattle.mix_system.specs.Tally.{units}
use Rattle.integer_splits.specs.Search.{CountsNodes}
use Rattle.integer_splits.specs.Stack.{Stand}
use Rattle.integer_splits.proofs.search.search.Given as goal

abbrev pub invariant-loop-halves : goal.invariant-loop-halves
invariant-loop-halves l =
    record {
      stand : Stand l.initial.simplex.bounds l.simplex.bounds l.nodes l.halves.items;
      counted : CountsNodes l.initial.tally l.tally l.nodes (length l.halves.items + 1);
    }

abbrev pub decreases-loop-halves : goal.decreases-loop-halves
decreases-loop-halves l = l.tally.budget - units l.tally
