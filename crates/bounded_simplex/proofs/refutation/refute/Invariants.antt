use Rattle.std.proofs.Common.{◌≡◌, length}
use Rattle.bounded_simplex.specs.Combination.{AreWorked}
use Rattle.bounded_simplex.proofs.RefutationLaws.{Refuting, front_of}
use Rattle.bounded_simplex.proofs.refutation.refute.Given as goal

abbrev pub invariant-loop-entry : goal.invariant-loop-entry
invariant-loop-entry l =
    record {
      refuting : Refuting l.bounds l.upwards (front_of l.bounds l.upwards l.equation l.entry-index) l.combination.parts;
      worked : AreWorked l.bounds.system.rows l.combination.parts l.combination.sums.items l.combination.constant;
      count : length l.combination.sums.items ≡ length l.bounds.system.ranges;
    }
