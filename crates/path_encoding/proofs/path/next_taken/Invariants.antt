use Rattle.std.proofs.Common.{◌≡◌}
use Rattle.std.specs.Prelude.{zip}
use Rattle.path_encoding.specs.Reading.{next_from}
use Rattle.path_encoding.proofs.PairLaws.{pairs_from}
use Rattle.path_encoding.proofs.path.next_taken.Given as goal

abbrev pub invariant-loop-item : goal.invariant-loop-item
invariant-loop-item l = next_from l.point (pairs_from l.edges l.vars l.item) l.at ≡ next_from l.point (zip l.edges l.vars) l.at
