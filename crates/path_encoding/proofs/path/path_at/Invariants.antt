use Rattle.std.proofs.Common.{◌≡◌, ℕ, List, length}
use Rattle.path_encoding.specs.Paths.{IsTaken}
use Rattle.path_encoding.proofs.ReadPathLaws.{HasRead}
use Rattle.path_encoding.proofs.path.path_at.Given as goal

abbrev pub invariant-loop : goal.invariant-loop
invariant-loop l = record {
  read : (full : List ℕ) → IsTaken l.sound l.spots l.point full → HasRead full l.path.items l.at;
  count : length l.path.items ≡ l.counter;
}
