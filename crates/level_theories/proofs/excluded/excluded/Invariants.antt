use Rattle.std.proofs.Common.{ℕ, ◌<◌}
use Rattle.std.specs.List.{HoldsAt}
use Rattle.level_theories.specs.Theory.{NodeIsCovered, AreExcluded}
use Rattle.level_theories.proofs.excluded.excluded.Given as goal

abbrev pub invariant-loop-at : goal.invariant-loop-at
invariant-loop-at l = record {
  lits : AreExcluded l.level l.lits;
  covered : (k : ℕ) → k < l.at → HoldsAt (NodeIsCovered l.level l.lits) l.nodes k;
}
