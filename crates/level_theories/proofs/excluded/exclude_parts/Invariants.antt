use Rattle.std.proofs.Common.{ℕ, ◌<◌}
use Rattle.std.specs.List.{HoldsAt}
use Rattle.level_theories.specs.Theory.{IsCovered, AreExcluded, HasMore}
use Rattle.level_theories.proofs.excluded.exclude_parts.Given as goal

abbrev pub invariant-loop-at : goal.invariant-loop-at
invariant-loop-at l = record {
  lits : AreExcluded l.level l.lits;
  more : HasMore l.initial.lits l.lits;
  covered : (k : ℕ) → k < l.at → HoldsAt (λ part. IsCovered l.level l.lits part.lit) l.parts k;
}
