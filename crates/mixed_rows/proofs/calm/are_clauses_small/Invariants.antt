use Rattle.std.proofs.Common.{ℕ, ◌<◌, List, All, get_or}
use Rattle.mix_system.specs.Calm.{IsSmall}
use Rattle.mix_system.specs.Lit.{negation}
use Rattle.mix_system.specs.declared.literal.Lit.{Lit}
use Rattle.mixed_rows.proofs.calm.are_clauses_small.Given as goal

abbrev pub invariant-loop-clause : goal.invariant-loop-clause
invariant-loop-clause l =
    (k : ℕ) (d : List Lit) → k < l.clause → All (λ lit. IsSmall lit.bound × IsSmall (negation lit).bound) (get_or l.system.clauses k d)
