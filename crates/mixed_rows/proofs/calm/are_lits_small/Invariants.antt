use Rattle.std.proofs.Common.{ℕ, ◌<◌, get_or}
use Rattle.mix_system.specs.Calm.{IsSmall}
use Rattle.mix_system.specs.Lit.{negation}
use Rattle.mix_system.specs.declared.literal.Lit.{Lit}
use Rattle.mixed_rows.proofs.calm.are_lits_small.Given as goal

abbrev pub invariant-loop-lit : goal.invariant-loop-lit
invariant-loop-lit l =
    (k : ℕ) (d : Lit) → k < l.lit-index → IsSmall (get_or l.lits k d).bound × IsSmall (negation (get_or l.lits k d)).bound
