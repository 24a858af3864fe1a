-- What a bound in force says of a literal on its side of its term.
use Rattle.std.specs.Prelude.{ℤ, Option, Some, None}
use Rattle.mix_system.specs.declared.literal.Lit.{Lit}
use Rattle.mix_system.specs.Lit.{IsWithin}

-- there is a bound, and it is at least as strong as the literal's
abbrev pub Reaches : Option ℤ → Lit → Type 0
Reaches None lit = ⊥
Reaches (Some bound) lit = IsWithin lit.side lit.bound bound
