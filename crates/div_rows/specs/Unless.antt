-- A building block: a row's sum is a number unless a literal is true.
use Rattle.std.specs.Prelude.{ℕ, ℤ, List, [], ◌∷◌}
use Rattle.mix_system.specs.declared.literal.Term.TheVariants.{Row}
use Rattle.mix_system.specs.declared.literal.Lit.{Lit}
use Rattle.wrap_rows.specs.Layout.{at_most, at_least}

abbrev pub equals_unless : Lit → ℕ → ℤ → List (List Lit)
equals_unless lit row number = (lit ∷ at_most (Row row) number ∷ []) ∷ (lit ∷ at_least (Row row) number ∷ []) ∷ []
