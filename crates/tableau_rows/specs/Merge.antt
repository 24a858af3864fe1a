-- Two lists of rising columns, taken apart column by column.
use Rattle.std.specs.Prelude.{◌≡◌, ◌<◌, ℕ, ℤ, ◌+ℤ◌, ◌*ℤ◌, List, [], ◌∷◌, All}
use Rattle.tableau_rows.specs.declared.entry.Entry.{Entry}
use Rattle.tableau_rows.specs.Equation.{total, IsSparse}

-- the first entry is of that column
abbrev pub BeginsAt : ℕ → List Entry → Type 0
BeginsAt column [] = ⊥
BeginsAt column (entry ∷ entries) = entry.column ≡ column

-- the entries are those of a column that is taken so often, and the rest, which lies above it
pub record IsSplitOff (entries : List Entry) (column : ℕ) (coeff : ℤ) (rest : List Entry) : Type 0 where
  pub sums : (number : ℕ → ℤ) → total number entries ≡ coeff *ℤ number column +ℤ total number rest
  pub above : All (λ entry. column < entry.column) rest
  pub sparse : IsSparse rest
