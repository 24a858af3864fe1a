-- Which columns an equation has entries for.
use Rattle.std.proofs.Common.{◌≡◌, ◌≢◌, ℕ, ◌<◌, ◌≤◌, List, [], ◌∷◌, length, get_or, pos, All, sym, ap, ◌∙◌, ⊎_elim, arith}
use Rattle.std.proofs.lemmas.Int.{ints}
use Rattle.std.proofs.lemmas.Bool.{cases_lt}
use Rattle.tableau_rows.specs.declared.entry.Entry.{Entry}
use Rattle.tableau_rows.specs.declared.equation.Equation.{Equation}
use Rattle.tableau_rows.specs.Substitution.{taken}
use Rattle.bounded_simplex.specs.TableauOf.{AreWithin}
use Rattle.tableau_rows.proofs.TotalLaws.{coefficient_at}

-- an entry's column is taken
pub entry_taken : (equation : Equation) (k : ℕ) (d : Entry) → k < length equation.entries.items → taken equation (get_or equation.entries.items k d).column ≢ pos 0
entry_taken equation k d within none =
    equation.sound.sparse.nonzero k d within (sym (coefficient_at equation.entries.items equation.sound.sparse.rising k d within) ∙ none)

-- a column that isn't taken has no entry
pub no_entry : (equation : Equation) (column : ℕ) → taken equation column ≡ pos 0 → All (λ entry. entry.column ≢ column) equation.entries.items
no_entry equation column none k d within same = entry_taken equation k d within (ap (taken equation) same ∙ none)

pub entries_within : (equation : Equation) (columns : ℕ) → ((column : ℕ) → columns ≤ column → taken equation column ≡ pos 0) → All (λ entry. entry.column < columns) equation.entries.items
entries_within equation columns none k d within =
    ⊎_elim (λ (lt : (get_or equation.entries.items k d).column < columns). lt)
    (λ (le : columns ≤ (get_or equation.entries.items k d).column). absurd (entry_taken equation k d within (none (get_or equation.entries.items k d).column le)))
    (cases_lt (get_or equation.entries.items k d).column columns)

-- the basic column is taken
pub basic_taken : (equation : Equation) → taken equation equation.basic ≢ pos 0
basic_taken equation none = absurd (omega (arith, ints, none, equation.sound.solved, equation.sound.positive))

pub basic_within : (equation : Equation) (columns : ℕ) → ((column : ℕ) → columns ≤ column → taken equation column ≡ pos 0) → equation.basic < columns
basic_within equation columns none =
    ⊎_elim (λ (lt : equation.basic < columns). lt) (λ (le : columns ≤ equation.basic). absurd (basic_taken equation (none equation.basic le))) (cases_lt equation.basic columns)

-- the same of the equation at a place
pub basic_known : (columns : ℕ) (rows : List Equation) (at basic : ℕ) → AreWithin columns rows → at < length rows → ((d : Equation) → basic ≡ (get_or rows at d).basic) → basic < columns
basic_known columns [] at basic known within is = absurd (omega arith)
basic_known columns (row ∷ rows) at basic known within is =
    let here = basic_within (get_or (row ∷ rows) at row) columns (λ column beyond. known at row column within beyond) in
    rw (is row) here

pub taken_known : (columns : ℕ) (rows : List Equation) (at column : ℕ) → AreWithin columns rows → at < length rows → ((d : Equation) → taken (get_or rows at d) column ≢ pos 0) → column < columns
taken_known columns [] at column known within takes = absurd (omega arith)
taken_known columns (row ∷ rows) at column known within takes =
    ⊎_elim (λ (lt : column < columns). lt) (λ (le : columns ≤ column). absurd (takes row (known at row column within le))) (cases_lt column columns)
