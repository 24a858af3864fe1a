-- Halving a list of rising columns.
use Rattle.std.proofs.Common.{◌≡◌, ℕ, ◌+◌, ◌<◌, ◌≤◌, List, length, get_or, pos, subst, ⊎_elim, arith}
use Rattle.std.proofs.lemmas.Bool.{cases_lt}
use Rattle.std.proofs.lemmas.List.{get_or_default}
use Rattle.tableau_rows.specs.declared.entry.Entry.{Entry}
use Rattle.tableau_rows.specs.Equation.{coefficient, IsSparse}
use Rattle.tableau_rows.proofs.TotalLaws.{coefficient_none}

pub below_middle : (entries : List Entry) → IsSparse entries → (middle : ℕ) (e : Entry) (column : ℕ) → middle < length entries → (get_or entries middle e).column < column
    → (k : ℕ) (d : Entry) → k < middle + 1 → (get_or entries k d).column < column
below_middle entries sparse middle e column within less k d before =
    let here : (get_or entries middle d).column < column = subst (λ (x : Entry). x.column < column) (get_or_default entries middle e d within) less in
    ⊎_elim (λ (lt : k < middle). let was : (get_or entries k d).column < (get_or entries middle d).column = sparse.rising k middle d lt within in omega arith)
    (λ (le : middle ≤ k). let same : k ≡ middle = omega arith in rw same here) (cases_lt k middle)

pub above_middle : (entries : List Entry) → IsSparse entries → (middle : ℕ) (e : Entry) (column : ℕ) → column < (get_or entries middle e).column
    → (k : ℕ) (d : Entry) → middle ≤ k → k < length entries → column < (get_or entries k d).column
above_middle entries sparse middle e column more k d from within =
    let here : column < (get_or entries middle d).column = subst (λ (x : Entry). column < x.column) (get_or_default entries middle e d (omega arith)) more in
    ⊎_elim (λ (lt : middle < k). let was : (get_or entries middle d).column < (get_or entries k d).column = sparse.rising middle k d lt within in omega arith)
    (λ (le : k ≤ middle). let same : k ≡ middle = omega arith in rw same here) (cases_lt middle k)

pub none_left : (entries : List Entry) (low high column : ℕ) → high ≤ low
    → ((k : ℕ) (d : Entry) → k < low → (get_or entries k d).column < column) → ((k : ℕ) (d : Entry) → high ≤ k → k < length entries → column < (get_or entries k d).column)
    → coefficient entries column ≡ pos 0
none_left entries low high column met below above =
    coefficient_none entries column (λ k d within same.
    ⊎_elim (λ (lt : k < low). let was = below k d lt in absurd (omega arith)) (λ (le : low ≤ k). let was = above k d (omega arith) within in absurd (omega arith)) (cases_lt k low))
