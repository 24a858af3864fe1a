-- The front of a list of rising columns.
use Rattle.std.proofs.Common.{◌≡◌, ◌≢◌, ℕ, zero, suc, ◌+◌, ◌-◌, ◌<◌, ◌≤◌, List, [], ◌∷◌, length, get_or, take, drop, pos, ◌*ℤ◌, All, ap, arith}
use Rattle.std.proofs.lemmas.Int.{ints}
use Rattle.std.proofs.lemmas.List.{take_all}
use Rattle.std.proofs.lemmas.List.Elements.{All-head, All-tail, All-weaker, All-nil}
use Rattle.tableau_rows.specs.declared.entry.Entry.{Entry}
use Rattle.tableau_rows.specs.Equation.{IsSparse}
use Rattle.tableau_rows.specs.Merge.{IsSplitOff}
use Rattle.tableau_rows.proofs.TotalLaws.{rising-tail, rising-head}

-- the first column is the least
pub least_first : (entries : List Entry) (d : Entry) (column : ℕ) → IsSparse entries → column ≤ (get_or entries 0 d).column → All (λ entry. column ≤ entry.column) entries
least_first entries d column sparse h zero e within = first entries d e column h within
  where
    first : (entries : List Entry) (d e : Entry) (column : ℕ) → column ≤ (get_or entries 0 d).column → 0 < length entries → column ≤ (get_or entries 0 e).column
    first [] d e column h within = absurd (omega arith)
    first (x ∷ entries) d e column h within = h
least_first [] d column sparse h (suc k) e within = absurd (omega arith)
least_first (x ∷ entries) d column sparse h (suc k) e within =
    let later : x.column < (get_or entries k e).column = sparse.rising 0 (suc k) e (omega arith) within in
    omega arith

IsSparse-tail : (x : Entry) (entries : List Entry) → IsSparse (x ∷ entries) → IsSparse entries
IsSparse-tail x entries sparse = record { rising = rising-tail x entries sparse.rising; nonzero = All-tail (λ entry. entry.coeff ≢ pos 0) x entries sparse.nonzero }

-- no entry of a column that is below all others
pub split_none : (entries : List Entry) (d : Entry) (column : ℕ) → IsSparse entries → All (λ entry. column ≤ entry.column) entries → (get_or entries 0 d).column ≢ column → IsSplitOff entries column (pos 0) entries
split_none [] d column sparse least other = record { sums = λ number. omega (arith, ints); above = All-nil (λ entry. column < entry.column); sparse = sparse }
split_none (x ∷ entries) d column sparse least other =
    let first : column ≤ x.column = All-head (λ entry. column ≤ entry.column) x entries least in
    record {
      sums = λ number. omega (arith, ints);
      above = All-weaker (λ entry. column + 1 ≤ entry.column) (λ entry. column < entry.column) (λ entry h. omega arith) (x ∷ entries) (least_first (x ∷ entries) d (column + 1) sparse (omega arith));
      sparse = sparse;
    }

pub split_first : (entries : List Entry) (d : Entry) (column : ℕ) → 0 < length entries → IsSparse entries → (get_or entries 0 d).column ≡ column → IsSplitOff entries column (get_or entries 0 d).coeff (take (length entries - 1) (drop 1 entries))
split_first [] d column within sparse same = absurd (omega arith)
split_first (x ∷ entries) d column within sparse same =
    let whole : take (length (x ∷ entries) - 1) entries ≡ entries = take_all _ entries (omega arith) in
    rw whole (record {
      sums = λ number. omega (arith, ints, ap (λ n. x.coeff *ℤ number n) same);
      above = All-weaker (λ later. x.column < later.column) (λ later. column < later.column) (λ later h. omega arith) entries (rising-head x entries sparse.rising);
      sparse = IsSparse-tail x entries sparse;
    })
