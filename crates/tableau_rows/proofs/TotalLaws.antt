-- Sums over columns: a list that grows, a single column, and equal numbers.
use Rattle.std.proofs.Common.{◌≡◌, ◌≢◌, ℕ, zero, suc, ◌<◌, List, [], ◌∷◌, ◌++◌, length, get_or, ℤ, pos, ◌+ℤ◌, ◌*ℤ◌, All, refl, sym, ap, arith}
use Rattle.std.specs.Prelude.{AllPairs}
use Rattle.std.proofs.lemmas.Int.{ints}
use Rattle.std.proofs.lemmas.Bool.Decides.{nat_tests}
use Rattle.std.proofs.lemmas.List.Elements.{All-head, All-tail, All-weaker}
use Rattle.mix_system.proofs.SumLaws.{int_sum_by_push}
use Rattle.tableau_rows.specs.declared.entry.Entry.{Entry}
use Rattle.tableau_rows.specs.Equation.{total, unit, coefficient}

pub unit_same : (n : ℕ) → unit n n ≡ pos 1
unit_same n = grind (arith, nat_tests)

pub unit_other : (n m : ℕ) → n ≢ m → unit n m ≡ pos 0
unit_other n m h = grind (arith, nat_tests)

pub total_push : (at : ℕ → ℤ) (entries : List Entry) (entry : Entry) → total at (entries ++ entry ∷ []) ≡ total at entries +ℤ entry.coeff *ℤ at entry.column
total_push at entries entry = int_sum_by_push (λ entry. entry.coeff *ℤ at entry.column) entries entry

-- a column that has no entry
pub coefficient_none : (entries : List Entry) (column : ℕ) → All (λ entry. entry.column ≢ column) entries → coefficient entries column ≡ pos 0
coefficient_none [] column none = refl
coefficient_none (e ∷ entries) column none =
    let rest = coefficient_none entries column (All-tail (λ entry. entry.column ≢ column) e entries none) in
    let first = All-head (λ entry. entry.column ≢ column) e entries none in
    let other = unit_other column e.column (λ same. first (sym same)) in
    omega (arith, ints, rest, other, ap (λ u. e.coeff *ℤ u) other)

pub rising-tail : (e : Entry) (entries : List Entry) → AllPairs (λ entry later. entry.column < later.column) (e ∷ entries) → AllPairs (λ entry later. entry.column < later.column) entries
rising-tail e entries rising i j d before within = rising (suc i) (suc j) d (omega arith) (omega arith)

pub rising-head : (e : Entry) (entries : List Entry) → AllPairs (λ entry later. entry.column < later.column) (e ∷ entries) → All (λ later. e.column < later.column) entries
rising-head e entries rising k d within = rising 0 (suc k) d (omega arith) (omega arith)

pub coefficient_first : (e : Entry) (entries : List Entry) → All (λ later. e.column < later.column) entries → coefficient (e ∷ entries) e.column ≡ e.coeff
coefficient_first e entries above =
    let rest = coefficient_none entries e.column (All-weaker (λ later. e.column < later.column) (λ later. later.column ≢ e.column) (λ later h same. absurd (omega arith)) entries above) in
    let here = unit_same e.column in
    omega (arith, ints, rest, ap (λ u. e.coeff *ℤ u) here)

-- each entry's coefficient is that of its column
pub coefficient_at : (entries : List Entry) → AllPairs (λ entry later. entry.column < later.column) entries → (i : ℕ) (d : Entry) → i < length entries → coefficient entries (get_or entries i d).column ≡ (get_or entries i d).coeff
coefficient_at [] rising i d within = absurd (omega arith)
coefficient_at (e ∷ entries) rising zero d within = coefficient_first e entries (rising-head e entries rising)
coefficient_at (e ∷ entries) rising (suc i) d within =
    let rest = coefficient_at entries (rising-tail e entries rising) i d (omega arith) in
    let after : e.column < (get_or entries i d).column = rising 0 (suc i) d (omega arith) (omega arith) in
    let other = unit_other (get_or entries i d).column e.column (λ same. absurd (omega arith)) in
    omega (arith, ints, rest, ap (λ u. e.coeff *ℤ u) other)
