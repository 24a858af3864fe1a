-- Sums over columns, and what an equation of a tableau keeps.
use Rattle.std.specs.Prelude.{◌≡◌, ◌≢◌, ℕ, ◌<◌, ℤ, pos, ◌*ℤ◌, ◌≤ℤ◌, neg_ℤ, unsigned_abs, List, cond, ◌==◌, All, AllPairs}
use Rattle.std.specs.Int.{◌∣◌}
use Rattle.mix_system.specs.Sum.{int_sum_by}
use Rattle.tableau_rows.specs.declared.entry.Entry.{Entry}

-- what the entries add up to where each column has a number
abbrev pub total : (ℕ → ℤ) → List Entry → ℤ
total number entries = int_sum_by (λ entry. entry.coeff *ℤ number entry.column) entries

-- 1 for one column and 0 for each other
abbrev pub unit : ℕ → ℕ → ℤ
unit column other = cond (column == other) (pos 1) (pos 0)

-- how often a column is taken
abbrev pub coefficient : List Entry → ℕ → ℤ
coefficient entries column = total (unit column) entries

-- the columns rise strictly, and no coefficient is 0
pub record IsSparse (entries : List Entry) : Type 0 where
  pub rising : AllPairs (λ entry later. entry.column < later.column) entries
  pub nonzero : All (λ entry. entry.coeff ≢ pos 0) entries

-- no number but 1 divides each coefficient
abbrev pub IsReduced : List Entry → Type 0
IsReduced entries = (d : ℕ) → All (λ entry. d ∣ unsigned_abs entry.coeff) entries → d ≡ 1

-- the entries add up to 0, and the basic column has the coefficient `-denominator`: so `denominator` times the basic column is the sum of the other entries
pub record IsSolved (basic : ℕ) (denominator : ℤ) (entries : List Entry) : Type 0 where
  pub sparse : IsSparse entries
  pub reduced : IsReduced entries
  pub positive : pos 1 ≤ℤ denominator
  pub solved : coefficient entries basic ≡ neg_ℤ denominator
