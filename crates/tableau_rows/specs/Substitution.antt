-- One equation put into another, and the steps of it.
use Rattle.std.specs.Prelude.{◌≡◌, ◌≢◌, ℕ, ℤ, pos, ◌-ℤ◌, ◌*ℤ◌, ◌<ℤ◌, unsigned_abs}
use Rattle.std.specs.Int.{IsGcd}
use Rattle.wx_num.specs.declared.excess.NumOp.TheVariants.{Minus, Times}
use Rattle.wx_num.specs.declared.excess.Excess.{Excess}
use Rattle.tableau_rows.specs.declared.equation.Equation.{Equation}
use Rattle.tableau_rows.specs.Equation.{total, coefficient}

-- how often a column is taken in an equation
abbrev pub taken : Equation → ℕ → ℤ
taken equation column = coefficient equation.entries.items column

-- what the entries of an equation add up to
abbrev pub sum_at : (ℕ → ℤ) → Equation → ℤ
sum_at number equation = total number equation.entries.items

-- the equation holds where each column has a number
abbrev pub Satisfies : (ℕ → ℤ) → Equation → Type 0
Satisfies number equation = sum_at number equation ≡ pos 0

-- two numbers over their greatest common divisor
pub record AreInLowestTerms (a b p q : ℤ) : Type 0 where
  pub divisor : ℕ
  pub greatest : IsGcd (unsigned_abs a) (unsigned_abs b) divisor
  pub first : a ≡ p *ℤ pos divisor
  pub second : b ≡ q *ℤ pos divisor

-- one equation is a multiple of the other
pub record IsMultiple (new equation : Equation) : Type 0 where
  pub factor : ℤ
  pub factor_nonzero : factor ≢ pos 0
  pub sums : (number : ℕ → ℤ) → sum_at number new ≡ factor *ℤ sum_at number equation

-- a coefficient whose sign is turned
pub record IsTurningStep (equation : Equation) (step : Excess) : Type 0 where
  pub column : ℕ
  pub formed : step ≡ record { op = Minus; x = pos 0; y = taken equation column }

-- `p` times one equation less `q` times the other, divided by a number
pub record IsCombination (new row pivot : Equation) : Type 0 where
  pub p : ℤ
  pub q : ℤ
  pub divisor : ℤ
  pub p_nonzero : p ≢ pos 0
  pub divisor_nonzero : divisor ≢ pos 0
  pub sums : (number : ℕ → ℤ) → divisor *ℤ sum_at number new ≡ p *ℤ sum_at number row -ℤ q *ℤ sum_at number pivot

-- the numbers of the new equation before signs are turned: that of the row's own column, of the column that leaves, and of each other one but the one that enters
pub data IsFormed (row pivot : Equation) (p q : ℤ) (entering : ℕ) : ℤ → Type 0 where
  own : IsFormed row pivot p q entering (p *ℤ row.denominator)
  leaving : IsFormed row pivot p q entering (q *ℤ pivot.denominator)
  other : (column : ℕ) → column ≢ entering → IsFormed row pivot p q entering (p *ℤ taken row column -ℤ q *ℤ taken pivot column)

-- a step of putting `pivot` into `row` for the column that enters, with the factors p of the row and q of the pivot
pub data IsStep (row pivot : Equation) (p q : ℤ) (entering : ℕ) : Excess → Type 0 where
  times_own : IsStep row pivot p q entering (record { op = Times; x = p; y = row.denominator })
  times_leaving : IsStep row pivot p q entering (record { op = Times; x = q; y = pivot.denominator })
  times_row : (column : ℕ) → column ≢ entering → IsStep row pivot p q entering (record { op = Times; x = p; y = taken row column })
  times_pivot : (column : ℕ) → column ≢ entering → IsStep row pivot p q entering (record { op = Times; x = q; y = taken pivot column })
  difference : (column : ℕ) → column ≢ entering → IsStep row pivot p q entering (record { op = Minus; x = p *ℤ taken row column; y = q *ℤ taken pivot column })
  turned : (z : ℤ) → p <ℤ pos 0 → IsFormed row pivot p q entering z → IsStep row pivot p q entering (record { op = Minus; x = pos 0; y = z })

-- the same with the factors that belong to the column that enters
pub record IsSubstitutionStep (row pivot : Equation) (entering : ℕ) (step : Excess) : Type 0 where
  pub p : ℤ
  pub q : ℤ
  pub factors : AreInLowestTerms (taken pivot entering) (taken row entering) p q
  pub formed : IsStep row pivot p q entering step
