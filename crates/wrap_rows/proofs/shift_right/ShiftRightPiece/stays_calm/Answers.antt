use Rattle.std.proofs.Common.{ℕ, ◌+◌, ◌-◌, ◌^◌, ◌≤◌, Bool, true, false, [], ◌∷◌, ◌++◌, pos, arith}
use Rattle.std.proofs.Math.Nat.{pow-le-pow_right}
use Rattle.wrap_rows.specs.declared.shift_right.ShiftRight.{ShiftRight}
use Rattle.wrap_rows.specs.Blocks.{equals, sign_clauses}
use Rattle.wrap_rows.specs.Small.{IsNarrow, IsShort, IsSmall}
use Rattle.wrap_rows.specs.ShiftRight.{IsAt, helper_ranges, ranges, sign_at, rest_at, division_row, rows_of, division_at, sign_clauses_of, listed, mark_clauses, value_clauses, layout}
use Rattle.wrap_rows.proofs.CaseLaws.{Each, All-from_Each}
use Rattle.wrap_rows.proofs.BlockLaws.{Each-append}
use Rattle.wrap_rows.proofs.SmallLaws.{IsLight, IsListed, power_small, negation_size, number_narrow, mark_narrow, Each-if, equation-short, marks-short, sign_row-light, sign_clauses-short, small-from}
use Rattle.wrap_rows.proofs.shift_right.ShiftRightPiece.stays_calm.Goals as goal

module _ (shift : ShiftRight) (first : ℕ) (is_at : IsAt shift first) where
  amount_small : 2 ^ shift.amount ≤ 2 ^ 32
  amount_small = power_small shift.amount (omega (arith, is_at.below, is_at.width.greatest))

  product_small : 2 ^ (shift.amount + shift.width) ≤ 2 ^ 64
  product_small = pow-le-pow_right {n = 2} (omega arith) {i = shift.amount + shift.width} {j = 64} (omega (arith, is_at.below, is_at.width.greatest))

  row_light : (signed : Bool) → IsLight (division_row signed shift first)
  row_light true =
      omega (arith, product_small, amount_small, power_small shift.width is_at.width.greatest, negation_size (pos (2 ^ shift.width)), negation_size (pos (2 ^ shift.amount)))
  row_light false = omega (arith, amount_small, negation_size (pos (2 ^ shift.amount)))

  rows_light : (signed : Bool) → Each IsLight (rows_of signed shift first)
  rows_light true = (sign_row-light shift.width shift.a.number (sign_at first) is_at.width, (row_light true, tt))
  rows_light false = (row_light false, tt)

  listed_each : (exact : Bool) (rest : ℕ) → Each IsListed (listed exact rest)
  listed_each true rest = (omega arith, tt)
  listed_each false rest = tt

  clauses_short : (signed : Bool) → Each (Each IsShort) (sign_clauses_of signed shift ++ value_clauses signed shift first)
  clauses_short signed =
      Each-append (Each IsShort) (sign_clauses_of signed shift) (value_clauses signed shift first)
      (Each-if (Each IsShort) signed (sign_clauses shift.width 0) [] (sign_clauses-short shift.width 0 is_at.width) tt)
      (Each-append (Each IsShort) (equals (division_at signed) (pos 0)) (mark_clauses signed shift first) (equation-short (division_at signed))
      (marks-short (first + 1) (shift.a.mark ∷ shift.amount_mark ∷ []) (listed shift.flags.exact (rest_at signed first)) (listed_each shift.flags.exact (rest_at signed first))))

  small : IsSmall (layout shift first)
  small = small-from (layout shift first) (rows_light shift.signed) (clauses_short shift.signed)

  rest_narrow : IsNarrow (pos 0, pos (2 ^ shift.amount - 1))
  rest_narrow = omega (arith, amount_small)

  helpers_narrow : (signed : Bool) → Each IsNarrow (helper_ranges signed shift.amount)
  helpers_narrow true = (mark_narrow, (rest_narrow, tt))
  helpers_narrow false = (rest_narrow, tt)

pub returns-clause-narrow : goal.returns-clause-narrow
returns-clause-narrow c =
    let shift = c.args.self.now in
    All-from_Each IsNarrow (ranges shift) (number_narrow shift.width c.requires.at.width, (mark_narrow, helpers_narrow shift _ c.requires.at shift.signed))

pub returns-clause-small : goal.returns-clause-small
returns-clause-small c = small c.args.self.now _ c.requires.at
