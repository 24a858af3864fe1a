use Rattle.std.proofs.Common.{ℕ, ◌+◌, ◌-◌, ◌^◌, ◌≤◌, Bool, true, false, [], ◌∷◌, ◌++◌, pos, arith}
use Rattle.wrap_rows.specs.Blocks.{equals, sign_clauses}
use Rattle.wrap_rows.specs.Small.{IsNarrow, IsShort, IsSmall}
use Rattle.wrap_rows.proofs.CaseLaws.{Each, All-from_Each}
use Rattle.wrap_rows.proofs.BlockLaws.{Each-append}
use Rattle.wrap_rows.proofs.SmallLaws.{IsLight, IsListed, power_small, half_small, negation_size, number_narrow, mark_narrow, equation-short, marks-short, sign_row-light, sign_clauses-short, small-from}
use Rattle.div_rows.specs.declared.signed_division.SignedDivision.{SignedDivision}
use Rattle.div_rows.specs.Division.{is_exact}
use Rattle.div_rows.specs.SignedDivision.{IsAt, reading, size, sign_at, remainder_at, quotient_range, remainder_range, ranges, division_row, lift_row, rows_of, side_clauses, listed, mark_clauses, value_clauses, layout}
use Rattle.div_rows.proofs.SignedLaws.{size_in}
use Rattle.div_rows.proofs.signed_division.SignedDivisionPiece.stays_calm.Goals as goal

module _ (division : SignedDivision) (first : ℕ) (is_at : IsAt division first) where
  size_small : size division ≤ 2 ^ 32
  size_small = omega (arith, size_in division.width division.divisor is_at.width (omega (arith, is_at.divisor)), half_small division.width is_at.width)

  division_light : IsLight (division_row division first)
  division_light =
      omega (arith, size_small, power_small division.width is_at.width.greatest, negation_size (pos (2 ^ division.width)), negation_size (reading division))

  lift_light : IsLight (lift_row division.kind division first)
  lift_light = omega (arith, power_small division.width is_at.width.greatest, negation_size (pos (2 ^ division.width)))

  rows_light : Each IsLight (rows_of division.kind division first)
  rows_light = (sign_row-light division.width division.a.number (sign_at first) is_at.width, (division_light, (lift_light, tt)))

  sides_short : Each (Each IsShort) (side_clauses first)
  sides_short = ((omega arith, (omega arith, tt)), ((omega arith, (omega arith, tt)), tt))

  listed_each : (exact : Bool) (rest : ℕ) → Each IsListed (listed exact rest)
  listed_each true rest = (omega arith, (omega arith, tt))
  listed_each false rest = tt

  clauses_short : Each (Each IsShort) (sign_clauses division.width 0 ++ (equals 1 (pos 0) ++ (side_clauses first ++ value_clauses division.kind division first)))
  clauses_short =
      Each-append (Each IsShort) (sign_clauses division.width 0) (equals 1 (pos 0) ++ (side_clauses first ++ value_clauses division.kind division first)) (sign_clauses-short division.width 0 is_at.width)
      (Each-append (Each IsShort) (equals 1 (pos 0)) (side_clauses first ++ value_clauses division.kind division first) (equation-short 1)
      (Each-append (Each IsShort) (side_clauses first) (value_clauses division.kind division first) sides_short
      (Each-append (Each IsShort) (equals 2 (pos 0)) (mark_clauses division.kind division first) (equation-short 2)
      (marks-short (first + 1) (division.a.mark ∷ division.divisor_mark ∷ []) (listed (is_exact division.kind division.flags) (remainder_at first)) (listed_each (is_exact division.kind division.flags) (remainder_at first))))))

  small : IsSmall (layout division first)
  small = small-from (layout division first) rows_light clauses_short

  quotient_narrow : IsNarrow (quotient_range division)
  quotient_narrow = omega (arith, half_small division.width is_at.width, negation_size (pos (2 ^ (division.width - 1))))

  remainder_narrow : IsNarrow (remainder_range division)
  remainder_narrow = omega (arith, size_small, negation_size (pos (size division - 1)))

pub returns-clause-narrow : goal.returns-clause-narrow
returns-clause-narrow c =
    let division = c.args.self.now in
    All-from_Each IsNarrow (ranges division)
    (number_narrow division.width c.requires.at.width, (mark_narrow, (mark_narrow, (quotient_narrow division _ c.requires.at, (remainder_narrow division _ c.requires.at, (mark_narrow, tt))))))

pub returns-clause-small : goal.returns-clause-small
returns-clause-small c = small c.args.self.now _ c.requires.at
