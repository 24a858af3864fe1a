use Rattle.std.proofs.Common.{ℕ, ◌+◌, ◌-◌, ◌^◌, ◌≤◌, Bool, true, false, [], ◌∷◌, ◌++◌, pos, arith}
use Rattle.std.proofs.Math.Nat.{div-le_self}
use Rattle.wrap_rows.specs.Blocks.{equals}
use Rattle.wrap_rows.specs.Small.{IsNarrow, IsShort, IsSmall}
use Rattle.wrap_rows.specs.ShiftRight.{listed}
use Rattle.wrap_rows.proofs.CaseLaws.{Each, All-from_Each}
use Rattle.wrap_rows.proofs.BlockLaws.{Each-append}
use Rattle.wrap_rows.proofs.SmallLaws.{IsLight, IsListed, power_small, negation_size, number_narrow, mark_narrow, equation-short, marks-short, small-from}
use Rattle.div_rows.specs.declared.division.DivisionKind.{DivisionKind}
use Rattle.div_rows.specs.declared.division.DivisionKind.TheVariants.{Quotient, Remainder}
use Rattle.div_rows.specs.declared.unsigned_division.UnsignedDivision.{UnsignedDivision}
use Rattle.div_rows.specs.Division.{is_exact}
use Rattle.div_rows.specs.UnsignedDivision.{IsAt, helper_range, ranges, division_row, limit_clauses, mark_clauses, layout}
use Rattle.div_rows.proofs.unsigned_division.UnsignedDivisionPiece.stays_calm.Goals as goal

module _ (division : UnsignedDivision) (first : ℕ) (is_at : IsAt division first) where
  divisor_small : division.divisor ≤ 2 ^ 32
  divisor_small = omega (arith, is_at.divisor, power_small division.width is_at.width.greatest)

  row_light : IsLight (division_row division.kind division first)
  row_light = omega (arith, divisor_small, negation_size (pos division.divisor))

  limit_short : (kind : DivisionKind) → Each (Each IsShort) (limit_clauses kind division first)
  limit_short Quotient = tt
  limit_short Remainder = ((omega (arith, divisor_small), tt), tt)

  listed_each : (exact : Bool) (rest : ℕ) → Each IsListed (listed exact rest)
  listed_each true rest = (omega arith, tt)
  listed_each false rest = tt

  clauses_short : (kind : DivisionKind) → Each (Each IsShort) (limit_clauses kind division first ++ (equals 0 (pos 0) ++ mark_clauses kind division first))
  clauses_short kind =
      Each-append (Each IsShort) (limit_clauses kind division first) (equals 0 (pos 0) ++ mark_clauses kind division first) (limit_short kind)
      (Each-append (Each IsShort) (equals 0 (pos 0)) (mark_clauses kind division first) (equation-short 0)
      (marks-short (first + 1) (division.a.mark ∷ division.divisor_mark ∷ []) (listed (is_exact kind division.flags) (first + 1 + 1)) (listed_each (is_exact kind division.flags) (first + 1 + 1))))

  small : IsSmall (layout division first)
  small = small-from (layout division first) (row_light, tt) (clauses_short division.kind)

  helper_narrow : (kind : DivisionKind) → IsNarrow (helper_range kind division)
  helper_narrow Quotient = omega (arith, divisor_small)
  helper_narrow Remainder =
      omega (arith, div-le_self (2 ^ division.width - 1) division.divisor, power_small division.width is_at.width.greatest)

pub returns-clause-narrow : goal.returns-clause-narrow
returns-clause-narrow c =
    let division = c.args.self.now in
    All-from_Each IsNarrow (ranges division) (number_narrow division.width c.requires.at.width, (mark_narrow, (helper_narrow division _ c.requires.at division.kind, tt)))

pub returns-clause-small : goal.returns-clause-small
returns-clause-small c = small c.args.self.now _ c.requires.at
