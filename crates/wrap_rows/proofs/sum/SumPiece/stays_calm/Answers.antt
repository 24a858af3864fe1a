use Rattle.std.proofs.Common.{ℕ, ◌+◌, ◌^◌, ◌≤◌, Bool, true, false, [], ◌∷◌, ◌++◌, pos, arith}
use Rattle.std.specs.Prelude.{unsigned_abs}
use Rattle.wrap_rows.specs.declared.sum.SumKind.{SumKind}
use Rattle.wrap_rows.specs.declared.sum.SumKind.TheVariants.{Plus, Minus}
use Rattle.wrap_rows.specs.declared.sum.Sum.{Sum}
use Rattle.wrap_rows.specs.Blocks.{equals, marks, sign_clauses}
use Rattle.wrap_rows.specs.Small.{IsNarrow, IsShort, IsSmall}
use Rattle.wrap_rows.specs.Wrapping.{leaving, exceeding}
use Rattle.wrap_rows.specs.Sum.{IsAt, sign_coefficient, carry_range, ranges, carry_row, signed_row, signed_rows, signed_clauses, operands, literals, layout}
use Rattle.wrap_rows.proofs.CaseLaws.{Each, All-from_Each}
use Rattle.wrap_rows.proofs.BlockLaws.{Each-append}
use Rattle.wrap_rows.proofs.SmallLaws.{IsLight, power_small, negation_size, number_narrow, mark_narrow, Each-if, equation-short, marks-short, listed-of, leaving-listed, exceeding-listed, sign_row-light, sign_clauses-short, small-from}
use Rattle.wrap_rows.proofs.SumPieceLaws.{coefficient_small}
use Rattle.wrap_rows.proofs.sum.SumPiece.stays_calm.Goals as goal

sign_coefficient_size : (kind : SumKind) (width : ℕ) → unsigned_abs (sign_coefficient kind width) ≤ 2 ^ width
sign_coefficient_size Plus width = omega (arith, negation_size (pos (2 ^ width)))
sign_coefficient_size Minus width = omega arith

carry_narrow : (kind : SumKind) → IsNarrow (carry_range kind)
carry_narrow Plus = omega arith
carry_narrow Minus = omega arith

module _ (sum : Sum) (first : ℕ) (is_at : IsAt sum first) where
  power : 2 ^ sum.width ≤ 2 ^ 32
  power = power_small sum.width is_at.width.greatest

  carry_light : IsLight (carry_row sum first)
  carry_light = omega (arith, power, negation_size (pos (2 ^ sum.width)), coefficient_small sum.kind)

  signed_light : (sign : ℕ) → IsLight (signed_row sum sign)
  signed_light sign = omega (arith, power, negation_size (pos (2 ^ sum.width)), coefficient_small sum.kind, sign_coefficient_size sum.kind sum.width)

  signed_rows_light : (nsw : Bool) (sign : ℕ) → Each IsLight (signed_rows nsw sum sign)
  signed_rows_light true sign =
      (sign_row-light sum.width sum.a.number sign is_at.width, (sign_row-light sum.width sum.b.number (sign + 1) is_at.width, (signed_light sign, tt)))
  signed_rows_light false sign = tt

  small : IsSmall (layout sum first)
  small =
      let nuw = sum.flags.nuw in
      let nsw = sum.flags.nsw in
      let marked = marks (first + 1) (operands sum) (literals nuw nsw sum first 3) in
      small-from (layout sum first) (carry_light, signed_rows_light nsw (first + 1 + 1 + 1))
      (Each-append (Each IsShort) (equals 0 (pos 0)) (signed_clauses nsw sum.width 1 2 ++ marked) (equation-short 0)
      (Each-append (Each IsShort) (signed_clauses nsw sum.width 1 2) marked
      (Each-if (Each IsShort) nsw (sign_clauses sum.width 1 ++ sign_clauses sum.width 2) []
      (Each-append (Each IsShort) (sign_clauses sum.width 1) (sign_clauses sum.width 2) (sign_clauses-short sum.width 1 is_at.width) (sign_clauses-short sum.width 2 is_at.width)) tt)
      (marks-short (first + 1) (operands sum) (literals nuw nsw sum first 3)
      (listed-of nuw nsw (leaving (first + 1 + 1)) (exceeding sum.width 3) (leaving-listed (first + 1 + 1)) (exceeding-listed sum.width 3 is_at.width)))))

pub returns-clause-narrow : goal.returns-clause-narrow
returns-clause-narrow c =
    let sum = c.args.self.now in
    All-from_Each IsNarrow (ranges sum)
    (number_narrow sum.width c.requires.at.width, (mark_narrow, (carry_narrow sum.kind, Each-if IsNarrow sum.flags.nsw ((pos 0, pos 1) ∷ (pos 0, pos 1) ∷ []) [] (mark_narrow, (mark_narrow, tt)) tt)))

pub returns-clause-small : goal.returns-clause-small
returns-clause-small c = small c.args.self.now _ c.requires.at
