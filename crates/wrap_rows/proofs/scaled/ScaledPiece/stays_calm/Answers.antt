use Rattle.std.proofs.Common.{ℕ, ◌+◌, ◌-◌, ◌*◌, ◌^◌, ◌≤◌, Bool, true, false, [], ◌∷◌, ◌++◌, pos, ◌*ℤ◌, arith}
use Rattle.std.specs.Prelude.{unsigned_abs}
use Rattle.std.proofs.lemmas.Int.{unsigned_abs-mul}
use Rattle.std.proofs.lemmas.Nat.{mul-le}
use Rattle.wrap_rows.specs.declared.scaled.Scaled.{Scaled}
use Rattle.wrap_rows.specs.Blocks.{equals, marks, sign_clauses}
use Rattle.wrap_rows.specs.Small.{IsNarrow, IsShort, IsSmall}
use Rattle.wrap_rows.specs.Wrapping.{leaving, exceeding}
use Rattle.wrap_rows.specs.Scaled.{factor, signed_factor, IsAt, ranges, carry_row, signed_row, signed_rows, signed_clauses, operands, literals, layout}
use Rattle.wrap_rows.proofs.CaseLaws.{Each, All-from_Each}
use Rattle.wrap_rows.proofs.BlockLaws.{Each-append}
use Rattle.wrap_rows.proofs.SmallLaws.{IsLight, power_small, negation_size, number_narrow, mark_narrow, Each-if, equation-short, marks-short, listed-of, leaving-listed, exceeding-listed, sign_row-light, sign_clauses-short, small-from}
use Rattle.wrap_rows.proofs.ScaledLaws.{factor_small, signed_factor_small}
use Rattle.wrap_rows.proofs.scaled.ScaledPiece.stays_calm.Goals as goal

module _ (scaled : Scaled) (first : ℕ) (is_at : IsAt scaled first) where
  power : 2 ^ scaled.width ≤ 2 ^ 32
  power = power_small scaled.width is_at.width.greatest

  carry_light : IsLight (carry_row scaled first)
  carry_light = omega (arith, power, negation_size (pos (2 ^ scaled.width)), factor_small scaled.width scaled.scale is_at.width is_at.scale)

  signed_light : (sign : ℕ) → IsLight (signed_row scaled sign)
  signed_light sign =
      let f = signed_factor scaled.width scaled.scale in
      let size = signed_factor_small scaled.width scaled.scale is_at.width is_at.scale in
      let product : unsigned_abs f * 2 ^ scaled.width ≤ 2 ^ 31 * 2 ^ 32 = mul-le _ _ _ _ size power in
      omega (arith, size, product, negation_size (f *ℤ pos (2 ^ scaled.width)), unsigned_abs-mul f (pos (2 ^ scaled.width)))

  signed_rows_light : (nsw : Bool) (sign : ℕ) → Each IsLight (signed_rows nsw scaled sign)
  signed_rows_light true sign = (sign_row-light scaled.width scaled.a.number sign is_at.width, (signed_light sign, tt))
  signed_rows_light false sign = tt

  small : IsSmall (layout scaled first)
  small =
      let nuw = scaled.flags.nuw in
      let nsw = scaled.flags.nsw in
      let marked = marks (first + 1) (operands scaled) (literals nuw nsw scaled first 2) in
      small-from (layout scaled first) (carry_light, signed_rows_light nsw (first + 1 + 1 + 1))
      (Each-append (Each IsShort) (equals 0 (pos 0)) (signed_clauses nsw scaled.width 1 ++ marked) (equation-short 0)
      (Each-append (Each IsShort) (signed_clauses nsw scaled.width 1) marked
      (Each-if (Each IsShort) nsw (sign_clauses scaled.width 1) [] (sign_clauses-short scaled.width 1 is_at.width) tt)
      (marks-short (first + 1) (operands scaled) (literals nuw nsw scaled first 2)
      (listed-of nuw nsw (leaving (first + 1 + 1)) (exceeding scaled.width 2) (leaving-listed (first + 1 + 1)) (exceeding-listed scaled.width 2 is_at.width)))))

  carry_narrow : IsNarrow (pos 0, pos (factor scaled.scale - 1))
  carry_narrow = omega (arith, factor_small scaled.width scaled.scale is_at.width is_at.scale)

pub returns-clause-narrow : goal.returns-clause-narrow
returns-clause-narrow c =
    let scaled = c.args.self.now in
    All-from_Each IsNarrow (ranges scaled)
    (number_narrow scaled.width c.requires.at.width, (mark_narrow, (carry_narrow scaled _ c.requires.at, Each-if IsNarrow scaled.flags.nsw ((pos 0, pos 1) ∷ []) [] (mark_narrow, tt) tt)))

pub returns-clause-small : goal.returns-clause-small
returns-clause-small c = small c.args.self.now _ c.requires.at
