use Rattle.std.proofs.Common.{ℕ, ◌+◌, ◌-◌, ◌^◌, Bool, true, false, [], ◌∷◌, ◌++◌, pos, arith}
use Rattle.mix_system.specs.declared.literal.Term.TheVariants.{Var}
use Rattle.wrap_rows.specs.declared.trunc.Trunc.{Trunc}
use Rattle.wrap_rows.specs.Blocks.{equals, marks, sign_clauses}
use Rattle.wrap_rows.specs.Layout.{at_least}
use Rattle.wrap_rows.specs.Small.{IsNarrow, IsShort, IsSmall}
use Rattle.wrap_rows.specs.Wrapping.{exceeding}
use Rattle.wrap_rows.specs.Trunc.{IsAt, helpers, ranges, carry_row, signed_row, literals, layout_of}
use Rattle.wrap_rows.proofs.CaseLaws.{Each, All-from_Each}
use Rattle.wrap_rows.proofs.BlockLaws.{Each-append}
use Rattle.wrap_rows.proofs.SmallLaws.{IsLight, power_small, negation_size, number_narrow, mark_narrow, equation-short, marks-short, listed-of, exceeding-listed, sign_row-light, sign_clauses-short, small-from}
use Rattle.wrap_rows.proofs.trunc.TruncPiece.stays_calm.Goals as goal

module _ (trunc : Trunc) (first : ℕ) (is_at : IsAt trunc first) where
  carry_light : (carry : ℕ) → IsLight (carry_row trunc first carry)
  carry_light carry = omega (arith, power_small trunc.to is_at.to.greatest, negation_size (pos (2 ^ trunc.to)))

  signed_light : (sign : ℕ) → IsLight (signed_row trunc sign)
  signed_light sign = omega (arith, power_small trunc.from is_at.from.greatest, negation_size (pos (2 ^ trunc.from)))

  marked_short : (nuw nsw : Bool) (carry row : ℕ) → Each (Each IsShort) (marks (first + 1) (trunc.a.mark ∷ []) (literals nuw nsw trunc carry row))
  marked_short nuw nsw carry row =
      marks-short (first + 1) (trunc.a.mark ∷ []) (literals nuw nsw trunc carry row)
      (listed-of nuw nsw (at_least (Var carry) (pos 1) ∷ []) (exceeding trunc.to row) (omega arith, tt) (exceeding-listed trunc.to row is_at.to))

  small_of : (nuw nsw : Bool) → IsSmall (layout_of nuw nsw trunc first)
  small_of nuw true =
      let marked = marks (first + 1) (trunc.a.mark ∷ []) (literals nuw true trunc (first + 1 + 1 + 1) 2) in
      small-from (layout_of nuw true trunc first)
      (sign_row-light trunc.from trunc.a.number (first + 1 + 1) is_at.from, (carry_light (first + 1 + 1 + 1), (signed_light (first + 1 + 1), tt)))
      (Each-append (Each IsShort) (sign_clauses trunc.from 0) (equals 1 (pos 0) ++ marked) (sign_clauses-short trunc.from 0 is_at.from)
      (Each-append (Each IsShort) (equals 1 (pos 0)) marked (equation-short 1) (marked_short nuw true (first + 1 + 1 + 1) 2)))
  small_of nuw false =
      small-from (layout_of nuw false trunc first) (carry_light (first + 1 + 1), tt)
      (Each-append (Each IsShort) (equals 0 (pos 0)) (marks (first + 1) (trunc.a.mark ∷ []) (literals nuw false trunc (first + 1 + 1) 2)) (equation-short 0) (marked_short nuw false (first + 1 + 1) 2))

  carry_narrow : IsNarrow (pos 0, pos (2 ^ (trunc.from - trunc.to) - 1))
  carry_narrow = omega (arith, power_small (trunc.from - trunc.to) (omega (arith, is_at.from.greatest)))

  helpers_narrow : (nsw : Bool) → Each IsNarrow (helpers nsw trunc)
  helpers_narrow true = (mark_narrow, (carry_narrow, tt))
  helpers_narrow false = (carry_narrow, tt)

pub returns-clause-narrow : goal.returns-clause-narrow
returns-clause-narrow c =
    let trunc = c.args.self.now in
    All-from_Each IsNarrow (ranges trunc) (number_narrow trunc.to c.requires.at.to, (mark_narrow, helpers_narrow trunc _ c.requires.at trunc.flags.nsw))

pub returns-clause-small : goal.returns-clause-small
returns-clause-small c = small_of c.args.self.now _ c.requires.at c.args.self.now.flags.nuw c.args.self.now.flags.nsw
