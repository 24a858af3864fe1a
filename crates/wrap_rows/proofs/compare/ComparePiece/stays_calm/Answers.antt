use Rattle.std.proofs.Common.{ℕ, ◌+◌, ◌^◌, Bool, true, false, ◌||◌, [], ◌∷◌, ◌++◌, pos, refl, arith}
use Rattle.ll_tree.specs.declared.op.Pred.{Pred}
use Rattle.ll_tree.specs.declared.op.Pred.TheVariants.{Eq, Ne, Ugt, Uge, Ult, Ule, Sgt, Sge, Slt, Sle}
use Rattle.wrap_rows.specs.declared.compare.Compare.{Compare}
use Rattle.wrap_rows.specs.Blocks.{sign_row, sign_clauses, compared}
use Rattle.wrap_rows.specs.Select.{difference}
use Rattle.wrap_rows.specs.Small.{IsNarrow, IsShort, IsSmall}
use Rattle.wrap_rows.specs.Compare.{IsAt, reads_signs, needs_signs, ranges, left_sign, right_sign, sign_rows, sign_difference, signed_difference, difference_row, difference_at, sign_clauses_of, listed, mark_clauses, value_clauses, layout}
use Rattle.wrap_rows.proofs.CaseLaws.{Each, All-from_Each}
use Rattle.wrap_rows.proofs.BlockLaws.{Each-append}
use Rattle.wrap_rows.proofs.SmallLaws.{IsLight, IsListed, power_small, negation_size, mark_narrow, Each-if, short_by_test, marks-short, sign_row-light, sign_clauses-short, small-from}
use Rattle.wrap_rows.proofs.compare.ComparePiece.stays_calm.Goals as goal

compared_short : (pred : Pred) (x row : ℕ) → Each (Each IsShort) (compared pred x row)
compared_short Eq x row = short_by_test (compared Eq x row) refl
compared_short Ne x row = short_by_test (compared Ne x row) refl
compared_short Ugt x row = short_by_test (compared Ugt x row) refl
compared_short Uge x row = short_by_test (compared Uge x row) refl
compared_short Ult x row = short_by_test (compared Ult x row) refl
compared_short Ule x row = short_by_test (compared Ule x row) refl
compared_short Sgt x row = short_by_test (compared Sgt x row) refl
compared_short Sge x row = short_by_test (compared Sge x row) refl
compared_short Slt x row = short_by_test (compared Slt x row) refl
compared_short Sle x row = short_by_test (compared Sle x row) refl

module _ (compare : Compare) (first : ℕ) (is_at : IsAt compare first) where
  signed_light : IsLight (signed_difference compare first)
  signed_light = omega (arith, power_small compare.width is_at.width.greatest, negation_size (pos (2 ^ compare.width)))

  row_light : (signed : Bool) → IsLight (difference_row signed compare first)
  row_light true = signed_light
  row_light false = omega arith

  rows_light : (signed samesign : Bool) → Each IsLight (sign_rows (signed || samesign) compare first ++ (sign_difference samesign first ++ difference_row signed compare first ∷ []))
  rows_light signed samesign =
      Each-append IsLight (sign_rows (signed || samesign) compare first) (sign_difference samesign first ++ difference_row signed compare first ∷ [])
      (Each-if IsLight (signed || samesign) (sign_row compare.width compare.a.number (left_sign first) ∷ sign_row compare.width compare.b.number (right_sign first) ∷ []) []
      (sign_row-light compare.width compare.a.number (left_sign first) is_at.width, (sign_row-light compare.width compare.b.number (right_sign first) is_at.width, tt)) tt)
      (Each-append IsLight (sign_difference samesign first) (difference_row signed compare first ∷ [])
      (Each-if IsLight samesign (difference (left_sign first) (right_sign first) ∷ []) [] (omega arith, tt) tt) (row_light signed, tt))

  clauses_short : (signed samesign : Bool) → Each (Each IsShort) (sign_clauses_of (signed || samesign) compare ++ value_clauses signed samesign compare first)
  clauses_short signed samesign =
      Each-append (Each IsShort) (sign_clauses_of (signed || samesign) compare) (value_clauses signed samesign compare first)
      (Each-if (Each IsShort) (signed || samesign) (sign_clauses compare.width 0 ++ sign_clauses compare.width 1) []
      (Each-append (Each IsShort) (sign_clauses compare.width 0) (sign_clauses compare.width 1) (sign_clauses-short compare.width 0 is_at.width) (sign_clauses-short compare.width 1 is_at.width)) tt)
      (Each-append (Each IsShort) (compared compare.pred first (difference_at signed samesign)) (mark_clauses samesign compare (first + 1)) (compared_short compare.pred first (difference_at signed samesign))
      (marks-short (first + 1) (compare.a.mark ∷ compare.b.mark ∷ []) (listed samesign) (listed_each samesign)))
    where
      listed_each : (samesign : Bool) → Each IsListed (listed samesign)
      listed_each true = (omega arith, (omega arith, tt))
      listed_each false = tt

  small : IsSmall (layout compare first)
  small =
      small-from (layout compare first) (rows_light (reads_signs compare.pred) compare.flags.samesign) (clauses_short (reads_signs compare.pred) compare.flags.samesign)

pub returns-clause-narrow : goal.returns-clause-narrow
returns-clause-narrow c =
    All-from_Each IsNarrow (ranges c.args.self.now)
    (mark_narrow, (mark_narrow, Each-if IsNarrow (needs_signs c.args.self.now) ((pos 0, pos 1) ∷ (pos 0, pos 1) ∷ []) [] (mark_narrow, (mark_narrow, tt)) tt))

pub returns-clause-small : goal.returns-clause-small
returns-clause-small c = small c.args.self.now _ c.requires.at
