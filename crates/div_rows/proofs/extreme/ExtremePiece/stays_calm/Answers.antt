use Rattle.std.proofs.Common.{ℕ, ◌+◌, ◌^◌, Bool, true, false, [], ◌∷◌, ◌++◌, pos, refl, arith}
use Rattle.wrap_rows.specs.Blocks.{sign_row, sign_clauses, less_or_equal}
use Rattle.wrap_rows.specs.Select.{difference}
use Rattle.wrap_rows.specs.Small.{IsNarrow, IsShort, IsSmall}
use Rattle.wrap_rows.specs.Compare.{left_sign, right_sign, sign_rows, difference_row, sign_clauses_of}
use Rattle.wrap_rows.proofs.CaseLaws.{Each, All-from_Each}
use Rattle.wrap_rows.proofs.BlockLaws.{Each-append}
use Rattle.wrap_rows.proofs.SmallLaws.{IsLight, power_small, negation_size, number_narrow, mark_narrow, Each-if, short_by_test, marks-short, sign_row-light, sign_clauses-short, small-from}
use Rattle.div_rows.specs.declared.extreme.ExtremeKind.{ExtremeKind}
use Rattle.div_rows.specs.declared.extreme.Extreme.{Extreme}
use Rattle.div_rows.specs.Extreme.{IsAt, order, helper_ranges, ranges, test_at, rows_of, order_at, choice_clauses, test_clauses, mark_clauses, value_clauses, layout}
use Rattle.div_rows.proofs.extreme.ExtremePiece.stays_calm.Goals as goal

module _ (extreme : Extreme) (first : ℕ) (is_at : IsAt extreme first) where
  order_light : (signs : Bool) → IsLight (difference_row signs (order extreme) first)
  order_light true = omega (arith, power_small extreme.width is_at.width.greatest, negation_size (pos (2 ^ extreme.width)))
  order_light false = omega arith

  rows_light : (signs : Bool) → Each IsLight (rows_of signs extreme first)
  rows_light signs =
      Each-append IsLight (sign_rows signs (order extreme) first) (difference_row signs (order extreme) first ∷ difference first extreme.a.number ∷ difference first extreme.b.number ∷ [])
      (Each-if IsLight signs (sign_row extreme.width extreme.a.number (left_sign first) ∷ sign_row extreme.width extreme.b.number (right_sign first) ∷ []) []
      (sign_row-light extreme.width extreme.a.number (left_sign first) is_at.width, (sign_row-light extreme.width extreme.b.number (right_sign first) is_at.width, tt)) tt)
      (order_light signs, (omega arith, (omega arith, tt)))

  choice_short : (kind : ExtremeKind) (signs : Bool) (test : ℕ) → Each (Each IsShort) (choice_clauses kind signs test)
  choice_short kind signs test = (
    (omega arith, (omega arith, tt)),
    ((omega arith, (omega arith, tt)), ((omega arith, (omega arith, tt)), ((omega arith, (omega arith, tt)), tt))),
  )

  test_short : (kind : ExtremeKind) (signs : Bool) (test : ℕ) → Each (Each IsShort) (test_clauses kind signs test)
  test_short kind signs test =
      Each-append (Each IsShort) (less_or_equal test (order_at signs)) (choice_clauses kind signs test) (short_by_test (less_or_equal test (order_at signs)) refl) (choice_short kind signs test)

  clauses_short : (kind : ExtremeKind) (signs : Bool) → Each (Each IsShort) (sign_clauses_of signs (order extreme) ++ value_clauses kind signs extreme first)
  clauses_short kind signs =
      Each-append (Each IsShort) (sign_clauses_of signs (order extreme)) (value_clauses kind signs extreme first)
      (Each-if (Each IsShort) signs (sign_clauses extreme.width 0 ++ sign_clauses extreme.width 1) []
      (Each-append (Each IsShort) (sign_clauses extreme.width 0) (sign_clauses extreme.width 1) (sign_clauses-short extreme.width 0 is_at.width) (sign_clauses-short extreme.width 1 is_at.width)) tt)
      (Each-append (Each IsShort) (test_clauses kind signs (test_at signs first)) (mark_clauses extreme (first + 1)) (test_short kind signs (test_at signs first))
      (marks-short (first + 1) (extreme.a.mark ∷ extreme.b.mark ∷ []) [] tt))

  small : IsSmall (layout extreme first)
  small = small-from (layout extreme first) (rows_light extreme.signed) (clauses_short extreme.kind extreme.signed)

helpers_narrow : (signs : Bool) → Each IsNarrow (helper_ranges signs)
helpers_narrow true = (mark_narrow, (mark_narrow, (mark_narrow, tt)))
helpers_narrow false = (mark_narrow, tt)

pub returns-clause-narrow : goal.returns-clause-narrow
returns-clause-narrow c =
    let extreme = c.args.self.now in
    All-from_Each IsNarrow (ranges extreme) (number_narrow extreme.width c.requires.at.width, (mark_narrow, helpers_narrow extreme.signed))

pub returns-clause-small : goal.returns-clause-small
returns-clause-small c = small c.args.self.now _ c.requires.at
