-- The piece of the lesser or the greater of two numbers.
use Rattle.std.specs.Prelude.{ℕ, ◌+◌, ◌-◌, ◌^◌, ◌<◌, Bool, true, false, ◌||◌, int_le, if◌then◌else◌, ℤ, pos, unsigned_abs, List, [], ◌∷◌, ◌++◌}
use Rattle.mix_system.specs.declared.literal.Term.TheVariants.{Var}
use Rattle.mix_system.specs.declared.literal.Lit.{Lit}
use Rattle.mix_system.specs.declared.row.Part.{Part}
use Rattle.mix_system.specs.Row.{number_at}
use Rattle.ll_tree.specs.declared.op.Pred.TheVariants.{Ule, Sle}
use Rattle.ir_meaning.specs.declared.value.Val.{Val}
use Rattle.ir_meaning.specs.Whole.{IsWidth, signed}
use Rattle.ir_meaning.specs.Value.{on_numbers}
use Rattle.ir_meaning.specs.Rows.{smin_of, smax_of, umin_of, umax_of}
use Rattle.wrap_rows.specs.declared.vars.ValueVars.{ValueVars}
use Rattle.wrap_rows.specs.declared.compare.Compare.{Compare}
use Rattle.wrap_rows.specs.Vars.{IsValue, is_marked, value_at}
use Rattle.wrap_rows.specs.Layout.{Layout, at_most, at_least}
use Rattle.wrap_rows.specs.Blocks.{marks, less_or_equal}
use Rattle.wrap_rows.specs.Select.{difference}
use Rattle.wrap_rows.specs.Piece.{mark_of}
use Rattle.wrap_rows.specs.Compare.{sign_ranges, sign_rows, difference_row, sign_clauses_of, signs}
use Rattle.div_rows.specs.declared.extreme.ExtremeKind.{ExtremeKind}
use Rattle.div_rows.specs.declared.extreme.ExtremeKind.TheVariants.{Least, Greatest}
use Rattle.div_rows.specs.declared.extreme.Extreme.{Extreme}
use Rattle.div_rows.specs.Unless.{equals_unless}

-- the width is right, and the operands' variables stand before
pub record IsAt (extreme : Extreme) (first : ℕ) : Type 0 where
  pub width : IsWidth extreme.width
  pub a : extreme.a.number < first
  pub a_mark : extreme.a.mark < first
  pub b : extreme.b.number < first
  pub b_mark : extreme.b.mark < first

abbrev pub vars : Extreme → ℕ → ValueVars
vars extreme first = record { number = first; mark = first + 1 }

-- ---- what it lays

-- the comparison of the operands, whose rows it shares
abbrev pub order : Extreme → Compare
order extreme = record {
  pred = if extreme.signed then Sle else Ule;
  flags = record { nuw = false; nsw = false; exact = false; nneg = false; samesign = false; disjoint = false };
  width = extreme.width;
  a = extreme.a;
  b = extreme.b;
}

-- number, mark, the signs where the signed readings are compared, and the test
abbrev pub helper_ranges : Bool → List (ℤ × ℤ)
helper_ranges signed = sign_ranges signed ++ (pos 0, pos 1) ∷ []

abbrev pub ranges : Extreme → List (ℤ × ℤ)
ranges extreme = (pos 0, pos (2 ^ extreme.width - 1)) ∷ (pos 0, pos 1) ∷ helper_ranges extreme.signed

-- where the test stands: 1 where the first operand is at most the second
abbrev pub test_at : Bool → ℕ → ℕ
test_at signed first = if signed then first + 1 + 1 + 1 + 1 else (first + 1 + 1)

-- the signs, the difference of the operands, and the number less each operand
abbrev pub rows_of : Bool → Extreme → ℕ → List (List Part)
rows_of signed extreme first =
    sign_rows signed (order extreme) first
    ++ difference_row signed (order extreme) first
    ∷ difference first extreme.a.number
    ∷ difference first extreme.b.number
    ∷ []

-- the number of the difference's row; the two others come behind
abbrev pub order_at : Bool → ℕ
order_at signed = if signed then 2 else 0

abbrev pub left_at : Bool → ℕ
left_at signed = if signed then 3 else 1

abbrev pub right_at : Bool → ℕ
right_at signed = if signed then 4 else 2

-- of two things in order the one that is meant
abbrev pub picked : {X : Type 0} → ExtremeKind → (lesser greater : X) → X
picked Least lesser greater = lesser
picked Greatest lesser greater = greater

-- where the first operand is at most the second, the one that is meant is the first of them or the second
abbrev pub choice_clauses : ExtremeKind → Bool → ℕ → List (List Lit)
choice_clauses kind signed test =
    equals_unless (at_most (Var test) (pos 0)) (picked kind (left_at signed) (right_at signed)) (pos 0)
    ++ equals_unless (at_least (Var test) (pos 1)) (picked kind (right_at signed) (left_at signed)) (pos 0)

abbrev pub test_clauses : ExtremeKind → Bool → ℕ → List (List Lit)
test_clauses kind signed test = less_or_equal test (order_at signed) ++ choice_clauses kind signed test

abbrev pub mark_clauses : Extreme → ℕ → List (List Lit)
mark_clauses extreme mark = marks mark (extreme.a.mark ∷ extreme.b.mark ∷ []) []

abbrev pub value_clauses : ExtremeKind → Bool → Extreme → ℕ → List (List Lit)
value_clauses kind signed extreme first =
    test_clauses kind signed (test_at signed first) ++ mark_clauses extreme (first + 1)

abbrev pub layout_of : ExtremeKind → Bool → Extreme → ℕ → Layout
layout_of kind signed extreme first = record {
  rows = rows_of signed extreme first;
  clauses = sign_clauses_of signed (order extreme) ++ value_clauses kind signed extreme first;
}

abbrev pub layout : Extreme → ℕ → Layout
layout extreme first = layout_of extreme.kind extreme.signed extreme first

-- ---- the numbers that are filled in

-- what is compared of a number
abbrev pub reading : Bool → ℕ → ℤ → ℤ
reading signs width a = if signs then signed width (unsigned_abs a) else a

-- whether the first number is at most the second
abbrev pub is_ordered : Bool → ℕ → (a b : ℤ) → Bool
is_ordered signs width a b = int_le (reading signs width a) (reading signs width b)

abbrev pub picked_number : ExtremeKind → Bool → ℕ → (a b : ℤ) → ℤ
picked_number kind signed width a b = if is_ordered signed width a b then picked kind a b else (picked kind b a)

abbrev pub is_poison : Extreme → List ℤ → Bool
is_poison extreme point = is_marked extreme.a point || is_marked extreme.b point

abbrev pub helpers : Bool → ℕ → (a b : ℤ) → List ℤ
helpers signed width a b = signs signed width a b ++ mark_of (is_ordered signed width a b) ∷ []

abbrev pub numbers : Extreme → List ℤ → List ℤ
numbers extreme point =
    picked_number extreme.kind extreme.signed extreme.width (number_at point extreme.a.number) (number_at point extreme.b.number)
    ∷ mark_of (is_poison extreme point)
    ∷ helpers extreme.signed extreme.width (number_at point extreme.a.number) (number_at point extreme.b.number)

-- ---- the meaning

pub record CanTake (extreme : Extreme) (point : List ℤ) : Type 0 where
  pub a : IsValue extreme.width extreme.a point
  pub b : IsValue extreme.width extreme.b point

abbrev pub extreme_of : ExtremeKind → Bool → ℕ → ℕ → ℕ → Val
extreme_of Least true width a b = smin_of width a b
extreme_of Least false width a b = umin_of a b
extreme_of Greatest true width a b = smax_of width a b
extreme_of Greatest false width a b = umax_of a b

abbrev pub meaning : Extreme → List ℤ → Val
meaning extreme point =
    on_numbers (extreme_of extreme.kind extreme.signed extreme.width) (value_at extreme.a point) (value_at extreme.b point)
