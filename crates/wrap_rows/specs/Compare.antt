-- The piece of a comparison.
use Rattle.std.specs.Prelude.{ℕ, ◌+◌, ◌-◌, ◌^◌, ◌<◌, Bool, true, false, not, ◌&&◌, ◌||◌, if◌then◌else◌, ℤ, pos, negsuc, neg_ℤ, ◌-ℤ◌, int_lt, int_le, List, [], ◌∷◌, ◌++◌}
use Rattle.std.specs.Ordering.{int_eq}
use Rattle.mix_system.specs.declared.literal.Term.TheVariants.{Row}
use Rattle.mix_system.specs.declared.literal.Lit.{Lit}
use Rattle.mix_system.specs.declared.row.Part.{Part}
use Rattle.mix_system.specs.Row.{number_at}
use Rattle.ll_tree.specs.declared.op.Pred.{Pred}
use Rattle.ll_tree.specs.declared.op.Pred.TheVariants.{Eq, Ne, Ugt, Uge, Ult, Ule, Sgt, Sge, Slt, Sle}
use Rattle.ir_meaning.specs.declared.value.Val.{Val}
use Rattle.ir_meaning.specs.Whole.{IsWidth}
use Rattle.ir_meaning.specs.Compare.{cmp_of}
use Rattle.wrap_rows.specs.declared.vars.ValueVars.{ValueVars}
use Rattle.wrap_rows.specs.declared.compare.Compare.{Compare}
use Rattle.wrap_rows.specs.Vars.{IsValue, is_marked, value_at}
use Rattle.wrap_rows.specs.Layout.{Layout, times, at_most, at_least}
use Rattle.wrap_rows.specs.Blocks.{marks, sign_row, sign_clauses, sign_of, compared}
use Rattle.wrap_rows.specs.Select.{difference}
use Rattle.wrap_rows.specs.Piece.{mark_of}

-- the width is right, and the operands' variables stand before
pub record IsAt (compare : Compare) (first : ℕ) : Type 0 where
  pub width : IsWidth compare.width
  pub a : compare.a.number < first
  pub a_mark : compare.a.mark < first
  pub b : compare.b.number < first
  pub b_mark : compare.b.mark < first

abbrev pub vars : Compare → ℕ → ValueVars
vars compare first = record { number = first; mark = first + 1 }

-- ---- the signs of both operands stand where the predicate is signed, or the signs have to be the same

abbrev pub reads_signs : Pred → Bool
reads_signs Sgt = true
reads_signs Sge = true
reads_signs Slt = true
reads_signs Sle = true
reads_signs _ = false

abbrev pub needs_signs : Compare → Bool
needs_signs compare = reads_signs compare.pred || compare.flags.samesign

abbrev pub left_sign : ℕ → ℕ
left_sign first = first + 1 + 1

abbrev pub right_sign : ℕ → ℕ
right_sign first = first + 1 + 1 + 1

abbrev pub sign_ranges : Bool → List (ℤ × ℤ)
sign_ranges needed = if needed then (pos 0, pos 1) ∷ (pos 0, pos 1) ∷ [] else []

-- number, mark, signs of the operands
abbrev pub ranges : Compare → List (ℤ × ℤ)
ranges compare = (pos 0, pos 1) ∷ (pos 0, pos 1) ∷ sign_ranges (needs_signs compare)

-- ---- rows: the signs, their difference, and the difference of the operands or of their signed readings

abbrev pub sign_rows : Bool → Compare → ℕ → List (List Part)
sign_rows needed compare first =
    if needed then sign_row compare.width compare.a.number (left_sign first) ∷ sign_row compare.width compare.b.number (right_sign first) ∷ []
    else []

abbrev pub sign_difference : Bool → ℕ → List (List Part)
sign_difference samesign first = if samesign then difference (left_sign first) (right_sign first) ∷ [] else []

abbrev pub signed_difference : Compare → ℕ → List Part
signed_difference compare first =
    times (pos 1) compare.a.number
    ∷ times (neg_ℤ (pos (2 ^ compare.width))) (left_sign first)
    ∷ times (neg_ℤ (pos 1)) compare.b.number
    ∷ times (pos (2 ^ compare.width)) (right_sign first)
    ∷ []

abbrev pub difference_row : Bool → Compare → ℕ → List Part
difference_row signed compare first = if signed then signed_difference compare first else (difference compare.a.number compare.b.number)

abbrev pub rows_of : (signed samesign : Bool) → Compare → ℕ → List (List Part)
rows_of signed samesign compare first =
    sign_rows (signed || samesign) compare first ++ (sign_difference samesign first ++ difference_row signed compare first ∷ [])

-- the number of the last row
abbrev pub difference_at : (signed samesign : Bool) → ℕ
difference_at signed samesign = if samesign then 3 else (if signed then 2 else 0)

-- ---- clauses

abbrev pub sign_clauses_of : Bool → Compare → List (List Lit)
sign_clauses_of needed compare = if needed then sign_clauses compare.width 0 ++ sign_clauses compare.width 1 else []

-- one literal holds where the row's sum isn't 0, the other where it is
abbrev pub equal_clauses : (apart equal : Lit) → ℕ → List (List Lit)
equal_clauses apart equal row =
    (apart ∷ at_most (Row row) (pos 0) ∷ [])
    ∷ (apart ∷ at_least (Row row) (pos 0) ∷ [])
    ∷ (equal ∷ at_most (Row row) (negsuc 0) ∷ at_least (Row row) (pos 1) ∷ [])
    ∷ []

-- `samesign` bars signs that differ
abbrev pub listed : Bool → List Lit
listed samesign = if samesign then at_least (Row 2) (pos 1) ∷ at_most (Row 2) (negsuc 0) ∷ [] else []

abbrev pub mark_clauses : Bool → Compare → ℕ → List (List Lit)
mark_clauses samesign compare mark = marks mark (compare.a.mark ∷ compare.b.mark ∷ []) (listed samesign)

abbrev pub value_clauses : (signed samesign : Bool) → Compare → ℕ → List (List Lit)
value_clauses signed samesign compare first =
    compared compare.pred first (difference_at signed samesign) ++ mark_clauses samesign compare (first + 1)

abbrev pub layout_of : (signed samesign : Bool) → Compare → ℕ → Layout
layout_of signed samesign compare first = record {
  rows = rows_of signed samesign compare first;
  clauses = sign_clauses_of (signed || samesign) compare ++ value_clauses signed samesign compare first;
}

abbrev pub layout : Compare → ℕ → Layout
layout compare first = layout_of (reads_signs compare.pred) compare.flags.samesign compare first

-- ---- the numbers that are filled in

-- the signed reading of a number
abbrev pub reading : ℕ → ℤ → ℤ
reading width number = if int_lt number (pos (2 ^ (width - 1))) then number else (number -ℤ pos (2 ^ width))

-- what the predicate compares of a number
abbrev pub read_as : Bool → ℕ → ℤ → ℤ
read_as signed width number = if signed then reading width number else number

abbrev pub stands_so : Pred → (x y : ℤ) → Bool
stands_so Eq x y = int_eq x y
stands_so Ne x y = not (int_eq x y)
stands_so Ult x y = int_lt x y
stands_so Slt x y = int_lt x y
stands_so Ule x y = int_le x y
stands_so Sle x y = int_le x y
stands_so Ugt x y = int_lt y x
stands_so Sgt x y = int_lt y x
stands_so Uge x y = int_le y x
stands_so Sge x y = int_le y x

-- whether the predicate holds of two numbers of the width
abbrev pub holds_of : Pred → ℕ → (a b : ℤ) → Bool
holds_of pred width a b = stands_so pred (read_as (reads_signs pred) width a) (read_as (reads_signs pred) width b)

abbrev pub holds_at : Compare → List ℤ → Bool
holds_at compare point = holds_of compare.pred compare.width (number_at point compare.a.number) (number_at point compare.b.number)

abbrev pub signs_differ : ℕ → (a b : ℤ) → Bool
signs_differ width a b = not (int_eq (sign_of width a) (sign_of width b))

abbrev pub is_poison : Compare → List ℤ → Bool
is_poison compare point =
    is_marked compare.a point
    || (is_marked compare.b point || (compare.flags.samesign && signs_differ compare.width (number_at point compare.a.number) (number_at point compare.b.number)))

abbrev pub signs : Bool → ℕ → (a b : ℤ) → List ℤ
signs needed width a b = if needed then sign_of width a ∷ sign_of width b ∷ [] else []

abbrev pub numbers : Compare → List ℤ → List ℤ
numbers compare point =
    mark_of (holds_at compare point)
    ∷ mark_of (is_poison compare point)
    ∷ signs (needs_signs compare) compare.width (number_at point compare.a.number) (number_at point compare.b.number)

pub record CanTake (compare : Compare) (point : List ℤ) : Type 0 where
  pub a : IsValue compare.width compare.a point
  pub b : IsValue compare.width compare.b point

abbrev pub meaning : Compare → List ℤ → Val
meaning compare point = cmp_of compare.pred compare.flags compare.width (value_at compare.a point) (value_at compare.b point)
