-- The piece of a division without signs by a constant.
use Rattle.std.specs.Prelude.{ℕ, ◌+◌, ◌-◌, ◌/◌, ◌%◌, ◌^◌, ◌<◌, Bool, not, ◌&&◌, ◌||◌, ◌==◌, ℤ, pos, neg_ℤ, unsigned_abs, List, [], ◌∷◌, ◌++◌}
use Rattle.std.specs.Ordering.{int_eq}
use Rattle.mix_system.specs.declared.literal.Term.TheVariants.{Var}
use Rattle.mix_system.specs.declared.literal.Lit.{Lit}
use Rattle.mix_system.specs.declared.row.Part.{Part}
use Rattle.mix_system.specs.Row.{number_at}
use Rattle.ll_tree.specs.declared.op.Flags.{Flags}
use Rattle.ir_meaning.specs.declared.value.Val.{Val}
use Rattle.ir_meaning.specs.Whole.{IsWidth}
use Rattle.ir_meaning.specs.Value.{on_numbers}
use Rattle.ir_meaning.specs.Rows.{udiv_of, urem_of}
use Rattle.wrap_rows.specs.declared.vars.ValueVars.{ValueVars}
use Rattle.wrap_rows.specs.Vars.{IsValue, IsMark, is_marked, value_at}
use Rattle.wrap_rows.specs.Layout.{Layout, times, at_most}
use Rattle.wrap_rows.specs.Blocks.{equals, marks}
use Rattle.wrap_rows.specs.Piece.{mark_of}
use Rattle.wrap_rows.specs.ShiftRight.{listed}
use Rattle.div_rows.specs.declared.division.DivisionKind.{DivisionKind}
use Rattle.div_rows.specs.declared.division.DivisionKind.TheVariants.{Quotient, Remainder}
use Rattle.div_rows.specs.declared.unsigned_division.UnsignedDivision.{UnsignedDivision}
use Rattle.div_rows.specs.Division.{is_exact, chosen, other, divisor_value}

-- the width is right, the divisor is a number of it other than 0, and the operands' variables stand before
pub record IsAt (division : UnsignedDivision) (first : ℕ) : Type 0 where
  pub width : IsWidth division.width
  pub some : 0 < division.divisor
  pub divisor : division.divisor < 2 ^ division.width
  pub a : division.a.number < first
  pub a_mark : division.a.mark < first
  pub divisor_mark : division.divisor_mark < first

abbrev pub vars : UnsignedDivision → ℕ → ValueVars
vars division first = record { number = first; mark = first + 1 }

-- ---- what it lays

-- number, mark, and the helper, which is the remainder or the quotient, whichever isn't the number
abbrev pub helper_range : DivisionKind → UnsignedDivision → ℤ × ℤ
helper_range kind division = (pos 0, pos (other kind ((2 ^ division.width - 1) / division.divisor) (division.divisor - 1)))

abbrev pub ranges : UnsignedDivision → List (ℤ × ℤ)
ranges division = (pos 0, pos (2 ^ division.width - 1)) ∷ (pos 0, pos 1) ∷ helper_range division.kind division ∷ []

abbrev pub quotient_at : DivisionKind → ℕ → ℕ
quotient_at kind first = chosen kind first (first + 1 + 1)

abbrev pub remainder_at : DivisionKind → ℕ → ℕ
remainder_at kind first = chosen kind (first + 1 + 1) first

-- the operand less the divisor times the quotient and the remainder
abbrev pub division_row : DivisionKind → UnsignedDivision → ℕ → List Part
division_row kind division first =
    times (pos 1) division.a.number
    ∷ times (neg_ℤ (pos division.divisor)) (quotient_at kind first)
    ∷ times (neg_ℤ (pos 1)) (remainder_at kind first)
    ∷ []

-- a number that is the remainder is below the divisor, though its range is that of the width
abbrev pub limit_clauses : DivisionKind → UnsignedDivision → ℕ → List (List Lit)
limit_clauses kind division first = chosen kind [] ((at_most (Var first) (pos (division.divisor - 1)) ∷ []) ∷ [])

-- `exact` bars a remainder, which is the helper
abbrev pub mark_clauses : DivisionKind → UnsignedDivision → ℕ → List (List Lit)
mark_clauses kind division first =
    marks (first + 1) (division.a.mark ∷ division.divisor_mark ∷ []) (listed (is_exact kind division.flags) (first + 1 + 1))

abbrev pub layout_of : DivisionKind → UnsignedDivision → ℕ → Layout
layout_of kind division first = record {
  rows = division_row kind division first ∷ [];
  clauses = limit_clauses kind division first ++ (equals 0 (pos 0) ++ mark_clauses kind division first);
}

abbrev pub layout : UnsignedDivision → ℕ → Layout
layout division first = layout_of division.kind division first

-- ---- the numbers that are filled in

abbrev pub quotient_of : UnsignedDivision → List ℤ → ℕ
quotient_of division point = unsigned_abs (number_at point division.a.number) / division.divisor

abbrev pub remainder_of : UnsignedDivision → List ℤ → ℕ
remainder_of division point = unsigned_abs (number_at point division.a.number) % division.divisor

abbrev pub is_barred : UnsignedDivision → ℕ → Bool
is_barred division rest = is_exact division.kind division.flags && not (rest == 0)

abbrev pub is_poison : UnsignedDivision → List ℤ → Bool
is_poison division point =
    is_marked division.a point
    || (int_eq (number_at point division.divisor_mark) (pos 1) || is_barred division (remainder_of division point))

abbrev pub numbers_of : DivisionKind → UnsignedDivision → List ℤ → List ℤ
numbers_of kind division point =
    pos (chosen kind (quotient_of division point) (remainder_of division point))
    ∷ mark_of (is_poison division point)
    ∷ pos (other kind (quotient_of division point) (remainder_of division point))
    ∷ []

abbrev pub numbers : UnsignedDivision → List ℤ → List ℤ
numbers division point = numbers_of division.kind division point

-- ---- the meaning

pub record CanTake (division : UnsignedDivision) (point : List ℤ) : Type 0 where
  pub a : IsValue division.width division.a point
  pub divisor_mark : IsMark (number_at point division.divisor_mark)

abbrev pub division_of : DivisionKind → Flags → ℕ → ℕ → Val
division_of Quotient flags a c = udiv_of flags a c
division_of Remainder flags a c = urem_of a c

abbrev pub meaning : UnsignedDivision → List ℤ → Val
meaning division point =
    on_numbers (division_of division.kind division.flags) (value_at division.a point)
    (divisor_value division.divisor division.divisor_mark point)
