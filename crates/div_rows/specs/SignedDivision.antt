-- The piece of a division of signed readings by a constant.
use Rattle.std.specs.Prelude.{ℕ, ◌+◌, ◌-◌, ◌^◌, ◌<◌, Bool, not, ◌&&◌, ◌||◌, int_lt, if◌then◌else◌, ℤ, pos, negsuc, neg_ℤ, ◌≤ℤ◌, ◌<ℤ◌, unsigned_abs, List, [], ◌∷◌, ◌++◌}
use Rattle.std.specs.Ordering.{int_eq}
use Rattle.mix_system.specs.declared.literal.Term.TheVariants.{Var}
use Rattle.mix_system.specs.declared.literal.Lit.{Lit}
use Rattle.mix_system.specs.declared.row.Part.{Part}
use Rattle.mix_system.specs.Row.{number_at}
use Rattle.ll_tree.specs.declared.op.Flags.{Flags}
use Rattle.ir_meaning.specs.declared.value.Val.{Val}
use Rattle.ir_meaning.specs.Whole.{IsWidth, signed, modulo, quotient, remainder}
use Rattle.ir_meaning.specs.Value.{on_numbers}
use Rattle.ir_meaning.specs.Rows.{sdiv_of, srem_of}
use Rattle.wrap_rows.specs.declared.vars.ValueVars.{ValueVars}
use Rattle.wrap_rows.specs.Vars.{IsValue, IsMark, is_marked, value_at}
use Rattle.wrap_rows.specs.Layout.{Layout, times, at_most, at_least}
use Rattle.wrap_rows.specs.Blocks.{equals, marks, sign_row, sign_clauses, sign_of}
use Rattle.wrap_rows.specs.Piece.{mark_of}
use Rattle.div_rows.specs.declared.division.DivisionKind.{DivisionKind}
use Rattle.div_rows.specs.declared.division.DivisionKind.TheVariants.{Quotient, Remainder}
use Rattle.div_rows.specs.declared.signed_division.SignedDivision.{SignedDivision}
use Rattle.div_rows.specs.Division.{is_exact, chosen, divisor_value}

-- the width is right, the divisor is a number of it that reads neither as 0 nor as -1, and the operands' variables stand before
pub record IsAt (division : SignedDivision) (first : ℕ) : Type 0 where
  pub width : IsWidth division.width
  pub some : 0 < division.divisor
  pub divisor : division.divisor + 1 < 2 ^ division.width
  pub a : division.a.number < first
  pub a_mark : division.a.mark < first
  pub divisor_mark : division.divisor_mark < first

abbrev pub vars : SignedDivision → ℕ → ValueVars
vars division first = record { number = first; mark = first + 1 }

-- ---- what it lays

-- the divisor's signed reading, and its size
abbrev pub reading : SignedDivision → ℤ
reading division = signed division.width division.divisor

abbrev pub size : SignedDivision → ℕ
size division = unsigned_abs (reading division)

abbrev pub sign_at : ℕ → ℕ
sign_at first = first + 1 + 1

abbrev pub quotient_at : ℕ → ℕ
quotient_at first = first + 1 + 1 + 1

abbrev pub remainder_at : ℕ → ℕ
remainder_at first = first + 1 + 1 + 1 + 1

-- 1 where what is the value is negative
abbrev pub lift_at : ℕ → ℕ
lift_at first = first + 1 + 1 + 1 + 1 + 1

abbrev pub quotient_range : SignedDivision → ℤ × ℤ
quotient_range division = (neg_ℤ (pos (2 ^ (division.width - 1))), pos (2 ^ (division.width - 1) - 1))

-- a remainder is smaller than the divisor
abbrev pub remainder_range : SignedDivision → ℤ × ℤ
remainder_range division = (neg_ℤ (pos (size division - 1)), pos (size division - 1))

-- sign, quotient, remainder, lift
abbrev pub helper_ranges : SignedDivision → List (ℤ × ℤ)
helper_ranges division =
    (pos 0, pos 1) ∷ quotient_range division ∷ remainder_range division ∷ (pos 0, pos 1) ∷ []

abbrev pub ranges : SignedDivision → List (ℤ × ℤ)
ranges division = (pos 0, pos (2 ^ division.width - 1)) ∷ (pos 0, pos 1) ∷ helper_ranges division

-- the operand's signed reading less the divisor's times the quotient and the remainder
abbrev pub division_row : SignedDivision → ℕ → List Part
division_row division first =
    times (pos 1) division.a.number
    ∷ times (neg_ℤ (pos (2 ^ division.width))) (sign_at first)
    ∷ times (neg_ℤ (reading division)) (quotient_at first)
    ∷ times (neg_ℤ (pos 1)) (remainder_at first)
    ∷ []

-- the number less what is the value and 2^width times the lift
abbrev pub lift_row : DivisionKind → SignedDivision → ℕ → List Part
lift_row kind division first =
    times (pos 1) first
    ∷ times (neg_ℤ (pos 1)) (chosen kind (quotient_at first) (remainder_at first))
    ∷ times (neg_ℤ (pos (2 ^ division.width))) (lift_at first)
    ∷ []

abbrev pub rows_of : DivisionKind → SignedDivision → ℕ → List (List Part)
rows_of kind division first =
    sign_row division.width division.a.number (sign_at first)
    ∷ division_row division first
    ∷ lift_row kind division first
    ∷ []

-- the remainder isn't of the other sign than the operand
abbrev pub side_clauses : ℕ → List (List Lit)
side_clauses first =
    (at_most (Var (sign_at first)) (pos 0) ∷ at_most (Var (remainder_at first)) (pos 0) ∷ [])
    ∷ (at_least (Var (sign_at first)) (pos 1) ∷ at_least (Var (remainder_at first)) (pos 0) ∷ [])
    ∷ []

-- `exact` bars a remainder
abbrev pub listed : Bool → ℕ → List Lit
listed exact rest = if exact then at_least (Var rest) (pos 1) ∷ at_most (Var rest) (negsuc 0) ∷ [] else []

abbrev pub mark_clauses : DivisionKind → SignedDivision → ℕ → List (List Lit)
mark_clauses kind division first =
    marks (first + 1) (division.a.mark ∷ division.divisor_mark ∷ [])
    (listed (is_exact kind division.flags) (remainder_at first))

abbrev pub value_clauses : DivisionKind → SignedDivision → ℕ → List (List Lit)
value_clauses kind division first = equals 2 (pos 0) ++ mark_clauses kind division first

abbrev pub layout_of : DivisionKind → SignedDivision → ℕ → Layout
layout_of kind division first = record {
  rows = rows_of kind division first;
  clauses =
      sign_clauses division.width 0 ++ (equals 1 (pos 0) ++ (side_clauses first ++ value_clauses kind division first));
}

abbrev pub layout : SignedDivision → ℕ → Layout
layout division first = layout_of division.kind division first

-- ---- the numbers that are filled in

-- a number that the width has as a signed reading
abbrev pub IsSigned : ℕ → ℤ → Type 0
IsSigned width z = (neg_ℤ (pos (2 ^ (width - 1))) ≤ℤ z) × (z <ℤ pos (2 ^ (width - 1)))

abbrev pub quotient_of : SignedDivision → List ℤ → ℤ
quotient_of division point = quotient division.width (unsigned_abs (number_at point division.a.number)) division.divisor

abbrev pub remainder_of : SignedDivision → List ℤ → ℤ
remainder_of division point = remainder division.width (unsigned_abs (number_at point division.a.number)) division.divisor

-- what is the value
abbrev pub result_of : SignedDivision → List ℤ → ℤ
result_of division point = chosen division.kind (quotient_of division point) (remainder_of division point)

abbrev pub is_barred : SignedDivision → ℤ → Bool
is_barred division rest = is_exact division.kind division.flags && not (int_eq rest (pos 0))

abbrev pub is_poison : SignedDivision → List ℤ → Bool
is_poison division point =
    is_marked division.a point
    || (int_eq (number_at point division.divisor_mark) (pos 1) || is_barred division (remainder_of division point))

abbrev pub helpers : SignedDivision → List ℤ → List ℤ
helpers division point =
    sign_of division.width (number_at point division.a.number)
    ∷ quotient_of division point
    ∷ remainder_of division point
    ∷ mark_of (int_lt (result_of division point) (pos 0))
    ∷ []

abbrev pub numbers : SignedDivision → List ℤ → List ℤ
numbers division point =
    pos (modulo division.width (result_of division point))
    ∷ mark_of (is_poison division point)
    ∷ helpers division point

-- ---- the meaning

pub record CanTake (division : SignedDivision) (point : List ℤ) : Type 0 where
  pub a : IsValue division.width division.a point
  pub divisor_mark : IsMark (number_at point division.divisor_mark)

abbrev pub division_of : DivisionKind → Flags → ℕ → ℕ → ℕ → Val
division_of Quotient flags width a c = sdiv_of flags width a c
division_of Remainder flags width a c = srem_of width a c

abbrev pub meaning : SignedDivision → List ℤ → Val
meaning division point =
    on_numbers (division_of division.kind division.flags division.width) (value_at division.a point)
    (divisor_value division.divisor division.divisor_mark point)
