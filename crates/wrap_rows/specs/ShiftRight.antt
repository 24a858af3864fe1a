-- The piece of a shift to the right by an amount below the width.
use Rattle.std.specs.Prelude.{ℕ, ◌+◌, ◌-◌, ◌/◌, ◌%◌, ◌^◌, ◌<◌, Bool, ◌&&◌, ◌||◌, nat_lt, nat_le, if◌then◌else◌, ℤ, pos, neg_ℤ, unsigned_abs, List, [], ◌∷◌, ◌++◌}
use Rattle.std.specs.Ordering.{int_eq}
use Rattle.mix_system.specs.declared.literal.Term.TheVariants.{Var}
use Rattle.mix_system.specs.declared.literal.Lit.{Lit}
use Rattle.mix_system.specs.declared.row.Part.{Part}
use Rattle.mix_system.specs.Row.{number_at}
use Rattle.ir_meaning.specs.declared.value.Val.{Val}
use Rattle.ir_meaning.specs.Whole.{IsWidth}
use Rattle.ir_meaning.specs.Value.{poison_if, on_numbers}
use Rattle.ir_meaning.specs.Rows.{lshr_of, ashr_of}
use Rattle.wrap_rows.specs.declared.vars.ValueVars.{ValueVars}
use Rattle.wrap_rows.specs.declared.shift_right.ShiftRight.{ShiftRight}
use Rattle.wrap_rows.specs.Vars.{IsValue, IsMark, is_marked, value_at}
use Rattle.wrap_rows.specs.Layout.{Layout, times, at_least}
use Rattle.wrap_rows.specs.Blocks.{equals, marks, sign_row, sign_clauses, sign_of}
use Rattle.wrap_rows.specs.Piece.{mark_of}

-- the width and the amount are right, and the operands' variables stand before
pub record IsAt (shift : ShiftRight) (first : ℕ) : Type 0 where
  pub width : IsWidth shift.width
  pub below : shift.amount < shift.width
  pub a : shift.a.number < first
  pub a_mark : shift.a.mark < first
  pub amount_mark : shift.amount_mark < first

abbrev pub vars : ShiftRight → ℕ → ValueVars
vars shift first = record { number = first; mark = first + 1 }

-- the sign, where the shift is of the signed reading, then the rest of the division by 2^amount
abbrev pub helper_ranges : Bool → ℕ → List (ℤ × ℤ)
helper_ranges signed amount = if signed then (pos 0, pos 1) ∷ (pos 0, pos (2 ^ amount - 1)) ∷ [] else ((pos 0, pos (2 ^ amount - 1)) ∷ [])

-- number, mark, helpers
abbrev pub ranges : ShiftRight → List (ℤ × ℤ)
ranges shift = (pos 0, pos (2 ^ shift.width - 1)) ∷ (pos 0, pos 1) ∷ helper_ranges shift.signed shift.amount

abbrev pub sign_at : ℕ → ℕ
sign_at first = first + 1 + 1

abbrev pub rest_at : Bool → ℕ → ℕ
rest_at signed first = if signed then first + 1 + 1 + 1 else (first + 1 + 1)

-- ---- rows: the sign, and the division of the number or of its signed reading

abbrev pub plain_row : ShiftRight → ℕ → List Part
plain_row shift first =
    times (pos 1) shift.a.number
    ∷ times (neg_ℤ (pos (2 ^ shift.amount))) first
    ∷ times (neg_ℤ (pos 1)) (first + 1 + 1)
    ∷ []

abbrev pub signed_row : ShiftRight → ℕ → List Part
signed_row shift first =
    times (pos 1) shift.a.number
    ∷ times (neg_ℤ (pos (2 ^ shift.width))) (sign_at first)
    ∷ times (neg_ℤ (pos (2 ^ shift.amount))) first
    ∷ times (pos (2 ^ (shift.amount + shift.width))) (sign_at first)
    ∷ times (neg_ℤ (pos 1)) (first + 1 + 1 + 1)
    ∷ []

abbrev pub sign_rows : Bool → ShiftRight → ℕ → List (List Part)
sign_rows signed shift first = if signed then sign_row shift.width shift.a.number (sign_at first) ∷ [] else []

abbrev pub division_row : Bool → ShiftRight → ℕ → List Part
division_row signed shift first = if signed then signed_row shift first else (plain_row shift first)

abbrev pub rows_of : Bool → ShiftRight → ℕ → List (List Part)
rows_of signed shift first = sign_rows signed shift first ++ division_row signed shift first ∷ []

-- the number of the division's row
abbrev pub division_at : Bool → ℕ
division_at signed = if signed then 1 else 0

-- ---- clauses

abbrev pub sign_clauses_of : Bool → ShiftRight → List (List Lit)
sign_clauses_of signed shift = if signed then sign_clauses shift.width 0 else []

-- `exact` bars a rest
abbrev pub listed : Bool → ℕ → List Lit
listed exact rest = if exact then at_least (Var rest) (pos 1) ∷ [] else []

abbrev pub mark_clauses : Bool → ShiftRight → ℕ → List (List Lit)
mark_clauses signed shift first =
    marks (first + 1) (shift.a.mark ∷ shift.amount_mark ∷ []) (listed shift.flags.exact (rest_at signed first))

abbrev pub value_clauses : Bool → ShiftRight → ℕ → List (List Lit)
value_clauses signed shift first = equals (division_at signed) (pos 0) ++ mark_clauses signed shift first

abbrev pub layout_of : Bool → ShiftRight → ℕ → Layout
layout_of signed shift first = record {
  rows = rows_of signed shift first;
  clauses = sign_clauses_of signed shift ++ value_clauses signed shift first;
}

abbrev pub layout : ShiftRight → ℕ → Layout
layout shift first = layout_of shift.signed shift first

-- ---- the numbers that are filled in

-- a number that is divided in place of one whose signed reading is negative: it is raised by 2^(amount + width) - 2^width, and so the quotient by 2^width
abbrev pub raised : Bool → (width amount n : ℕ) → ℕ
raised signed width amount n = if signed && nat_le (2 ^ (width - 1)) n then n + (2 ^ (amount + width) - 2 ^ width) else n

abbrev pub divided : ShiftRight → List ℤ → ℕ
divided shift point = raised shift.signed shift.width shift.amount (unsigned_abs (number_at point shift.a.number))

abbrev pub is_barred : ShiftRight → ℕ → Bool
is_barred shift rest = shift.flags.exact && nat_lt 0 rest

abbrev pub is_poison : ShiftRight → List ℤ → Bool
is_poison shift point =
    is_marked shift.a point || (int_eq (number_at point shift.amount_mark) (pos 1) || is_barred shift (divided shift point % 2 ^ shift.amount))

abbrev pub helpers : Bool → (sign rest : ℤ) → List ℤ
helpers signed sign rest = if signed then sign ∷ rest ∷ [] else (rest ∷ [])

abbrev pub numbers : ShiftRight → List ℤ → List ℤ
numbers shift point =
    pos (divided shift point / 2 ^ shift.amount)
    ∷ mark_of (is_poison shift point)
    ∷ helpers shift.signed (sign_of shift.width (number_at point shift.a.number)) (pos (divided shift point % 2 ^ shift.amount))

-- ---- the meaning

pub record CanTake (shift : ShiftRight) (point : List ℤ) : Type 0 where
  pub a : IsValue shift.width shift.a point
  pub amount_mark : IsMark (number_at point shift.amount_mark)

abbrev pub shift_of : Bool → ShiftRight → ℕ → ℕ → Val
shift_of signed shift a amount = if signed then ashr_of shift.flags shift.width a amount else (lshr_of shift.flags shift.width a amount)

-- the amount is the constant, or poison
abbrev pub amount_value : ShiftRight → List ℤ → Val
amount_value shift point = poison_if (int_eq (number_at point shift.amount_mark) (pos 1)) shift.amount

abbrev pub meaning : ShiftRight → List ℤ → Val
meaning shift point = on_numbers (shift_of shift.signed shift) (value_at shift.a point) (amount_value shift point)
