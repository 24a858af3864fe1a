-- The piece of an operation bit by bit.
use Rattle.std.specs.Prelude.{◌≡◌, ℕ, zero, suc, ◌+◌, ◌-◌, ◌%◌, ◌^◌, ◌<◌, min, max, Bool, false, not, ◌&&◌, ◌||◌, ◌==◌, if◌then◌else◌, Option, None, Some, ℤ, pos, neg_ℤ, unsigned_abs, List, [], ◌∷◌, ◌++◌}
use Rattle.mix_system.specs.declared.literal.Term.TheVariants.{Var, Row}
use Rattle.mix_system.specs.declared.literal.Lit.{Lit}
use Rattle.mix_system.specs.declared.row.Part.{Part}
use Rattle.mix_system.specs.Row.{number_at}
use Rattle.ll_tree.specs.declared.op.Flags.{Flags}
use Rattle.ir_meaning.specs.declared.value.Val.{Val}
use Rattle.ir_meaning.specs.Whole.{IsWidth, by_bits}
use Rattle.ir_meaning.specs.Value.{on_numbers}
use Rattle.ir_meaning.specs.Rows.{and_of, or_of, xor_of}
use Rattle.wrap_rows.specs.declared.vars.ValueVars.{ValueVars}
use Rattle.wrap_rows.specs.Vars.{IsValue, is_marked, value_at}
use Rattle.wrap_rows.specs.Layout.{Layout, times, at_most, at_least}
use Rattle.wrap_rows.specs.Blocks.{equals, marks}
use Rattle.wrap_rows.specs.Piece.{mark_of}
use Rattle.bit_rows.specs.declared.bits.BitVars.{BitVars}
use Rattle.bit_rows.specs.declared.bits.BitVars.TheVariants.{Helpers, Literal}
use Rattle.bit_rows.specs.declared.bitwise.BitKind.{BitKind}
use Rattle.bit_rows.specs.declared.bitwise.BitKind.TheVariants.{And, Or, Xor}
use Rattle.bit_rows.specs.declared.bitwise.Bitwise.{Bitwise}
use Rattle.bit_rows.specs.Bits.{bits_of, bit_ranges, bits_row, lowest, others}

-- the width is right, and the variables 0 and 1 and the operands' stand before
pub record IsAt (bitwise : Bitwise) (first : ℕ) : Type 0 where
  pub width : IsWidth bitwise.width
  pub constants : 1 < first
  pub a : bitwise.a.vars.number < first
  pub a_mark : bitwise.a.vars.mark < first
  pub b : bitwise.b.vars.number < first
  pub b_mark : bitwise.b.vars.mark < first

abbrev pub vars : Bitwise → ℕ → ValueVars
vars bitwise first = record { number = first; mark = first + 1 }

-- ---- where the bits stand: those of the left operand, of the right, of the number. A literal has no helpers.

abbrev pub helper_count : Option ℕ → ℕ → ℕ
helper_count None width = width
helper_count (Some literal) width = 0

abbrev pub bits_at : Option ℕ → ℕ → BitVars
bits_at None first = Helpers first
bits_at (Some literal) first = Literal literal

abbrev pub left_at : ℕ → ℕ
left_at first = first + 1 + 1

abbrev pub right_at : (a : Option ℕ) → (width first : ℕ) → ℕ
right_at a width first = left_at first + helper_count a width

abbrev pub result_at : (a b : Option ℕ) → (width first : ℕ) → ℕ
result_at a b width first = right_at a width first + helper_count b width

-- number, mark, helpers
abbrev pub ranges : Bitwise → List (ℤ × ℤ)
ranges bitwise =
    (pos 0, pos (2 ^ bitwise.width - 1))
    ∷ (pos 0, pos 1)
    ∷ bit_ranges (helper_count bitwise.a.literal bitwise.width + helper_count bitwise.b.literal bitwise.width + bitwise.width)

-- ---- rows: the equations of the operands that aren't literals and of the number, and with `disjoint` what the operands' sum has more than the number

abbrev pub operand_rows : Option ℕ → (width number first : ℕ) → List (List Part)
operand_rows None width number first = bits_row width number first ∷ []
operand_rows (Some literal) width number first = []

abbrev pub row_count : Option ℕ → ℕ
row_count None = 1
row_count (Some literal) = 0

abbrev pub is_disjoint : BitKind → Flags → Bool
is_disjoint Or flags = flags.disjoint
is_disjoint _ flags = false

abbrev pub excess_row : Bitwise → ℕ → List Part
excess_row bitwise first = times (pos 1) bitwise.a.vars.number ∷ times (pos 1) bitwise.b.vars.number ∷ times (neg_ℤ (pos 1)) first ∷ []

abbrev pub excess_rows : (disjoint : Bool) → Bitwise → ℕ → List (List Part)
excess_rows disjoint bitwise first = if disjoint then excess_row bitwise first ∷ [] else []

abbrev pub rows_of : (disjoint : Bool) → (a b : Option ℕ) → Bitwise → ℕ → List (List Part)
rows_of disjoint a b bitwise first =
    operand_rows a bitwise.width bitwise.a.vars.number (left_at first)
    ++ (operand_rows b bitwise.width bitwise.b.vars.number (right_at a bitwise.width first)
    ++ bits_row bitwise.width first (result_at a b bitwise.width first)
    ∷ excess_rows disjoint bitwise first)

-- ---- clauses

abbrev pub operand_clauses : Option ℕ → ℕ → List (List Lit)
operand_clauses None row = equals row (pos 0)
operand_clauses (Some literal) row = []

-- a bit is 0, a bit is 1
abbrev pub off : ℕ → Lit
off bit = at_most (Var bit) (pos 0)

abbrev pub on : ℕ → Lit
on bit = at_least (Var bit) (pos 1)

-- a bit of the number, by the bits of the operands at its place
abbrev pub bit_clauses : BitKind → (x a b : ℕ) → List (List Lit)
bit_clauses And x a b = (off x ∷ on a ∷ []) ∷ (off x ∷ on b ∷ []) ∷ (on x ∷ off a ∷ off b ∷ []) ∷ []
bit_clauses Or x a b = (on x ∷ off a ∷ []) ∷ (on x ∷ off b ∷ []) ∷ (off x ∷ on a ∷ on b ∷ []) ∷ []
bit_clauses Xor x a b =
    (off x ∷ on a ∷ on b ∷ [])
    ∷ (off x ∷ off a ∷ off b ∷ [])
    ∷ (on x ∷ off a ∷ on b ∷ [])
    ∷ (on x ∷ on a ∷ off b ∷ [])
    ∷ []

-- each bit, the lowest first
abbrev pub bits_clauses : BitKind → (width x : ℕ) → (a b : BitVars) → List (List Lit)
bits_clauses kind zero x a b = []
bits_clauses kind (suc width) x a b = bit_clauses kind x (lowest a) (lowest b) ++ bits_clauses kind width (x + 1) (others a) (others b)

-- the clauses of the number's bits
abbrev pub number_clauses : (a b : Option ℕ) → Bitwise → ℕ → List (List Lit)
number_clauses a b bitwise first =
    bits_clauses bitwise.kind bitwise.width (result_at a b bitwise.width first) (bits_at a (left_at first)) (bits_at b (right_at a bitwise.width first))

-- `disjoint` bars operands whose sum is more than the number
abbrev pub listed : (disjoint : Bool) → ℕ → List Lit
listed disjoint row = if disjoint then at_least (Row row) (pos 1) ∷ [] else []

abbrev pub mark_clauses : (disjoint : Bool) → Bitwise → (mark row : ℕ) → List (List Lit)
mark_clauses disjoint bitwise mark row = marks mark (bitwise.a.vars.mark ∷ bitwise.b.vars.mark ∷ []) (listed disjoint row)

abbrev pub clauses_of : (disjoint : Bool) → (a b : Option ℕ) → Bitwise → ℕ → List (List Lit)
clauses_of disjoint a b bitwise first =
    operand_clauses a 0
    ++ (operand_clauses b (row_count a)
    ++ (equals (row_count a + row_count b) (pos 0)
    ++ (number_clauses a b bitwise first
    ++ mark_clauses disjoint bitwise (first + 1) (row_count a + row_count b + 1))))

abbrev pub layout_of : (disjoint : Bool) → (a b : Option ℕ) → Bitwise → ℕ → Layout
layout_of disjoint a b bitwise first = record {
  rows = rows_of disjoint a b bitwise first;
  clauses = clauses_of disjoint a b bitwise first;
}

abbrev pub layout : Bitwise → ℕ → Layout
layout bitwise first = layout_of (is_disjoint bitwise.kind bitwise.flags) bitwise.a.literal bitwise.b.literal bitwise first

-- ---- the numbers that are filled in

-- a bit of the result
abbrev pub bit_of : BitKind → ℕ → ℕ → ℕ
bit_of And x y = min x y
bit_of Or x y = max x y
bit_of Xor x y = (x + y) % 2

abbrev pub left : Bitwise → List ℤ → ℕ
left bitwise point = unsigned_abs (number_at point bitwise.a.vars.number)

abbrev pub right : Bitwise → List ℤ → ℕ
right bitwise point = unsigned_abs (number_at point bitwise.b.vars.number)

abbrev pub result_of : BitKind → (width a b : ℕ) → ℕ
result_of kind width a b = by_bits width (bit_of kind) a b

-- a bit that is 1 in both
abbrev pub is_barred : BitKind → Flags → (width a b : ℕ) → Bool
is_barred kind flags width a b = is_disjoint kind flags && not (by_bits width min a b == 0)

abbrev pub is_poison : Bitwise → List ℤ → Bool
is_poison bitwise point =
    is_marked bitwise.a.vars point
    || (is_marked bitwise.b.vars point || is_barred bitwise.kind bitwise.flags bitwise.width (left bitwise point) (right bitwise point))

abbrev pub helpers : Option ℕ → (width number : ℕ) → List ℤ
helpers None width number = bits_of width number
helpers (Some literal) width number = []

abbrev pub numbers : Bitwise → List ℤ → List ℤ
numbers bitwise point =
    pos (result_of bitwise.kind bitwise.width (left bitwise point) (right bitwise point))
    ∷ mark_of (is_poison bitwise point)
    ∷ (helpers bitwise.a.literal bitwise.width (left bitwise point)
    ++ (helpers bitwise.b.literal bitwise.width (right bitwise point)
    ++ bits_of bitwise.width (result_of bitwise.kind bitwise.width (left bitwise point) (right bitwise point))))

-- ---- the meaning

-- a literal's variable has its number
abbrev pub IsLiteral : Option ℕ → ℤ → Type 0
IsLiteral None number = Unit {0}
IsLiteral (Some literal) number = number ≡ pos literal

pub record CanTake (bitwise : Bitwise) (point : List ℤ) : Type 0 where
  pub var_0 : number_at point 0 ≡ pos 0
  pub var_1 : number_at point 1 ≡ pos 1
  pub a : IsValue bitwise.width bitwise.a.vars point
  pub b : IsValue bitwise.width bitwise.b.vars point
  pub a_literal : IsLiteral bitwise.a.literal (number_at point bitwise.a.vars.number)
  pub b_literal : IsLiteral bitwise.b.literal (number_at point bitwise.b.vars.number)

abbrev pub bitwise_of : BitKind → Flags → (width a b : ℕ) → Val
bitwise_of And flags width a b = and_of width a b
bitwise_of Or flags width a b = or_of flags width a b
bitwise_of Xor flags width a b = xor_of width a b

abbrev pub meaning : Bitwise → List ℤ → Val
meaning bitwise point = on_numbers (bitwise_of bitwise.kind bitwise.flags bitwise.width) (value_at bitwise.a.vars point) (value_at bitwise.b.vars point)
