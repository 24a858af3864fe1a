-- The piece of a sum or a difference.
use Rattle.std.specs.Prelude.{ℕ, ◌+◌, ◌-◌, ◌^◌, ◌<◌, Bool, ◌||◌, if◌then◌else◌, ℤ, pos, negsuc, neg_ℤ, ◌+ℤ◌, ◌-ℤ◌, int_lt, unsigned_abs, List, [], ◌∷◌, ◌++◌}
use Rattle.mix_system.specs.declared.literal.Lit.{Lit}
use Rattle.mix_system.specs.declared.row.Part.{Part}
use Rattle.mix_system.specs.Row.{number_at}
use Rattle.ll_tree.specs.declared.op.Flags.{Flags}
use Rattle.ir_meaning.specs.declared.value.Val.{Val}
use Rattle.ir_meaning.specs.Whole.{IsWidth, signed}
use Rattle.ir_meaning.specs.Value.{on_numbers}
use Rattle.ir_meaning.specs.Rows.{add_of, sub_of}
use Rattle.wrap_rows.specs.declared.vars.ValueVars.{ValueVars}
use Rattle.wrap_rows.specs.declared.sum.SumKind.{SumKind}
use Rattle.wrap_rows.specs.declared.sum.SumKind.TheVariants.{Plus, Minus}
use Rattle.wrap_rows.specs.declared.sum.Sum.{Sum}
use Rattle.wrap_rows.specs.Vars.{IsValue, is_marked, value_at}
use Rattle.wrap_rows.specs.Layout.{Layout, times}
use Rattle.wrap_rows.specs.Blocks.{equals, marks, sign_row, sign_clauses, sign_of}
use Rattle.wrap_rows.specs.Piece.{mark_of}
use Rattle.wrap_rows.specs.Wrapping.{leaving, exceeding, listed, bars}

-- the width is right, and the operands' variables stand before
pub record IsAt (sum : Sum) (first : ℕ) : Type 0 where
  pub width : IsWidth sum.width
  pub a : sum.a.number < first
  pub a_mark : sum.a.mark < first
  pub b : sum.b.number < first
  pub b_mark : sum.b.mark < first

abbrev pub vars : Sum → ℕ → ValueVars
vars sum first = record { number = first; mark = first + 1 }

-- ---- what it lays

-- the second operand's coefficient
abbrev pub coefficient : SumKind → ℤ
coefficient Plus = pos 1
coefficient Minus = neg_ℤ (pos 1)

-- 2^width of the second operand's sign is taken away from a sum, and added to a difference
abbrev pub sign_coefficient : SumKind → ℕ → ℤ
sign_coefficient Plus width = neg_ℤ (pos (2 ^ width))
sign_coefficient Minus width = pos (2 ^ width)

abbrev pub carry_range : SumKind → ℤ × ℤ
carry_range Plus = (pos 0, pos 1)
carry_range Minus = (negsuc 0, pos 0)

-- number, mark, carry; with `nsw` the signs of the operands
abbrev pub sign_ranges : (nsw : Bool) → List (ℤ × ℤ)
sign_ranges nsw = if nsw then ((pos 0, pos 1) ∷ (pos 0, pos 1) ∷ []) else []

abbrev pub ranges : Sum → List (ℤ × ℤ)
ranges sum =
    (pos 0, pos (2 ^ sum.width - 1)) ∷ (pos 0, pos 1) ∷ carry_range sum.kind ∷ sign_ranges sum.flags.nsw

-- the exact result less the number and 2^width times the carry
abbrev pub carry_row : Sum → ℕ → List Part
carry_row sum first =
    times (pos 1) sum.a.number
    ∷ times (coefficient sum.kind) sum.b.number
    ∷ times (neg_ℤ (pos 1)) first
    ∷ times (neg_ℤ (pos (2 ^ sum.width))) (first + 1 + 1)
    ∷ []

-- the exact signed result, by the signs of the operands
abbrev pub signed_row : Sum → ℕ → List Part
signed_row sum sign =
    times (pos 1) sum.a.number
    ∷ times (coefficient sum.kind) sum.b.number
    ∷ times (neg_ℤ (pos (2 ^ sum.width))) sign
    ∷ times (sign_coefficient sum.kind sum.width) (sign + 1)
    ∷ []

abbrev pub signed_rows : (nsw : Bool) → Sum → ℕ → List (List Part)
signed_rows nsw sum sign =
    if nsw then
    (sign_row sum.width sum.a.number sign
    ∷ sign_row sum.width sum.b.number (sign + 1)
    ∷ signed_row sum sign
    ∷ [])
    else []

-- the clauses of the signs, whose rows have these numbers
abbrev pub signed_clauses : (nsw : Bool) → (width row next : ℕ) → List (List Lit)
signed_clauses nsw width row next =
    if nsw then (sign_clauses width row ++ sign_clauses width next) else []

abbrev pub operands : Sum → List ℕ
operands sum = sum.a.mark ∷ sum.b.mark ∷ []

-- its literals, where the signed result's row has this number
abbrev pub literals : (nuw nsw : Bool) → Sum → ℕ → ℕ → List Lit
literals nuw nsw sum first row = listed nuw nsw (leaving (first + 1 + 1)) (exceeding sum.width row)

abbrev pub layout_of : (nuw nsw : Bool) → Sum → ℕ → Layout
layout_of nuw nsw sum first = record {
  rows = carry_row sum first ∷ signed_rows nsw sum (first + 1 + 1 + 1);
  clauses =
      equals 0 (pos 0)
      ++ (signed_clauses nsw sum.width 1 2
      ++ marks (first + 1) (operands sum) (literals nuw nsw sum first 3));
}

abbrev pub layout : Sum → ℕ → Layout
layout sum first = layout_of sum.flags.nuw sum.flags.nsw sum first

-- ---- what is filled in

abbrev pub joined : SumKind → ℤ → ℤ → ℤ
joined Plus a b = a +ℤ b
joined Minus a b = a -ℤ b

-- the exact result, and that of the signed readings
abbrev pub exact : Sum → List ℤ → ℤ
exact sum point = joined sum.kind (number_at point sum.a.number) (number_at point sum.b.number)

abbrev pub exact_signed : Sum → List ℤ → ℤ
exact_signed sum point =
    joined sum.kind (signed sum.width (unsigned_abs (number_at point sum.a.number)))
    (signed sum.width (unsigned_abs (number_at point sum.b.number)))

-- an exact result, brought back to the numbers of the width
abbrev pub reduced : ℕ → ℤ → ℤ
reduced width z =
    if int_lt z (pos 0) then (z +ℤ pos (2 ^ width))
    else (if int_lt z (pos (2 ^ width)) then z else (z -ℤ pos (2 ^ width)))

abbrev pub carry : ℕ → ℤ → ℤ
carry width z =
    if int_lt z (pos 0) then negsuc 0
    else (if int_lt z (pos (2 ^ width)) then pos 0 else (pos 1))

abbrev pub barred : Sum → List ℤ → Bool
barred sum point = bars sum.flags sum.width (exact sum point) (exact_signed sum point)

abbrev pub is_poison : Sum → List ℤ → Bool
is_poison sum point =
    is_marked sum.a point || (is_marked sum.b point || barred sum point)

abbrev pub signs : (nsw : Bool) → Sum → List ℤ → List ℤ
signs nsw sum point =
    if nsw then
    (sign_of sum.width (number_at point sum.a.number)
    ∷ sign_of sum.width (number_at point sum.b.number)
    ∷ [])
    else []

abbrev pub numbers : Sum → List ℤ → List ℤ
numbers sum point =
    reduced sum.width (exact sum point)
    ∷ mark_of (is_poison sum point)
    ∷ carry sum.width (exact sum point)
    ∷ signs sum.flags.nsw sum point

pub record CanTake (sum : Sum) (point : List ℤ) : Type 0 where
  pub a : IsValue sum.width sum.a point
  pub b : IsValue sum.width sum.b point

-- ---- what it means

abbrev pub sum_of : SumKind → Flags → ℕ → ℕ → ℕ → Val
sum_of Plus flags width a b = add_of flags width a b
sum_of Minus flags width a b = sub_of flags width a b

abbrev pub meaning : Sum → List ℤ → Val
meaning sum point =
    on_numbers (sum_of sum.kind sum.flags sum.width) (value_at sum.a point) (value_at sum.b point)
