-- The piece of a product with a constant factor, or of a shift to the left by an amount below the width: the operand is multiplied by a constant.
use Rattle.std.specs.Prelude.{ℕ, ◌+◌, ◌-◌, ◌*◌, ◌/◌, ◌%◌, ◌^◌, ◌<◌, Bool, ◌||◌, if◌then◌else◌, ℤ, pos, neg_ℤ, ◌*ℤ◌, unsigned_abs, List, [], ◌∷◌, ◌++◌}
use Rattle.std.specs.Ordering.{int_eq}
use Rattle.mix_system.specs.declared.literal.Lit.{Lit}
use Rattle.mix_system.specs.declared.row.Part.{Part}
use Rattle.mix_system.specs.Row.{number_at}
use Rattle.ir_meaning.specs.declared.value.Val.{Val}
use Rattle.ir_meaning.specs.Whole.{IsWidth, signed}
use Rattle.ir_meaning.specs.Value.{poison_if, on_numbers}
use Rattle.ir_meaning.specs.Rows.{mul_of, shl_of}
use Rattle.wrap_rows.specs.declared.vars.ValueVars.{ValueVars}
use Rattle.wrap_rows.specs.declared.scaled.Scale.{Scale}
use Rattle.wrap_rows.specs.declared.scaled.Scale.TheVariants.{Before, Behind, Shift}
use Rattle.wrap_rows.specs.declared.scaled.Scaled.{Scaled}
use Rattle.wrap_rows.specs.Vars.{IsValue, IsMark, is_marked, value_at}
use Rattle.wrap_rows.specs.Layout.{Layout, times}
use Rattle.wrap_rows.specs.Blocks.{equals, marks, sign_row, sign_clauses, sign_of}
use Rattle.wrap_rows.specs.Piece.{mark_of}
use Rattle.wrap_rows.specs.Wrapping.{leaving, exceeding, listed, bars}

-- ---- the constant

-- the factor is a number of the width, the amount is below it
abbrev pub IsScale : ℕ → Scale → Type 0
IsScale width (Before factor) = factor < 2 ^ width
IsScale width (Behind factor) = factor < 2 ^ width
IsScale width (Shift amount) = amount < width

-- what the operand is multiplied by
abbrev pub factor : Scale → ℕ
factor (Before c) = c
factor (Behind c) = c
factor (Shift amount) = 2 ^ amount

-- and what its signed reading is multiplied by
abbrev pub signed_factor : ℕ → Scale → ℤ
signed_factor width (Before c) = signed width c
signed_factor width (Behind c) = signed width c
signed_factor width (Shift amount) = pos (2 ^ amount)

-- the width and the constant are right, and the operands' variables stand before
pub record IsAt (scaled : Scaled) (first : ℕ) : Type 0 where
  pub width : IsWidth scaled.width
  pub scale : IsScale scaled.width scaled.scale
  pub a : scaled.a.number < first
  pub a_mark : scaled.a.mark < first
  pub constant_mark : scaled.constant_mark < first

abbrev pub vars : Scaled → ℕ → ValueVars
vars scaled first = record { number = first; mark = first + 1 }

-- ---- what it lays

abbrev pub sign_ranges : (nsw : Bool) → List (ℤ × ℤ)
sign_ranges nsw = if nsw then (pos 0, pos 1) ∷ [] else []

-- number, mark, carry; with `nsw` the sign of the operand
abbrev pub ranges : Scaled → List (ℤ × ℤ)
ranges scaled =
    (pos 0, pos (2 ^ scaled.width - 1)) ∷ (pos 0, pos 1) ∷ (pos 0, pos (factor scaled.scale - 1)) ∷ sign_ranges scaled.flags.nsw

-- the exact result less the number and 2^width times the carry
abbrev pub carry_row : Scaled → ℕ → List Part
carry_row scaled first =
    times (pos (factor scaled.scale)) scaled.a.number
    ∷ times (neg_ℤ (pos 1)) first
    ∷ times (neg_ℤ (pos (2 ^ scaled.width))) (first + 1 + 1)
    ∷ []

-- the exact signed result, by the sign of the operand
abbrev pub signed_row : Scaled → ℕ → List Part
signed_row scaled sign =
    times (signed_factor scaled.width scaled.scale) scaled.a.number
    ∷ times (neg_ℤ (signed_factor scaled.width scaled.scale *ℤ pos (2 ^ scaled.width))) sign
    ∷ []

abbrev pub signed_rows : (nsw : Bool) → Scaled → ℕ → List (List Part)
signed_rows nsw scaled sign =
    if nsw then (sign_row scaled.width scaled.a.number sign ∷ signed_row scaled sign ∷ []) else []

abbrev pub signed_clauses : (nsw : Bool) → (width row : ℕ) → List (List Lit)
signed_clauses nsw width row = if nsw then sign_clauses width row else []

-- the marks of the operands, as they are written
abbrev pub operands_of : Scale → (a constant : ℕ) → List ℕ
operands_of (Before c) a constant = constant ∷ a ∷ []
operands_of (Behind c) a constant = a ∷ constant ∷ []
operands_of (Shift amount) a constant = a ∷ constant ∷ []

abbrev pub operands : Scaled → List ℕ
operands scaled = operands_of scaled.scale scaled.a.mark scaled.constant_mark

-- its literals, where the signed result's row has this number
abbrev pub literals : (nuw nsw : Bool) → Scaled → ℕ → ℕ → List Lit
literals nuw nsw scaled first row = listed nuw nsw (leaving (first + 1 + 1)) (exceeding scaled.width row)

abbrev pub layout_of : (nuw nsw : Bool) → Scaled → ℕ → Layout
layout_of nuw nsw scaled first = record {
  rows = carry_row scaled first ∷ signed_rows nsw scaled (first + 1 + 1 + 1);
  clauses =
      equals 0 (pos 0)
      ++ (signed_clauses nsw scaled.width 1
      ++ marks (first + 1) (operands scaled) (literals nuw nsw scaled first 2));
}

abbrev pub layout : Scaled → ℕ → Layout
layout scaled first = layout_of scaled.flags.nuw scaled.flags.nsw scaled first

-- ---- what is filled in

-- the exact result, and that of the signed readings
abbrev pub exact : Scaled → List ℤ → ℕ
exact scaled point = unsigned_abs (number_at point scaled.a.number) * factor scaled.scale

abbrev pub exact_signed : Scaled → List ℤ → ℤ
exact_signed scaled point =
    signed scaled.width (unsigned_abs (number_at point scaled.a.number)) *ℤ signed_factor scaled.width scaled.scale

abbrev pub barred : Scaled → List ℤ → Bool
barred scaled point = bars scaled.flags scaled.width (pos (exact scaled point)) (exact_signed scaled point)

abbrev pub is_poison : Scaled → List ℤ → Bool
is_poison scaled point =
    is_marked scaled.a point || (int_eq (number_at point scaled.constant_mark) (pos 1) || barred scaled point)

abbrev pub sign_numbers : (nsw : Bool) → ℤ → List ℤ
sign_numbers nsw sign = if nsw then sign ∷ [] else []

abbrev pub numbers : Scaled → List ℤ → List ℤ
numbers scaled point =
    pos (exact scaled point % 2 ^ scaled.width)
    ∷ mark_of (is_poison scaled point)
    ∷ pos (exact scaled point / 2 ^ scaled.width)
    ∷ sign_numbers scaled.flags.nsw (sign_of scaled.width (number_at point scaled.a.number))

pub record CanTake (scaled : Scaled) (point : List ℤ) : Type 0 where
  pub a : IsValue scaled.width scaled.a point
  pub constant_mark : IsMark (number_at point scaled.constant_mark)

-- ---- what it means

-- the factor or the amount: the constant, or poison
abbrev pub constant_value : Scale → ℤ → Val
constant_value (Before c) mark = poison_if (int_eq mark (pos 1)) c
constant_value (Behind c) mark = poison_if (int_eq mark (pos 1)) c
constant_value (Shift amount) mark = poison_if (int_eq mark (pos 1)) amount

abbrev pub scaled_value : Scale → Scaled → (a constant : Val) → Val
scaled_value (Before c) scaled a constant = on_numbers (mul_of scaled.flags scaled.width) constant a
scaled_value (Behind c) scaled a constant = on_numbers (mul_of scaled.flags scaled.width) a constant
scaled_value (Shift amount) scaled a constant = on_numbers (shl_of scaled.flags scaled.width) a constant

abbrev pub meaning : Scaled → List ℤ → Val
meaning scaled point =
    scaled_value scaled.scale scaled (value_at scaled.a point)
    (constant_value scaled.scale (number_at point scaled.constant_mark))
