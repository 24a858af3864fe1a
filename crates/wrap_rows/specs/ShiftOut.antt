-- The piece of a shift by the width or more, which is always poison.
use Rattle.std.specs.Prelude.{ℕ, ◌+◌, ◌-◌, ◌^◌, ◌≤◌, ℤ, pos, List, [], ◌∷◌}
use Rattle.std.specs.Ordering.{int_eq}
use Rattle.mix_system.specs.declared.literal.Term.TheVariants.{Var}
use Rattle.mix_system.specs.Row.{number_at}
use Rattle.ll_tree.specs.declared.op.BinKind.{BinKind}
use Rattle.ll_tree.specs.declared.op.BinKind.TheVariants.{Shl, Lshr, Ashr}
use Rattle.ir_meaning.specs.declared.value.Val.{Val}
use Rattle.ir_meaning.specs.Whole.{IsWidth}
use Rattle.ir_meaning.specs.Value.{poison_if}
use Rattle.ir_meaning.specs.Rows.{bin_of}
use Rattle.wrap_rows.specs.declared.vars.ValueVars.{ValueVars}
use Rattle.wrap_rows.specs.declared.shift_out.ShiftKind.{ShiftKind}
use Rattle.wrap_rows.specs.declared.shift_out.ShiftKind.TheVariants.{Left, Right, SignedRight}
use Rattle.wrap_rows.specs.declared.shift_out.ShiftOut.{ShiftOut}
use Rattle.wrap_rows.specs.Vars.{value_at}
use Rattle.wrap_rows.specs.Layout.{Layout, at_most, at_least}

abbrev pub kind_of : ShiftKind → BinKind
kind_of Left = Shl
kind_of Right = Lshr
kind_of SignedRight = Ashr

-- the amount isn't below the width
pub record IsAt (shift : ShiftOut) (first : ℕ) : Type 0 where
  pub width : IsWidth shift.width
  pub far : shift.width ≤ shift.amount

abbrev pub vars : ShiftOut → ℕ → ValueVars
vars shift first = record { number = first; mark = first + 1 }

abbrev pub ranges : ShiftOut → List (ℤ × ℤ)
ranges shift = (pos 0, pos (2 ^ shift.width - 1)) ∷ (pos 0, pos 1) ∷ []

-- the number is 0, the mark 1
abbrev pub layout : ShiftOut → ℕ → Layout
layout shift first = record {
  rows = [];
  clauses = (at_most (Var first) (pos 0) ∷ []) ∷ (at_least (Var (first + 1)) (pos 1) ∷ []) ∷ [];
}

abbrev pub numbers : ShiftOut → List ℤ → List ℤ
numbers shift point = pos 0 ∷ pos 1 ∷ []

-- whatever the operands are
abbrev pub CanTake : ShiftOut → List ℤ → Type 0
CanTake shift point = Unit {0}

-- the amount is the constant, or poison
abbrev pub meaning : ShiftOut → List ℤ → Val
meaning shift point =
    bin_of (kind_of shift.kind) shift.flags shift.width (value_at shift.a point)
    (poison_if (int_eq (number_at point shift.amount_mark) (pos 1)) shift.amount)
