-- The piece of a zero extension.
use Rattle.std.specs.Prelude.{ℕ, ◌+◌, ◌-◌, ◌^◌, ◌<◌, ◌&&◌, ◌||◌, if◌then◌else◌, ℤ, pos, neg_ℤ, List, [], ◌∷◌, ◌++◌, int_le}
use Rattle.mix_system.specs.declared.literal.Term.TheVariants.{Var}
use Rattle.mix_system.specs.declared.literal.Lit.{Lit}
use Rattle.mix_system.specs.Row.{number_at}
use Rattle.ir_meaning.specs.declared.value.Val.{Val}
use Rattle.ir_meaning.specs.Whole.{IsWidth}
use Rattle.ir_meaning.specs.Value.{on_number}
use Rattle.ir_meaning.specs.Rows.{zext_of}
use Rattle.wrap_rows.specs.declared.vars.ValueVars.{ValueVars}
use Rattle.wrap_rows.specs.declared.zext.Zext.{Zext}
use Rattle.wrap_rows.specs.Vars.{IsValue, is_marked, value_at}
use Rattle.wrap_rows.specs.Layout.{Layout, times, at_least}
use Rattle.wrap_rows.specs.Blocks.{equals, marks}
use Rattle.wrap_rows.specs.Piece.{mark_of}

-- the widths are right, and the operand's variables stand before
pub record IsAt (zext : Zext) (first : ℕ) : Type 0 where
  pub from : IsWidth zext.from
  pub to : IsWidth zext.to
  pub wider : zext.from < zext.to
  pub number : zext.a.number < first
  pub mark : zext.a.mark < first

abbrev pub vars : Zext → ℕ → ValueVars
vars zext first = record { number = first; mark = first + 1 }

abbrev pub ranges : Zext → List (ℤ × ℤ)
ranges zext = (pos 0, pos (2 ^ zext.to - 1)) ∷ (pos 0, pos 1) ∷ []

-- `nneg` bars a number from 2^(from - 1) on
abbrev pub listed : Zext → List Lit
listed zext = if zext.flags.nneg then (at_least (Var zext.a.number) (pos (2 ^ (zext.from - 1))) ∷ []) else []

abbrev pub layout : Zext → ℕ → Layout
layout zext first = record {
  rows = (times (pos 1) zext.a.number ∷ times (neg_ℤ (pos 1)) first ∷ []) ∷ [];
  clauses = equals 0 (pos 0) ++ marks (first + 1) (zext.a.mark ∷ []) (listed zext);
}

abbrev pub numbers : Zext → List ℤ → List ℤ
numbers zext point =
    number_at point zext.a.number
    ∷ mark_of (is_marked zext.a point || (zext.flags.nneg && int_le (pos (2 ^ (zext.from - 1))) (number_at point zext.a.number)))
    ∷ []

abbrev pub CanTake : Zext → List ℤ → Type 0
CanTake zext point = IsValue zext.from zext.a point

abbrev pub meaning : Zext → List ℤ → Val
meaning zext point = on_number (zext_of zext.flags zext.from) (value_at zext.a point)
