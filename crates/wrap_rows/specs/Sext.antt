-- The piece of a sign extension.
use Rattle.std.specs.Prelude.{ℕ, ◌+◌, ◌-◌, ◌^◌, ◌<◌, if◌then◌else◌, ℤ, pos, neg_ℤ, ◌+ℤ◌, int_lt, List, [], ◌∷◌, ◌++◌}
use Rattle.mix_system.specs.Row.{number_at}
use Rattle.ir_meaning.specs.declared.value.Val.{Val}
use Rattle.ir_meaning.specs.Whole.{IsWidth}
use Rattle.ir_meaning.specs.Value.{on_number}
use Rattle.ir_meaning.specs.Rows.{sext_of}
use Rattle.wrap_rows.specs.declared.vars.ValueVars.{ValueVars}
use Rattle.wrap_rows.specs.declared.sext.Sext.{Sext}
use Rattle.wrap_rows.specs.Vars.{IsValue, is_marked, value_at}
use Rattle.wrap_rows.specs.Layout.{Layout, times}
use Rattle.wrap_rows.specs.Blocks.{equals, marks, sign_row, sign_clauses, sign_of}
use Rattle.wrap_rows.specs.Piece.{mark_of}

-- the widths are right, and the operand's variables stand before
pub record IsAt (sext : Sext) (first : ℕ) : Type 0 where
  pub from : IsWidth sext.from
  pub to : IsWidth sext.to
  pub wider : sext.from < sext.to
  pub number : sext.a.number < first
  pub mark : sext.a.mark < first

abbrev pub vars : Sext → ℕ → ValueVars
vars sext first = record { number = first; mark = first + 1 }

-- number, mark, sign of the operand
abbrev pub ranges : Sext → List (ℤ × ℤ)
ranges sext = (pos 0, pos (2 ^ sext.to - 1)) ∷ (pos 0, pos 1) ∷ (pos 0, pos 1) ∷ []

abbrev pub layout : Sext → ℕ → Layout
layout sext first = record {
  rows =
      sign_row sext.from sext.a.number (first + 1 + 1)
      ∷ (times (pos 1) sext.a.number ∷ times (pos (2 ^ sext.to - 2 ^ sext.from)) (first + 1 + 1) ∷ times (neg_ℤ (pos 1)) first ∷ [])
      ∷ [];
  clauses = sign_clauses sext.from 0 ++ (equals 1 (pos 0) ++ marks (first + 1) (sext.a.mark ∷ []) []);
}

abbrev pub number : Sext → List ℤ → ℤ
number sext point =
    if int_lt (number_at point sext.a.number) (pos (2 ^ (sext.from - 1))) then number_at point sext.a.number
    else (number_at point sext.a.number +ℤ pos (2 ^ sext.to - 2 ^ sext.from))

abbrev pub numbers : Sext → List ℤ → List ℤ
numbers sext point = number sext point ∷ mark_of (is_marked sext.a point) ∷ sign_of sext.from (number_at point sext.a.number) ∷ []

abbrev pub CanTake : Sext → List ℤ → Type 0
CanTake sext point = IsValue sext.from sext.a point

abbrev pub meaning : Sext → List ℤ → Val
meaning sext point = on_number (sext_of sext.from sext.to) (value_at sext.a point)
