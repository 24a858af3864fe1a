-- The piece of an absolute value.
use Rattle.std.specs.Prelude.{ℕ, ◌+◌, ◌-◌, ◌^◌, ◌<◌, Bool, ◌&&◌, ◌||◌, int_lt, if◌then◌else◌, ℤ, pos, ◌-ℤ◌, List, [], ◌∷◌, ◌++◌}
use Rattle.std.specs.Ordering.{int_eq}
use Rattle.mix_system.specs.declared.literal.Term.TheVariants.{Var}
use Rattle.mix_system.specs.declared.literal.Lit.{Lit}
use Rattle.mix_system.specs.declared.row.Part.{Part}
use Rattle.mix_system.specs.Row.{number_at}
use Rattle.ir_meaning.specs.declared.value.Val.{Val}
use Rattle.ir_meaning.specs.Whole.{IsWidth}
use Rattle.ir_meaning.specs.Value.{on_number}
use Rattle.ir_meaning.specs.Rows.{abs_of}
use Rattle.wrap_rows.specs.declared.vars.ValueVars.{ValueVars}
use Rattle.wrap_rows.specs.Vars.{IsValue, is_marked, value_at}
use Rattle.wrap_rows.specs.Layout.{Layout, times, at_most, at_least}
use Rattle.wrap_rows.specs.Blocks.{marks, sign_row, sign_clauses, sign_of}
use Rattle.wrap_rows.specs.Select.{difference}
use Rattle.wrap_rows.specs.Piece.{mark_of}
use Rattle.div_rows.specs.declared.abs.Abs.{Abs}
use Rattle.div_rows.specs.Unless.{equals_unless}

-- the width is right, and the operand's variables stand before
pub record IsAt (abs : Abs) (first : ℕ) : Type 0 where
  pub width : IsWidth abs.width
  pub a : abs.a.number < first
  pub a_mark : abs.a.mark < first

abbrev pub vars : Abs → ℕ → ValueVars
vars abs first = record { number = first; mark = first + 1 }

-- ---- what it lays

-- number, mark, sign of the operand
abbrev pub ranges : Abs → List (ℤ × ℤ)
ranges abs = (pos 0, pos (2 ^ abs.width - 1)) ∷ (pos 0, pos 1) ∷ (pos 0, pos 1) ∷ []

abbrev pub total : ℕ → ℕ → List Part
total left right = times (pos 1) left ∷ times (pos 1) right ∷ []

-- the sign, the number less the operand, the number and the operand
abbrev pub rows_of : Abs → ℕ → List (List Part)
rows_of abs first =
    sign_row abs.width abs.a.number (first + 1 + 1)
    ∷ difference first abs.a.number
    ∷ total first abs.a.number
    ∷ []

-- the number is the operand, or with it makes 2^width
abbrev pub size_clauses : Abs → ℕ → List (List Lit)
size_clauses abs sign =
    equals_unless (at_least (Var sign) (pos 1)) 1 (pos 0)
    ++ equals_unless (at_most (Var sign) (pos 0)) 2 (pos (2 ^ abs.width))

-- the strict form bars a number that isn't below 2^(width - 1)
abbrev pub listed : Bool → Abs → ℕ → List Lit
listed strict abs first = if strict then at_least (Var first) (pos (2 ^ (abs.width - 1))) ∷ [] else []

abbrev pub value_clauses : Bool → Abs → ℕ → List (List Lit)
value_clauses strict abs first =
    size_clauses abs (first + 1 + 1) ++ marks (first + 1) (abs.a.mark ∷ []) (listed strict abs first)

abbrev pub layout_of : Bool → Abs → ℕ → Layout
layout_of strict abs first = record {
  rows = rows_of abs first;
  clauses = sign_clauses abs.width 0 ++ value_clauses strict abs first;
}

abbrev pub layout : Abs → ℕ → Layout
layout abs first = layout_of abs.strict abs first

-- ---- the numbers that are filled in

abbrev pub size : ℕ → ℤ → ℤ
size width a = if int_lt a (pos (2 ^ (width - 1))) then a else (pos (2 ^ width) -ℤ a)

-- the strict form bars the number whose signed reading is the least
abbrev pub is_barred : Abs → ℤ → Bool
is_barred abs a = abs.strict && int_eq a (pos (2 ^ (abs.width - 1)))

abbrev pub numbers : Abs → List ℤ → List ℤ
numbers abs point =
    size abs.width (number_at point abs.a.number)
    ∷ mark_of (is_marked abs.a point || is_barred abs (number_at point abs.a.number))
    ∷ sign_of abs.width (number_at point abs.a.number)
    ∷ []

-- ---- the meaning

abbrev pub CanTake : Abs → List ℤ → Type 0
CanTake abs point = IsValue abs.width abs.a point

abbrev pub meaning : Abs → List ℤ → Val
meaning abs point = on_number (abs_of abs.strict abs.width) (value_at abs.a point)
