-- The piece of a parameter with a range: its own variable is the mark of an argument outside the range.
use Rattle.std.specs.Prelude.{ℕ, ◌^◌, ◌<◌, Bool, ◌||◌, ◌&&◌, nat_lt, if◌then◌else◌, ℤ, pos, ◌-ℤ◌, int_lt, int_le, unsigned_abs, List, [], ◌∷◌}
use Rattle.mix_system.specs.declared.literal.Term.TheVariants.{Var}
use Rattle.mix_system.specs.declared.literal.Lit.{Lit}
use Rattle.mix_system.specs.Row.{number_at}
use Rattle.ir_meaning.specs.declared.value.Val.{Val}
use Rattle.ir_meaning.specs.Whole.{IsWidth}
use Rattle.ir_meaning.specs.Value.{poison_if}
use Rattle.wrap_rows.specs.declared.vars.ValueVars.{ValueVars}
use Rattle.wrap_rows.specs.declared.ranged.Ranged.{Ranged}
use Rattle.wrap_rows.specs.Vars.{IsNumber}
use Rattle.wrap_rows.specs.Layout.{Layout, at_most, at_least}
use Rattle.wrap_rows.specs.Piece.{mark_of}

-- the width is right, the bounds are numbers of it, and the argument stands before
pub record IsAt (ranged : Ranged) (first : ℕ) : Type 0 where
  pub width : IsWidth ranged.width
  pub low : ranged.low < 2 ^ ranged.width
  pub high : ranged.high < 2 ^ ranged.width
  pub number : ranged.number < first

abbrev pub vars : Ranged → ℕ → ValueVars
vars ranged first = record { number = ranged.number; mark = first }

abbrev pub ranges : Ranged → List (ℤ × ℤ)
ranges ranged = (pos 0, pos 1) ∷ []

-- from the low bound up to the high one
abbrev pub between_clauses : (number low high mark : ℕ) → List (List Lit)
between_clauses number low high mark =
    (at_most (Var mark) (pos 0) ∷ at_most (Var number) (pos low -ℤ pos 1) ∷ at_least (Var number) (pos high) ∷ [])
    ∷ (at_least (Var mark) (pos 1) ∷ at_least (Var number) (pos low) ∷ [])
    ∷ (at_least (Var mark) (pos 1) ∷ at_most (Var number) (pos high -ℤ pos 1) ∷ [])
    ∷ []

-- from the low bound on, and below the high one
abbrev pub around_clauses : (number low high mark : ℕ) → List (List Lit)
around_clauses number low high mark =
    (at_least (Var mark) (pos 1) ∷ at_least (Var number) (pos low) ∷ at_most (Var number) (pos high -ℤ pos 1) ∷ [])
    ∷ (at_most (Var mark) (pos 0) ∷ at_most (Var number) (pos low -ℤ pos 1) ∷ [])
    ∷ (at_most (Var mark) (pos 0) ∷ at_least (Var number) (pos high) ∷ [])
    ∷ []

abbrev pub clauses : Ranged → ℕ → List (List Lit)
clauses ranged mark =
    if nat_lt ranged.low ranged.high then between_clauses ranged.number ranged.low ranged.high mark
    else (around_clauses ranged.number ranged.low ranged.high mark)

abbrev pub layout : Ranged → ℕ → Layout
layout ranged first = record { rows = []; clauses = clauses ranged first }

-- whether a number isn't in the range: where the low bound is the greater, the numbers between the bounds are outside
abbrev pub is_outside : Ranged → ℤ → Bool
is_outside ranged number =
    if nat_lt ranged.low ranged.high then int_lt number (pos ranged.low) || int_le (pos ranged.high) number
    else (int_lt number (pos ranged.low) && int_le (pos ranged.high) number)

abbrev pub numbers : Ranged → List ℤ → List ℤ
numbers ranged point = mark_of (is_outside ranged (number_at point ranged.number)) ∷ []

abbrev pub CanTake : Ranged → List ℤ → Type 0
CanTake ranged point = IsNumber ranged.width (number_at point ranged.number)

-- the argument, or poison where it is outside
abbrev pub meaning : Ranged → List ℤ → Val
meaning ranged point = poison_if (is_outside ranged (number_at point ranged.number)) (unsigned_abs (number_at point ranged.number))
