-- The piece of a choice by a condition.
use Rattle.std.specs.Prelude.{ℕ, ◌+◌, ◌-◌, ◌^◌, ◌<◌, Bool, ◌||◌, if◌then◌else◌, ℤ, pos, neg_ℤ, List, [], ◌∷◌, ◌++◌}
use Rattle.std.specs.Ordering.{int_eq}
use Rattle.mix_system.specs.declared.literal.Term.TheVariants.{Var, Row}
use Rattle.mix_system.specs.declared.literal.Lit.{Lit}
use Rattle.mix_system.specs.declared.row.Part.{Part}
use Rattle.mix_system.specs.Row.{number_at}
use Rattle.ir_meaning.specs.declared.value.Val.{Val}
use Rattle.ir_meaning.specs.Whole.{IsWidth}
use Rattle.ir_meaning.specs.Value.{select_of}
use Rattle.wrap_rows.specs.declared.vars.ValueVars.{ValueVars}
use Rattle.wrap_rows.specs.declared.select.Select.{Select}
use Rattle.wrap_rows.specs.Vars.{IsValue, is_marked, value_at}
use Rattle.wrap_rows.specs.Layout.{Layout, times, at_most, at_least}
use Rattle.wrap_rows.specs.Piece.{mark_of}

-- the width is right, and the operands' variables stand before
pub record IsAt (select : Select) (first : ℕ) : Type 0 where
  pub width : IsWidth select.width
  pub cond : select.cond.number < first
  pub cond_mark : select.cond.mark < first
  pub yes : select.yes.number < first
  pub yes_mark : select.yes.mark < first
  pub no : select.no.number < first
  pub no_mark : select.no.mark < first

abbrev pub vars : Select → ℕ → ValueVars
vars select first = record { number = first; mark = first + 1 }

abbrev pub ranges : Select → List (ℤ × ℤ)
ranges select = (pos 0, pos (2 ^ select.width - 1)) ∷ (pos 0, pos 1) ∷ []

-- a difference of two variables
abbrev pub difference : ℕ → ℕ → List Part
difference left right = times (pos 1) left ∷ times (neg_ℤ (pos 1)) right ∷ []

-- the number is that of the arm
abbrev pub arm_clauses : Select → List (List Lit)
arm_clauses select =
    (at_most (Var select.cond.number) (pos 0) ∷ at_most (Row 0) (pos 0) ∷ [])
    ∷ (at_most (Var select.cond.number) (pos 0) ∷ at_least (Row 0) (pos 0) ∷ [])
    ∷ (at_least (Var select.cond.number) (pos 1) ∷ at_most (Row 1) (pos 0) ∷ [])
    ∷ (at_least (Var select.cond.number) (pos 1) ∷ at_least (Row 1) (pos 0) ∷ [])
    ∷ []

-- the mark is 1 where that of the condition is, or of the arm
abbrev pub raising_clauses : Select → ℕ → List (List Lit)
raising_clauses select mark =
    (at_least (Var mark) (pos 1) ∷ at_most (Var select.cond.mark) (pos 0) ∷ [])
    ∷ (at_most (Var select.cond.number) (pos 0) ∷ at_least (Var mark) (pos 1) ∷ at_most (Var select.yes.mark) (pos 0) ∷ [])
    ∷ (at_least (Var select.cond.number) (pos 1) ∷ at_least (Var mark) (pos 1) ∷ at_most (Var select.no.mark) (pos 0) ∷ [])
    ∷ []

-- and nowhere else
abbrev pub closing_clauses : Select → ℕ → List (List Lit)
closing_clauses select mark =
    (at_most (Var mark) (pos 0) ∷ at_least (Var select.cond.mark) (pos 1) ∷ at_most (Var select.cond.number) (pos 0) ∷ at_least (Var select.yes.mark) (pos 1) ∷ [])
    ∷ (at_most (Var mark) (pos 0) ∷ at_least (Var select.cond.mark) (pos 1) ∷ at_least (Var select.cond.number) (pos 1) ∷ at_least (Var select.no.mark) (pos 1) ∷ [])
    ∷ []

abbrev pub layout : Select → ℕ → Layout
layout select first = record {
  rows = difference first select.yes.number ∷ difference first select.no.number ∷ [];
  clauses = arm_clauses select ++ (raising_clauses select (first + 1) ++ closing_clauses select (first + 1));
}

abbrev pub is_first : Select → List ℤ → Bool
is_first select point = int_eq (number_at point select.cond.number) (pos 1)

abbrev pub is_poison : Select → List ℤ → Bool
is_poison select point = is_marked select.cond point || (if is_first select point then is_marked select.yes point else (is_marked select.no point))

abbrev pub numbers : Select → List ℤ → List ℤ
numbers select point =
    (if is_first select point then number_at point select.yes.number else (number_at point select.no.number))
    ∷ mark_of (is_poison select point)
    ∷ []

pub record CanTake (select : Select) (point : List ℤ) : Type 0 where
  pub cond : IsValue 1 select.cond point
  pub yes : IsValue select.width select.yes point
  pub no : IsValue select.width select.no point

abbrev pub meaning : Select → List ℤ → Val
meaning select point = select_of (value_at select.cond point) (value_at select.yes point) (value_at select.no point)
