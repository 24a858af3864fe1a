-- The piece of a phi: the value that stands for the edge by which its block was entered.
use Rattle.std.specs.Prelude.{◌≡◌, ℕ, ◌+◌, ◌-◌, ◌^◌, ◌<◌, ◌≤◌, Bool, if◌then◌else◌, ℤ, pos, List, [], ◌∷◌, ◌++◌, map, All}
use Rattle.std.specs.Ordering.{int_eq}
use Rattle.mix_system.specs.declared.literal.Term.TheVariants.{Var, Row}
use Rattle.mix_system.specs.declared.literal.Lit.{Lit}
use Rattle.mix_system.specs.declared.row.Part.{Part}
use Rattle.mix_system.specs.Row.{number_at}
use Rattle.ir_meaning.specs.declared.value.Val.{Val}
use Rattle.ir_meaning.specs.declared.value.Val.TheVariants.{Poison}
use Rattle.ir_meaning.specs.Whole.{IsWidth}
use Rattle.wrap_rows.specs.declared.vars.ValueVars.{ValueVars}
use Rattle.wrap_rows.specs.declared.phi.Incoming.{Incoming}
use Rattle.wrap_rows.specs.declared.phi.Phi.{Phi}
use Rattle.wrap_rows.specs.Vars.{IsValue, IsMark, value_at}
use Rattle.wrap_rows.specs.Layout.{Layout, at_most, at_least}
use Rattle.wrap_rows.specs.Select.{difference}

-- an edge's variable and the operand's variables stand before
pub record StandsBefore (first : ℕ) (incoming : Incoming) : Type 0 where
  pub edge : incoming.edge < first
  pub number : incoming.value.number < first
  pub mark : incoming.value.mark < first

pub record IsAt (phi : Phi) (first : ℕ) : Type 0 where
  pub width : IsWidth phi.width
  pub incoming : All (StandsBefore first) phi.incoming.items

abbrev pub vars : Phi → ℕ → ValueVars
vars phi first = record { number = first; mark = first + 1 }

abbrev pub ranges : Phi → List (ℤ × ℤ)
ranges phi = (pos 0, pos (2 ^ phi.width - 1)) ∷ (pos 0, pos 1) ∷ []

-- ---- for each edge, where it is 1, number and mark are those of its operand

abbrev pub row_for : ℕ → Incoming → List Part
row_for first incoming = difference first incoming.value.number

-- the row is the number's difference from the operand
abbrev pub clauses_for : (row mark : ℕ) → Incoming → List (List Lit)
clauses_for row mark incoming =
    (at_most (Var incoming.edge) (pos 0) ∷ at_most (Row row) (pos 0) ∷ [])
    ∷ (at_most (Var incoming.edge) (pos 0) ∷ at_least (Row row) (pos 0) ∷ [])
    ∷ (at_most (Var incoming.edge) (pos 0) ∷ at_least (Var mark) (pos 1) ∷ at_most (Var incoming.value.mark) (pos 0) ∷ [])
    ∷ (at_most (Var incoming.edge) (pos 0) ∷ at_most (Var mark) (pos 0) ∷ at_least (Var incoming.value.mark) (pos 1) ∷ [])
    ∷ []

-- the clauses of the edges from this row on
abbrev pub clauses_from : (row mark : ℕ) → List Incoming → List (List Lit)
clauses_from row mark [] = []
clauses_from row mark (incoming ∷ others) = clauses_for row mark incoming ++ clauses_from (row + 1) mark others

abbrev pub layout : Phi → ℕ → Layout
layout phi first = record {
  rows = map (row_for first) phi.incoming.items;
  clauses = clauses_from 0 (first + 1) phi.incoming.items;
}

-- ---- the edge that is 1

abbrev pub is_taken : List ℤ → Incoming → Bool
is_taken point incoming = int_eq (number_at point incoming.edge) (pos 1)

-- how many edges are 1
abbrev pub taken_count : List ℤ → List Incoming → ℕ
taken_count point [] = 0
taken_count point (incoming ∷ others) = (if is_taken point incoming then 1 else 0) + taken_count point others

-- the operand of the first edge that is 1
abbrev pub taken_number : List ℤ → List Incoming → ℤ
taken_number point [] = pos 0
taken_number point (incoming ∷ others) = if is_taken point incoming then number_at point incoming.value.number else (taken_number point others)

abbrev pub taken_mark : List ℤ → List Incoming → ℤ
taken_mark point [] = pos 0
taken_mark point (incoming ∷ others) = if is_taken point incoming then number_at point incoming.value.mark else (taken_mark point others)

abbrev pub taken_value : List ℤ → List Incoming → Val
taken_value point [] = Poison
taken_value point (incoming ∷ others) = if is_taken point incoming then value_at incoming.value point else (taken_value point others)

abbrev pub numbers : Phi → List ℤ → List ℤ
numbers phi point = taken_number point phi.incoming.items ∷ taken_mark point phi.incoming.items ∷ []

-- an edge's number is 0 or 1, and the operand is a value of the width
pub record IsIncoming (width : ℕ) (point : List ℤ) (incoming : Incoming) : Type 0 where
  pub edge : IsMark (number_at point incoming.edge)
  pub value : IsValue width incoming.value point

-- at most one edge is 1
pub record CanFill (phi : Phi) (point : List ℤ) : Type 0 where
  pub incoming : All (IsIncoming phi.width point) phi.incoming.items
  pub at_most_one : taken_count point phi.incoming.items ≤ 1

-- exactly one edge is 1
pub record CanSay (phi : Phi) (point : List ℤ) : Type 0 where
  pub incoming : All (IsIncoming phi.width point) phi.incoming.items
  pub exactly_one : taken_count point phi.incoming.items ≡ 1

abbrev pub meaning : Phi → List ℤ → Val
meaning phi point = taken_value point phi.incoming.items
