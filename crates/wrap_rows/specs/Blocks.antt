-- The building blocks that pieces share: clauses and rows over given variables. A clause of a block names rows by the number that it is given.
use Rattle.std.specs.Prelude.{◌≡◌, ℕ, ◌-◌, ◌^◌, if◌then◌else◌, ℤ, pos, negsuc, neg_ℤ, ◌<ℤ◌, ◌≤ℤ◌, int_lt, List, [], ◌∷◌, ◌++◌, map}
use Rattle.mix_system.specs.declared.literal.Term.TheVariants.{Var, Row}
use Rattle.mix_system.specs.declared.literal.Lit.{Lit}
use Rattle.mix_system.specs.declared.row.Part.{Part}
use Rattle.mix_system.specs.Lit.{negation}
use Rattle.ll_tree.specs.declared.op.Pred.{Pred}
use Rattle.ll_tree.specs.declared.op.Pred.TheVariants.{Eq, Ne, Ugt, Uge, Ult, Ule, Sgt, Sge, Slt, Sle}
use Rattle.wrap_rows.specs.Layout.{times, at_most, at_least}

-- ---- a row's sum is a number

abbrev pub equals : ℕ → ℤ → List (List Lit)
equals row number = (at_most (Row row) number ∷ []) ∷ (at_least (Row row) number ∷ []) ∷ []

-- ---- marks: a value is poison where an operand is, or where one of the listed literals is true

-- a value's mark is 1 where an operand's is
abbrev pub from_operand : ℕ → ℕ → List Lit
from_operand mark operand = at_least (Var mark) (pos 1) ∷ at_most (Var operand) (pos 0) ∷ []

-- and where the listed literal is true
abbrev pub from_listed : ℕ → Lit → List Lit
from_listed mark lit = at_least (Var mark) (pos 1) ∷ negation lit ∷ []

-- and nowhere else
abbrev pub closing : ℕ → List ℕ → List Lit → List Lit
closing mark operands listed = at_most (Var mark) (pos 0) ∷ (map (λ operand. at_least (Var operand) (pos 1)) operands ++ listed)

abbrev pub marks : ℕ → List ℕ → List Lit → List (List Lit)
marks mark operands listed = map (from_operand mark) operands ++ (map (from_listed mark) listed ++ closing mark operands listed ∷ [])

-- ---- the sign of an operand: 1 where its signed reading is negative

abbrev pub sign_of : ℕ → ℤ → ℤ
sign_of width number = if int_lt number (pos (2 ^ (width - 1))) then pos 0 else (pos 1)

-- the operand less 2^(width - 1) times the sign lies in 0 .. 2^(width - 1) - 1
abbrev pub sign_row : ℕ → ℕ → ℕ → List Part
sign_row width number sign = times (pos 1) number ∷ times (neg_ℤ (pos (2 ^ (width - 1)))) sign ∷ []

abbrev pub sign_clauses : ℕ → ℕ → List (List Lit)
sign_clauses width row = (at_least (Row row) (pos 0) ∷ []) ∷ (at_most (Row row) (pos (2 ^ (width - 1) - 1)) ∷ []) ∷ []

-- ---- comparisons: a number is 1 where the row, the difference of two operands, stands to 0 as the predicate says

abbrev pub less : ℕ → ℕ → List (List Lit)
less x row = (at_most (Var x) (pos 0) ∷ at_most (Row row) (negsuc 0) ∷ []) ∷ (at_least (Var x) (pos 1) ∷ at_least (Row row) (pos 0) ∷ []) ∷ []

abbrev pub less_or_equal : ℕ → ℕ → List (List Lit)
less_or_equal x row = (at_most (Var x) (pos 0) ∷ at_most (Row row) (pos 0) ∷ []) ∷ (at_least (Var x) (pos 1) ∷ at_least (Row row) (pos 1) ∷ []) ∷ []

abbrev pub greater : ℕ → ℕ → List (List Lit)
greater x row = (at_most (Var x) (pos 0) ∷ at_least (Row row) (pos 1) ∷ []) ∷ (at_least (Var x) (pos 1) ∷ at_most (Row row) (pos 0) ∷ []) ∷ []

abbrev pub greater_or_equal : ℕ → ℕ → List (List Lit)
greater_or_equal x row = (at_most (Var x) (pos 0) ∷ at_least (Row row) (pos 0) ∷ []) ∷ (at_least (Var x) (pos 1) ∷ at_most (Row row) (negsuc 0) ∷ []) ∷ []

abbrev pub compared : Pred → ℕ → ℕ → List (List Lit)
compared Eq x row = (at_most (Var x) (pos 0) ∷ at_most (Row row) (pos 0) ∷ []) ∷ (at_most (Var x) (pos 0) ∷ at_least (Row row) (pos 0) ∷ []) ∷ (at_least (Var x) (pos 1) ∷ at_most (Row row) (negsuc 0) ∷ at_least (Row row) (pos 1) ∷ []) ∷ []
compared Ne x row = (at_least (Var x) (pos 1) ∷ at_most (Row row) (pos 0) ∷ []) ∷ (at_least (Var x) (pos 1) ∷ at_least (Row row) (pos 0) ∷ []) ∷ (at_most (Var x) (pos 0) ∷ at_most (Row row) (negsuc 0) ∷ at_least (Row row) (pos 1) ∷ []) ∷ []
compared Ult x row = less x row
compared Slt x row = less x row
compared Ule x row = less_or_equal x row
compared Sle x row = less_or_equal x row
compared Ugt x row = greater x row
compared Sgt x row = greater x row
compared Uge x row = greater_or_equal x row
compared Sge x row = greater_or_equal x row

-- how the difference stands to 0 where the predicate holds
abbrev pub StandsSo : Pred → ℤ → Type 0
StandsSo Eq difference = difference ≡ pos 0
StandsSo Ne difference = ¬ (difference ≡ pos 0)
StandsSo Ult difference = difference <ℤ pos 0
StandsSo Slt difference = difference <ℤ pos 0
StandsSo Ule difference = difference ≤ℤ pos 0
StandsSo Sle difference = difference ≤ℤ pos 0
StandsSo Ugt difference = pos 0 <ℤ difference
StandsSo Sgt difference = pos 0 <ℤ difference
StandsSo Uge difference = pos 0 ≤ℤ difference
StandsSo Sge difference = pos 0 ≤ℤ difference
