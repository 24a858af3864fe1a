-- What the bounds in force say. A box is a list of literals, each a bound in force.
use Rattle.std.specs.Prelude.{◌≡◌, ℕ, ◌+◌, ℤ, List, [], ◌∷◌, Option, Some, None, filter_map, All, Any}
use Rattle.mix_system.specs.declared.literal.Term.TheVariants.{Var}
use Rattle.mix_system.specs.declared.literal.Side.{Side}
use Rattle.mix_system.specs.declared.literal.Side.TheVariants.{Le, Ge}
use Rattle.mix_system.specs.declared.literal.Lit.{Lit}
use Rattle.mix_system.specs.declared.row.Part.{Part}
use Rattle.mix_system.specs.Lit.{IsWithin, negation}
use Rattle.mix_system.specs.Fits.{IsTrueAt}

-- the bound says at least what the literal says: `t <= d` does for each `t <= c` with d at most c, `t >= d` for each `t >= c` with d at least c
pub record Entails (bound lit : Lit) : Type 0 where
  pub same_term : bound.term ≡ lit.term
  pub same_side : bound.side ≡ lit.side
  pub as_strong : IsWithin lit.side lit.bound bound.bound

-- the literal is in the box: some bound in force says at least what it says
abbrev pub IsIn : List Lit → Lit → Type 0
IsIn box lit = Any (λ bound. Entails bound lit) box

-- the literal is false by the bounds in force: `t <= c` where the lower bound on t is above c, `t >= c` where the upper bound is below c
abbrev pub IsFalseIn : List Lit → Lit → Type 0
IsFalseIn box lit = IsIn box (negation lit)

-- the bound that a variable's range gives from below, and from above
abbrev pub low_bound : ℕ → ℤ × ℤ → Lit
low_bound var range = record { term = Var var; side = Ge; bound = range.0 }

abbrev pub high_bound : ℕ → ℤ × ℤ → Lit
high_bound var range = record { term = Var var; side = Le; bound = range.1 }

-- the two bounds of each range, where the first variable has this number
abbrev pub range_bounds_from : ℕ → List (ℤ × ℤ) → List Lit
range_bounds_from var [] = []
range_bounds_from var (range ∷ ranges) = low_bound var range ∷ high_bound var range ∷ range_bounds_from (var + 1) ranges

-- the two bounds of each variable's range
abbrev pub range_bounds : List (ℤ × ℤ) → List Lit
range_bounds ranges = range_bounds_from 0 ranges

-- the end of a range that bounds it on a side
abbrev pub range_end : Side → ℤ × ℤ → ℤ
range_end Le range = range.1
range_end Ge range = range.0

-- the literal of a clause that has no other
abbrev pub only_literal : List Lit → Option Lit
only_literal [] = None
only_literal (lit ∷ []) = Some lit
only_literal (lit ∷ other ∷ lits) = None

-- the literals of the clauses that have one literal, in their order
abbrev pub unit_bounds : List (List Lit) → List Lit
unit_bounds clauses = filter_map only_literal clauses

-- each bound of the box is true at a point
abbrev pub AreTrueAt : List (List Part) → List ℤ → List Lit → Type 0
AreTrueAt rows point box = All (IsTrueAt rows point) box
