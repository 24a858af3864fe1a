-- What each answer of a check says.
use Rattle.std.specs.Prelude.{◌≡◌, ℕ, ℤ, Bool, true, false, List}
use Rattle.mix_system.specs.Tally.{pivot_bound}
use Rattle.mix_system.specs.declared.literal.Term.{Term}
use Rattle.tableau_rows.specs.declared.equation.Equation.{Equation}
use Rattle.bounded_simplex.specs.Event.{IsFault, IsEventOn, IsOfBounded}
use Rattle.bounded_simplex.specs.InForce.{BoundChanges}
use Rattle.bounded_simplex.specs.Point.{IsPoint, IsBeyond}
use Rattle.bounded_simplex.specs.Combination.{IsRefutation}
use Rattle.bounded_simplex.specs.declared.check.Check.{Check}
use Rattle.bounded_simplex.specs.declared.check.Check.TheVariants.{Point, Refuted, Paused, Spent, Excess}
use Rattle.bounded_simplex.specs.declared.mended.Mended.{Mended}
use Rattle.bounded_simplex.specs.declared.mended.Mended.TheVariants.{Point as NoneBroken, Refuted as AddsUp, Paused as AllMade, Excess as Leaves}

-- all pivots were made that one check may make, and a basic term is still outside its bounds
abbrev pub HasPaused : BoundChanges → List Equation → List ℤ → (made : ℕ) → Type 0
HasPaused bounds rows values made = (made ≡ pivot_bound bounds.system) × IsBeyond bounds rows values

-- what pivots come to
abbrev pub Mends : BoundChanges → List Equation → List ℤ → (made : ℕ) → Mended → Type 0
Mends bounds rows values made NoneBroken = IsPoint bounds rows values
Mends bounds rows values made (AddsUp farkas) = IsRefutation bounds farkas.parts
Mends bounds rows values made AllMade = HasPaused bounds rows values made
Mends bounds rows values made (Leaves fault) = IsFault bounds rows values fault × IsOfBounded bounds fault.place

-- Point: the kept point lies inside all bounds in force. Refuted: bounds in force refute the box. Paused: `HasPaused`.
-- Excess: the tableau of the basis forms two numbers that leave 128 bits, but not for the value of a term without bounds.
abbrev pub Answers : BoundChanges → List Equation → List ℤ → (made : ℕ) → List Term → List ℤ → Check → Type 0
Answers bounds rows values made basis rest Point = IsPoint bounds rows values
Answers bounds rows values made basis rest (Refuted farkas) = IsRefutation bounds farkas.parts
Answers bounds rows values made basis rest Paused = HasPaused bounds rows values made
Answers bounds rows values made basis rest Spent = Unit {0}
Answers bounds rows values made basis rest (Excess excess) = IsEventOn bounds basis rest excess × IsOfBounded bounds excess.place

abbrev pub IsSpent : Check → Type 0
IsSpent Spent = Unit {0}
IsSpent _ = ⊥

abbrev pub is_point : Check → Bool
is_point Point = true
is_point _ = false
