-- What more bounds say that were put in force.
use Rattle.std.specs.Prelude.{ℕ, ℤ, List, [], ◌∷◌, ◌++◌, length}
use Rattle.mix_system.specs.declared.literal.Term.{Term}
use Rattle.mix_system.specs.declared.literal.Lit.{Lit}
use Rattle.mix_system.specs.System.{System}
use Rattle.mix_system.specs.Bounds.{low_bound, high_bound}
use Rattle.proof_term.specs.declared.proof.Goal.{Goal}
use Rattle.proof_term.specs.Levels.{goal_bounds}
use Rattle.box_check.specs.declared.bounds.Bounds.{Bounds}
use Rattle.box_check.specs.Bounds.{IsOver, AreUpTo, Extends, Stands, StandsEverywhere, opened}

-- the two bounds of a variable's range
abbrev pub both_bounds : ℕ → ℤ × ℤ → List Lit
both_bounds var range = low_bound var range ∷ high_bound var range ∷ []

-- the bounds are those of a system, and none is kept of a level within the one in work
pub record AreFor (system : System) (bounds : Bounds) : Type 0 where
  pub over : IsOver (length system.ranges) (length system.rows) bounds
  pub up_to : AreUpTo bounds

-- the literals were put in force, and can be taken back: the bounds then stand for a box with them, as some word says it
pub record AddsTo (StandFor : Bounds → List Lit → Type 0) (lits : List Lit) (old new : Bounds) : Type 0 where
  pub extends : Extends old new
  pub stands : (box : List Lit) → StandFor old box → StandFor new (lits ++ box)

abbrev pub Adds : List Lit → Bounds → Bounds → Type 0
Adds lits old new = AddsTo Stands lits old new

-- the same of the bounds of all levels
abbrev pub AddsEverywhere : List Lit → Bounds → Bounds → Type 0
AddsEverywhere lits old new = AddsTo StandsEverywhere lits old new

-- a level with that goal was opened within: in force are its goal and the bounds of all levels
pub record Begins (cost : Term) (goal : Goal) (old new : Bounds) : Type 0 where
  pub extends : Extends (opened old) new
  pub up_to : AreUpTo new
  pub stands : (box : List Lit) → StandsEverywhere old box → Stands new (goal_bounds cost goal ++ box)
  pub everywhere : (box : List Lit) → StandsEverywhere old box → StandsEverywhere new box
