-- What one turn of the solver comes to.
use Rattle.std.specs.Prelude.{◌≡◌, ◌+◌, ◌<◌, length, All, Option, Some, None}
use Rattle.mix_system.specs.declared.literal.Lit.{Lit}
use Rattle.mix_system.specs.declared.tally.Tally.{Tally}
use Rattle.mix_system.specs.System.{IsInner, Exists}
use Rattle.mix_system.specs.Tally.{units}
use Rattle.bound_trail.specs.Trail.{box, IsOpen}
use Rattle.clause_search.specs.Settled.{HasTrue, IsSettled}
use Rattle.level_steps.specs.Level.{Meets}
use Rattle.level_steps.specs.Steps.{HaveEnded}
use Rattle.level_steps.specs.Plain.{IsNamed}
use Rattle.level_search.specs.Kept.{level_of, IsKept}
use Rattle.level_search.specs.declared.learning.Learning.{Learning}
use Rattle.level_search.specs.declared.learning.Learning.TheVariants.{Going as GoesOnSearching, Ended, Spent as WasSpent}
use Rattle.mixed_solver.specs.declared.mixed.Mixed.{Mixed}
use Rattle.mixed_solver.specs.declared.solving.Turn.{Turn}
use Rattle.mixed_solver.specs.declared.solving.Turn.TheVariants.{Going, Found, Impossible, Spent}
use Rattle.mixed_solver.specs.Mixed.{IsMixed}

-- a literal that may be decided; or every clause of the system has a true literal
pub record MayDecide (it : Mixed) (lit : Lit) : Type 0 where
  pub known : Exists (length it.level.system.now.ranges) (length it.level.system.now.rows) lit.term
  pub named : IsNamed it.level.system.now lit
  pub inner : IsInner lit.bound
  pub open_ : IsOpen (box it.level.search.trail) lit

abbrev pub Chooses : Mixed → Option Lit → Type 0
Chooses it (Some lit) = MayDecide it lit
Chooses it None = All (HasTrue (box it.level.search.trail)) it.level.system.now.clauses

-- every clause of the store asks for nothing
abbrev pub IsQuiet : Mixed → Type 0
IsQuiet it = All (IsSettled (box it.level.search.trail)) it.level.search.store

-- all literals of the trail are among the bounds of the simplex
abbrev pub AreAllPut : Mixed → Type 0
AreAllPut it = it.bounds.ground + it.bounds.put ≡ length it.level.search.trail.lits

-- bounds that were refuted are a step; with the empty clause the steps have ended
abbrev pub Comes : Turn → Mixed → Type 0
Comes Going new = IsMixed new
Comes Impossible new = HaveEnded new.level.steps.items × IsKept new.level
Comes (Found point) new = ⊥
Comes Spent new = ⊥

-- what a turn leaves
abbrev pub Leaves : Turn → Mixed → Tally → Type 0
Leaves Going new after = IsMixed new
Leaves (Found point) new after = Meets (level_of new.level) point × IsMixed new
Leaves Impossible new after = HaveEnded new.level.steps.items × IsKept new.level
Leaves Spent new after = (units after ≡ after.budget) × IsMixed new

-- a turn that goes on has counted a unit
abbrev pub Turns : Turn → Mixed → Tally → Tally → Type 0
Turns Going new before after = IsMixed new × (units before < units after)
Turns (Found point) new before after = Meets (level_of new.level) point × IsMixed new
Turns Impossible new before after = HaveEnded new.level.steps.items × IsKept new.level
Turns Spent new before after = (units after ≡ after.budget) × IsMixed new

abbrev pub turned : Learning → Turn
turned GoesOnSearching = Going
turned Ended = Impossible
turned WasSpent = Spent
