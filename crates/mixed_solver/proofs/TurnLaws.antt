-- What turns of the solver come to.
use Rattle.mixed_solver.proofs.StoredLaws.{stored_step}
use Rattle.std.proofs.Common.{◌≡◌, ℕ, ◌<◌, ◌≤◌, List, length, refl, sym, ◌∙◌, ap, subst, arith}
use Rattle.mix_system.specs.declared.literal.Lit.{Lit}
use Rattle.mix_system.specs.declared.tally.Tally.{Tally}
use Rattle.mix_system.specs.System.{System}
use Rattle.mix_system.specs.Tally.{units}
use Rattle.bound_trail.specs.Trail.{Trail, level_end}
use Rattle.bounded_simplex.specs.declared.simplex.Simplex.{Simplex}
use Rattle.bounded_simplex.specs.InForce.{BoundChanges}
use Rattle.level_steps.specs.Steps.{AreOpen}
use Rattle.level_search.specs.declared.level.LevelSearch.{LevelSearch}
use Rattle.level_search.specs.declared.learning.Learning.{Learning}
use Rattle.level_search.specs.declared.learning.Learning.TheVariants.{Going, Ended, Spent}
use Rattle.level_search.specs.Kept.{level_of, IsKept, IsWorking, GoalStands}
use Rattle.level_search.specs.Learning.{trail_at, Concludes, CountsConflict}
use Rattle.level_theories.specs.Goal.{Settles}
use Rattle.level_theories.specs.Theory.{Refutes}
use Rattle.trail_bounds.specs.declared.bounds.TrailBounds.{TrailBounds}
use Rattle.trail_bounds.specs.TrailBounds.{AreBoundsOf}
use Rattle.mixed_solver.specs.declared.mixed.Mixed.{Mixed}
use Rattle.mixed_solver.specs.declared.solving.Turn.{Turn}
use Rattle.mixed_solver.specs.declared.solving.Turn.TheVariants.{Going as IsGoing, Found, Impossible, Spent as IsSpent}
use Rattle.mixed_solver.specs.Mixed.{IsStored, IsMixed}
use Rattle.mixed_solver.specs.Turns.{Comes, Leaves, Turns, turned}
use Rattle.mixed_solver.proofs.MixedLaws.{Stays, mixed_back}

-- a simplex of the same bounds
pub same_bounds : (system : System) (lits : List Lit) (it : TrailBounds) (simplex : Simplex) → simplex.bounds ≡ it.simplex.bounds → AreBoundsOf system lits it → AreBoundsOf system lits (record it { simplex = simplex })
same_bounds system lits it simplex same are = record {
  over = ap (λ (b : BoundChanges). b.system) same ∙ are.over;
  same = are.same;
  depth = are.depth;
  within = are.within;
  front = are.front;
  base = are.base;
  few = are.few;
  changes = ap (λ (b : BoundChanges). b.changes) same ∙ are.changes;
  among = are.among;
  says = are.says;
}

pub mixed_simplex : (it : Mixed) (simplex : Simplex) → IsMixed it → simplex.bounds ≡ it.bounds.simplex.bounds → IsMixed (record it { bounds = record it.bounds { simplex = simplex } })
mixed_simplex it simplex mixed same = record {
  working = mixed.working;
  stored = mixed.stored;
  calm = mixed.calm;
  bounds = same_bounds it.level.system.now it.level.search.trail.lits it.bounds simplex same mixed.bounds;
  ground = mixed.ground;
}

-- at level 0 the search may go on
pub working_at_ground : (it : LevelSearch) (new : LevelSearch) → IsWorking it → IsKept new → new.steps.items ≡ it.steps.items → new.search.trail ≡ trail_at it.search.trail 0 → IsWorking new
working_at_ground it new working kept steps trail = record {
  kept = kept;
  quiet = λ level below. absurd (omega (arith, below, ap (λ (t : Trail). length t.levels) trail));
  open_ = subst AreOpen (sym steps) working.open_;
}

pub learnt_turns : (it : Mixed) (new : LevelSearch) (bounds : TrailBounds) (learning : Learning) (before after : Tally) → IsMixed it → Stays it new → Concludes learning it.level new
    → CountsConflict learning before after → AreBoundsOf new.system.now new.search.trail.lits bounds → bounds.ground ≡ it.bounds.ground
    → Turns (turned learning) (record { level = new; bounds = bounds }) before after
learnt_turns it new bounds Going before after mixed stays is counts are ground = (
  mixed_back it mixed new stays bounds are ground is.working (stored_step it.level new is.step _ is.level is.steps is.search mixed.stored),
  omega (arith, counts.decisions, counts.propagations, counts.conflicts, counts.splits, counts.checks),
)
learnt_turns it new bounds Ended before after mixed stays is counts are ground = (is.ended, is.kept)
learnt_turns it new bounds Spent before after mixed stays is counts are ground = (
  subst (λ (t : Tally). units t ≡ t.budget) (sym counts.1) counts.0,
  mixed_back it mixed new stays bounds are ground (subst IsWorking (sym is) mixed.working) (subst IsStored (sym is) mixed.stored),
)

pub learnt_budget : (learning : Learning) (before after : Tally) → CountsConflict learning before after → after.budget ≡ before.budget
learnt_budget Going before after counts = counts.budget
learnt_budget Ended before after counts = counts.budget
learnt_budget Spent before after counts = ap (λ (t : Tally). t.budget) counts.1

pub refuted_comes : (it : Mixed) (new : LevelSearch) (bounds : TrailBounds) (learning : Learning) → IsMixed it → Stays it new → Refutes learning it.level new
    → AreBoundsOf new.system.now new.search.trail.lits bounds → bounds.ground ≡ it.bounds.ground → Comes (turned learning) (record { level = new; bounds = bounds })
refuted_comes it new bounds Going mixed stays is are ground = mixed_back it mixed new stays bounds are ground is.working (stored_step it.level new is.step _ is.level is.steps is.search mixed.stored)
refuted_comes it new bounds Ended mixed stays is are ground = (is.ended, is.kept)
refuted_comes it new bounds Spent mixed stays is are ground = absurd is

-- what was learnt and refuted is left
pub comes_leaves : (turn : Turn) (new : Mixed) (after : Tally) → Comes turn new → Leaves turn new after
comes_leaves IsGoing new after is = is
comes_leaves (Found point) new after is = absurd is
comes_leaves Impossible new after is = is
comes_leaves IsSpent new after is = absurd is

-- a turn, where a unit was counted
pub leaves_turns : (turn : Turn) (new : Mixed) (before after : Tally) → units before < units after → Leaves turn new after → Turns turn new before after
leaves_turns IsGoing new before after counted is = (is, counted)
leaves_turns (Found point) new before after counted is = is
leaves_turns Impossible new before after counted is = is
leaves_turns IsSpent new before after counted is = is

-- refuted bounds make a turn, where a unit was counted for them
pub comes_turns : (turn : Turn) (new : Mixed) (before after : Tally) → Comes turn new → units before < units after → Turns turn new before after
comes_turns IsGoing new before after is counted = (is, counted)
comes_turns (Found point) new before after is counted = absurd is
comes_turns Impossible new before after is counted = is
comes_turns IsSpent new before after is counted = absurd is

-- units that were counted before
pub turns_before : (turn : Turn) (new : Mixed) (before mid after : Tally) → units before ≤ units mid → Turns turn new mid after → Turns turn new before after
turns_before IsGoing new before mid after more is = (is.0, omega (arith, more, is.1))
turns_before (Found point) new before mid after more is = is
turns_before Impossible new before mid after more is = is
turns_before IsSpent new before mid after more is = is

-- the literals of the trail were handed to the simplex
pub mixed_handed : (it : Mixed) (bounds : TrailBounds) (trail : List Lit) (ground : ℕ) → IsMixed it → trail ≡ it.level.search.trail.lits → AreBoundsOf it.bounds.system.now trail bounds → bounds.ground ≡ ground
    → ground ≡ level_end it.level.search.trail 0 → IsMixed (record it { bounds = bounds })
mixed_handed it bounds trail ground mixed is are count end = record {
  working = mixed.working;
  stored = mixed.stored;
  calm = mixed.calm;
  bounds = subst (λ (s : System). AreBoundsOf s it.level.search.trail.lits bounds) mixed.bounds.same (subst (λ (xs : List Lit). AreBoundsOf it.bounds.system.now xs bounds) is are);
  ground = omega (arith, count, end);
}

-- a goal that wasn't refuted left the level as it was
pub goal_settled : (learning : Learning) (old new : LevelSearch) → Settles learning old new → (learning ≡ Ended → ⊥) → (new ≡ old) × GoalStands (level_of new) new.steps.items
goal_settled Going old new settles open_ = settles
goal_settled Ended old new settles open_ = absurd (open_ refl)
goal_settled Spent old new settles open_ = absurd settles
