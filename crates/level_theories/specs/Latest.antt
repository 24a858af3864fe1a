-- The two greatest of the levels at which literals became false.
use Rattle.std.specs.Prelude.{ℕ, ◌<◌, ◌≤◌, List, length}
use Rattle.std.specs.List.{HoldsAt}
use Rattle.mix_system.specs.declared.literal.Lit.{Lit}
use Rattle.mix_system.specs.Bounds.{IsFalseIn}
use Rattle.bound_trail.specs.Trail.{Trail, box_at}
use Rattle.clause_search.specs.Settled.{IsLeftAt, LeavesTwo}
use Rattle.level_theories.specs.declared.latest.Latest.{Latest}

-- some of the first literals isn't false at the end of a level
pub record LeavesOneOf (bounds lits : List Lit) (count : ℕ) : Type 0 where
  pub at : ℕ
  pub below : at < count
  pub left : IsLeftAt bounds lits at

-- two of them aren't
pub record LeavesTwoOf (bounds lits : List Lit) (count : ℕ) : Type 0 where
  pub two : LeavesTwo bounds lits
  pub below : two.second < count

-- of the first so many literals one isn't false at the end of each level below the first, and two at the end of each below the second;
-- all are false from the first on, and all but one from the second on
pub record AreLatest (trail : Trail) (lits : List Lit) (count : ℕ) (latest : Latest) : Type 0 where
  pub ordered : latest.second ≤ latest.first
  pub present : latest.first ≤ length trail.levels
  pub one : (lower : ℕ) → lower < latest.first → LeavesOneOf (box_at trail lower) lits count
  pub two : (lower : ℕ) → lower < latest.second → LeavesTwoOf (box_at trail lower) lits count
  pub none_left : (level at : ℕ) → latest.first ≤ level → at < count → HoldsAt (IsFalseIn (box_at trail level)) lits at
  pub most : (level : ℕ) → latest.second ≤ level → ¬ LeavesTwoOf (box_at trail level) lits count
