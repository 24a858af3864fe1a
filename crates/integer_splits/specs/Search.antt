-- How a search ends.
use Rattle.std.specs.Prelude.{◌≡◌, ℕ, ◌+◌, ◌*◌, ◌<◌, ◌≤◌, List, [], ◌∷◌, length}
use Rattle.mix_system.specs.declared.literal.Lit.{Lit}
use Rattle.mix_system.specs.declared.tally.Tally.{Tally}
use Rattle.mix_system.specs.Tally.{halving_depth}
use Rattle.proof_term.specs.declared.tree.Node.{Node}
use Rattle.bounded_simplex.specs.InForce.{BoundChanges}
use Rattle.integer_splits.specs.Boxes.{with_splits, splits_of, IsTreeTo}
use Rattle.integer_splits.specs.WholePoint.{IsWholePoint}
use Rattle.integer_splits.specs.declared.found.Ended.{Ended}
use Rattle.integer_splits.specs.declared.found.Ended.TheVariants.{Point, Refuted, Spent}
use Rattle.integer_splits.specs.declared.found.Searched.{Searched}

abbrev pub LeavesBoxes : BoundChanges → List (List Lit) → Ended → Type 0
LeavesBoxes base left (Point point) = (box : List Lit) × (rest : List (List Lit)) × (left ≡ box ∷ rest) × IsWholePoint (with_splits base box) point
LeavesBoxes base left Refuted = left ≡ []
LeavesBoxes base left Spent = 0 < length left

-- the nodes so far lead to the boxes that are left
pub record IsSearched (base : BoundChanges) (searched : Searched) : Type 0 where
  pub left : List (List Lit)
  pub tree : IsTreeTo base searched.nodes left
  pub count : length left ≡ searched.left
  pub few : length left ≤ halving_depth base.system + 1
  pub ends : LeavesBoxes base left searched.ended

abbrev pub IsOut : Ended → Type 0
IsOut Spent = Unit {0}
IsOut _ = ⊥

-- each split of the nodes was counted, and at most one check for the whole box and for each half, but for those that wait
pub record CountsNodes (old new : Tally) (nodes : List Node) (waiting : ℕ) : Type 0 where
  pub splits : new.splits ≡ old.splits + splits_of nodes
  pub checks : old.checks ≤ new.checks
  pub few_checks : new.checks + waiting ≤ old.checks + 1 + 2 * splits_of nodes
  pub decisions : new.decisions ≡ old.decisions
  pub propagations : new.propagations ≡ old.propagations
  pub conflicts : new.conflicts ≡ old.conflicts
  pub budget : new.budget ≡ old.budget
