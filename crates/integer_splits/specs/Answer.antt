-- What halving answers, what it keeps, and what it counts.
use Rattle.std.specs.Prelude.{◌≡◌, ℕ, zero, suc, ◌+◌, ◌-◌, ◌*◌, ◌<◌, ◌≤◌, List, [], ◌∷◌, ◌++◌, length, map}
use Rattle.mix_system.specs.declared.literal.Lit.{Lit}
use Rattle.mix_system.specs.declared.tally.Tally.{Tally}
use Rattle.mix_system.specs.Tally.{halving_depth}
use Rattle.proof_term.specs.declared.tree.Node.{Node}
use Rattle.proof_term.specs.declared.open_tree.OpenNode.{OpenNode}
use Rattle.proof_term.specs.declared.open_tree.OpenNode.TheVariants.{Pending}
use Rattle.bounded_simplex.specs.InForce.{BoundChanges}
use Rattle.integer_splits.specs.Boxes.{with_splits, splits_of, IsTreeTo, IsRefutingTree, opened}
use Rattle.integer_splits.specs.WholePoint.{IsWholePoint}
use Rattle.integer_splits.specs.declared.split.Split.{Split}
use Rattle.integer_splits.specs.declared.split.Split.TheVariants.{Point, Refuted, Spent}

-- a whole point inside all bounds, or a tree that refutes them
abbrev pub Decides : BoundChanges → Split → Type 0
Decides bounds (Point point) = IsWholePoint bounds point
Decides bounds (Refuted tree) = IsRefutingTree bounds tree
Decides bounds Spent = Unit {0}

abbrev pub IsSpent : Split → Type 0
IsSpent Spent = Unit {0}
IsSpent _ = ⊥

-- checks and splits alone were counted: at most one check for the whole box and for each half
pub record CountsHalving (old new : Tally) : Type 0 where
  pub splits : old.splits ≤ new.splits
  pub checks : old.checks ≤ new.checks
  pub few_checks : new.checks ≤ old.checks + 1 + 2 * (new.splits - old.splits)
  pub decisions : new.decisions ≡ old.decisions
  pub propagations : new.propagations ≡ old.propagations
  pub conflicts : new.conflicts ≡ old.conflicts
  pub budget : new.budget ≡ old.budget

-- of a refuting tree each split was counted
abbrev pub CountsTree : Tally → Tally → Split → Type 0
CountsTree old new (Refuted tree) = new.splits ≡ old.splits + splits_of tree.nodes
CountsTree old new _ = Unit {0}

-- as many pending nodes
abbrev pub pending_nodes : ℕ → List OpenNode
pending_nodes zero = []
pending_nodes (suc count) = Pending ∷ pending_nodes count

-- the nodes so far, and a pending one for each box that is left
abbrev pub open_nodes : List Node → ℕ → List OpenNode
open_nodes nodes count = map opened nodes ++ pending_nodes count

-- which boxes are left: none where the tree refutes; else the first of them is the box in work, and where there is a point it lies inside
abbrev pub AreLeft : BoundChanges → List (List Lit) → Split → Type 0
AreLeft base left (Point point) = (box : List Lit) × (rest : List (List Lit)) × (left ≡ box ∷ rest) × IsWholePoint (with_splits base box) point
AreLeft base left (Refuted tree) = left ≡ []
AreLeft base left Spent = 0 < length left

-- The tree so far: whole where it refutes, else with a pending node at the box in work and at each half that waits above it.
pub record IsKept (base : BoundChanges) (old new : Tally) (split : Split) (kept : List OpenNode) : Type 0 where
  pub nodes : List Node
  pub left : List (List Lit)
  pub tree : IsTreeTo base nodes left
  pub few : length left ≤ halving_depth base.system + 1
  pub counted : new.splits ≡ old.splits + splits_of nodes
  pub ends : AreLeft base left split
  pub is : kept ≡ open_nodes nodes (length left)
