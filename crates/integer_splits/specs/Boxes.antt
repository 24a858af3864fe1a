-- The boxes that halving makes, and how nodes lead from boxes to those that are left.
use Rattle.std.specs.Prelude.{◌≡◌, ℕ, ◌+◌, ◌*◌, List, [], ◌∷◌, ◌++◌, length, All}
use Rattle.std.specs.List.{flat_map}
use Rattle.mix_system.specs.declared.literal.Lit.{Lit}
use Rattle.proof_term.specs.declared.tree.Node.{Node}
use Rattle.proof_term.specs.declared.tree.Node.TheVariants.{Leaf, Split}
use Rattle.proof_term.specs.declared.tree.Tree.{Tree}
use Rattle.proof_term.specs.declared.open_tree.OpenNode.{OpenNode}
use Rattle.proof_term.specs.declared.open_tree.OpenNode.TheVariants.{Leaf as OpenLeaf, Split as OpenSplit}
use Rattle.proof_term.specs.Refutes.{Refutes, low_half, high_half}
use Rattle.proof_term.specs.Steps.{node_steps, StaysWithin, NodeNames}
use Rattle.bounded_simplex.specs.InForce.{BoundChanges}
use Rattle.bounded_simplex.specs.Combination.{IsRefutation}
use Rattle.bounded_simplex.specs.Refutation.{box_of}
use Rattle.integer_splits.specs.Halving.{IsHalving}

-- the bounds with those of the splits above a box, the outermost first
abbrev pub with_splits : BoundChanges → List Lit → BoundChanges
with_splits base splits = record base { changes = base.changes ++ splits }

-- Nodes in pre-order lead from some boxes, each by its split bounds, to those that are left: a leaf refutes the first box, and a split
-- halves a range of the first box and puts the two halves in its place.
abbrev pub LeadTo : BoundChanges → List Node → List (List Lit) → List (List Lit) → Type 0
LeadTo base [] boxes left = boxes ≡ left
LeadTo base (node ∷ nodes) [] left = ⊥
LeadTo base (Leaf farkas ∷ nodes) (splits ∷ boxes) left = IsRefutation (with_splits base splits) farkas.parts × LeadTo base nodes boxes left
LeadTo base (Split var at ∷ nodes) (splits ∷ boxes) left =
    IsHalving (with_splits base splits) var at
    × LeadTo base nodes ((splits ++ low_half var at ∷ []) ∷ (splits ++ high_half var at ∷ []) ∷ boxes) left

-- how many of the nodes are splits
abbrev pub splits_of : List Node → ℕ
splits_of [] = 0
splits_of (Leaf farkas ∷ nodes) = splits_of nodes
splits_of (Split var at ∷ nodes) = splits_of nodes + 1

-- Nodes that lead from the box of some bounds to those that are left. Their terms are the system's, and each number that they form
-- fits into 128 bits.
pub record IsTreeTo (base : BoundChanges) (nodes : List Node) (left : List (List Lit)) : Type 0 where
  pub leads : LeadTo base nodes ([] ∷ []) left
  pub names : All (NodeNames base.system) nodes
  pub numbers : All StaysWithin (flat_map (node_steps base.system.rows) nodes)
  pub counted : length nodes + length left ≡ 2 * splits_of nodes + 1

-- the whole tree refutes the box
pub record IsRefutingTree (base : BoundChanges) (tree : Tree) : Type 0 where
  pub refutes : Refutes base.system.rows tree (box_of base)
  pub tree_to_none : IsTreeTo base tree.nodes []

-- a node of a tree that isn't finished
abbrev pub opened : Node → OpenNode
opened (Leaf farkas) = OpenLeaf farkas
opened (Split var at) = OpenSplit var at
