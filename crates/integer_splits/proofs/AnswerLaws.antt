-- What a search says of the answer, and the pending nodes of a tree that isn't finished.
use Rattle.std.proofs.Common.{◌≡◌, ℕ, zero, suc, ◌+◌, List, [], ◌∷◌, ◌++◌, ℤ, refl, ap, ◌∙◌, subst, arith}
use Rattle.proof_term.specs.declared.open_tree.OpenNode.TheVariants.{Pending}
use Rattle.bounded_simplex.specs.InForce.{BoundChanges}
use Rattle.integer_splits.specs.Answer.{pending_nodes}
use Rattle.integer_splits.specs.Boxes.{IsTreeTo, IsRefutingTree}
use Rattle.integer_splits.specs.Search.{IsSearched, LeavesBoxes}
use Rattle.integer_splits.specs.WholePoint.{IsWholePoint}
use Rattle.integer_splits.specs.declared.found.Ended.TheVariants.{Point, Refuted}
use Rattle.integer_splits.specs.declared.found.Searched.{Searched}
use Rattle.integer_splits.proofs.PointLaws.{outer_point}
use Rattle.integer_splits.proofs.TreeLaws.{tree_refutes}

pub pending_push : (count : ℕ) → pending_nodes (count + 1) ≡ pending_nodes count ++ Pending ∷ []
pending_push zero = refl
pending_push (suc count) = let same : suc count + 1 ≡ suc (count + 1) = omega arith in ap pending_nodes same ∙ ap (λ ns. Pending ∷ ns) (pending_push count)

module _ (base : BoundChanges) (searched : Searched) (is : IsSearched base searched) where
  pub decides_point : (point : List ℤ) → searched.ended ≡ Point point → IsWholePoint base point
  decides_point point ended =
      let ends : LeavesBoxes base is.left (Point point) = subst (LeavesBoxes base is.left) ended is.ends in
      let (box, rest, _, whole) = ends in
      outer_point base box point whole

  pub decides_all : searched.ended ≡ Refuted → IsRefutingTree base (record { nodes = searched.nodes })
  decides_all ended =
      let none : is.left ≡ [] = subst (LeavesBoxes base is.left) ended is.ends in
      tree_refutes base (record { nodes = searched.nodes }) (subst (IsTreeTo base searched.nodes) none is.tree)
