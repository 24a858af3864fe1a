-- The halves that wait, and how they stand over the box in work.
use Rattle.std.specs.Prelude.{◌≡◌, ◌+◌, ◌≤◌, ◌<◌, List, [], ◌∷◌, ◌++◌, length, take, reverse}
use Rattle.mix_system.specs.declared.literal.Lit.{Lit}
use Rattle.mix_system.specs.declared.farkas.Farkas.{Farkas}
use Rattle.mix_system.specs.Calm.{IsSmall}
use Rattle.mix_system.specs.Tally.{halving_depth}
use Rattle.proof_term.specs.declared.tree.Node.{Node}
use Rattle.proof_term.specs.declared.tree.Node.TheVariants.{Leaf, Split}
use Rattle.proof_term.specs.Refutes.{low_half, high_half}
use Rattle.bounded_simplex.specs.InForce.{BoundChanges}
use Rattle.bounded_simplex.specs.Combination.{AreSmall}
use Rattle.integer_splits.specs.Boxes.{with_splits, IsTreeTo}
use Rattle.integer_splits.specs.Halving.{depth}
use Rattle.integer_splits.specs.declared.half.Half.{Half}
use Rattle.integer_splits.specs.declared.halving.Halving.{Halving}

-- the bounds with those of the splits are small, and there is room for as many more splits as the ranges can be halved
pub record HasRoom (base : BoundChanges) (splits : List Lit) : Type 0 where
  pub small : AreSmall (with_splits base splits)
  pub room : length splits + depth (with_splits base splits) ≤ halving_depth base.system

-- a half that waits beside a box, whose splits begin with those above the half
pub record IsHalfOf (base : BoundChanges) (splits front : List Lit) (half : Half) (box : List Lit) : Type 0 where
  pub rest : List Lit
  pub split : splits ≡ front ++ rest
  pub below : 0 < length rest
  pub mark : half.mark.changes ≡ length base.changes + length front
  pub known : half.var < length base.system.ranges
  pub small : IsSmall half.at
  pub is : box ≡ front ++ high_half half.var half.at ∷ []
  pub room : HasRoom base box

-- the halves that wait, the innermost first, with the boxes that they are
abbrev pub Wait : BoundChanges → (splits : List Lit) → List Half → List (List Lit) → Type 0
Wait base splits [] left = left ≡ []
Wait base splits (half ∷ halves) [] = ⊥
Wait base splits (half ∷ halves) (box ∷ left) = (front : List Lit) × IsHalfOf base splits front half box × Wait base front halves left

-- the box in work, the nodes so far, and the halves that wait
pub record Stand (base now : BoundChanges) (nodes : List Node) (halves : List Half) : Type 0 where
  pub splits : List Lit
  pub is : now ≡ with_splits base splits
  pub room : HasRoom base splits
  pub left : List (List Lit)
  pub wait : Wait base splits (reverse halves) left
  pub tree : IsTreeTo base nodes (splits ∷ left)

-- a half that waits can be gone back to, and its bound put
pub record CanBeTaken (now : BoundChanges) (half : Half) : Type 0 where
  pub mark : half.mark.changes ≤ length now.changes
  pub spare : half.mark.changes < now.room
  pub known : half.var < length now.system.ranges
  pub small : IsSmall half.at

-- the box in work was halved: its low half is in work, and the high one waits
pub record IsHalved (halving : Halving) (old new : BoundChanges) (nodes more : List Node) (halves waiting : List Half) : Type 0 where
  pub bounded : new ≡ record old { changes = old.changes ++ low_half halving.var halving.at ∷ [] }
  pub added : more ≡ nodes ++ Split halving.var halving.at ∷ []
  pub waits : waiting ≡ halves ++ (record { mark = record { changes = length old.changes }; var = halving.var; at = halving.at }) ∷ []

-- the box in work was refuted: the innermost half that waited is in work
pub record IsTaken (farkas : Farkas) (old new : BoundChanges) (nodes more : List Node) (halves waiting : List Half) : Type 0 where
  pub half : Half
  pub waited : halves ≡ waiting ++ half ∷ []
  pub bounded : new ≡ record old { changes = take half.mark.changes old.changes ++ high_half half.var half.at ∷ [] }
  pub added : more ≡ nodes ++ Leaf farkas ∷ []

-- the same, where none waited
pub record IsLast (farkas : Farkas) (nodes more : List Node) (halves : List Half) : Type 0 where
  pub none : halves ≡ []
  pub added : more ≡ nodes ++ Leaf farkas ∷ []
