-- The boxes of a tree that bounds with marks stand for.
use Rattle.std.specs.Prelude.{◌≡◌, List, [], ◌∷◌, length, reverse}
use Rattle.mix_system.specs.declared.literal.Lit.{Lit}
use Rattle.box_check.specs.declared.bounds.Bounds.{Bounds}
use Rattle.box_check.specs.Bounds.{HasSlot, Stands, Extends}
use Rattle.tree_check.specs.declared.boxes.Half.{Half}
use Rattle.tree_check.specs.declared.boxes.OpenBoxes.{OpenBoxes}
use Rattle.tree_check.specs.declared.boxes.Refuted.{Refuted}
use Rattle.tree_check.specs.declared.boxes.Refuted.TheVariants as refuted

-- bounds were in force at a half's mark, and they stood for the box that was split
pub record IsSplit (now before : Bounds) (half : Half) (parent box : List Lit) : Type 0 where
  pub extends : Extends before now
  pub mark : half.mark ≡ length before.changes.items
  pub stood : Stands before parent
  pub high : box ≡ half.high ∷ parent
  pub slot : HasSlot before half.high.term

-- the boxes that are left behind the one in force, the latest half first, down to the bounds that were in force before the tree
abbrev pub AreLeft : Bounds → Bounds → List Half → List (List Lit) → Type 0
AreLeft base now [] [] = Extends base now
AreLeft base now [] (box ∷ boxes) = ⊥
AreLeft base now (half ∷ halves) [] = ⊥
AreLeft base now (half ∷ halves) (box ∷ boxes) =
    (before : Bounds) × (parent : List Lit) × IsSplit now before half parent box × AreLeft base before halves boxes

-- the bounds stand for the first box, and the halves for the others; what was put since the base can be taken back
abbrev pub Stand : Bounds → Bounds → OpenBoxes → List (List Lit) → Type 0
Stand base now left [] = ⊥
Stand base now left (box ∷ boxes) = Stands now box × AreLeft base now (reverse left.halves.items) boxes

-- after the first box, which was refuted: the others, or none
abbrev pub IsNext : Refuted → Bounds → Bounds → OpenBoxes → List (List Lit) → Type 0
IsNext refuted.Next base now left boxes = Stand base now left boxes
IsNext refuted.All base now left boxes = (boxes ≡ []) × Extends base now
