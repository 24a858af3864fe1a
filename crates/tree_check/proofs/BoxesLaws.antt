-- The boxes that are left after a split, and after one was refuted.
use Rattle.std.proofs.Common.{◌≡◌, ◌+◌, ◌<◌, ℕ, List, [], ◌∷◌, ◌++◌, length, take, get_or, Result, Ok, Err, OnOk, refl, sym, ◌∙◌, ap, subst, reverse, All}
use Rattle.std.proofs.lemmas.List.{reverse-append}
use Rattle.std.proofs.lemmas.List.Elements.{All-more}
use Rattle.mix_system.specs.declared.literal.Lit.{Lit}
use Rattle.mix_system.specs.declared.farkas.FarkasPart.{FarkasPart}
use Rattle.mix_system.specs.Bounds.{IsIn}
use Rattle.box_check.specs.declared.bounds.Bounds.{Bounds}
use Rattle.box_check.specs.Bounds.{Says, HasSlot, Stands, Extends, IsSame, Tightens}
use Rattle.box_check.proofs.BoundsLaws.{Extends_more, same_extends}
use Rattle.box_check.proofs.HintsLaws.{Stands-put, Stands-later, HasSlot-later}
use Rattle.tree_check.specs.declared.boxes.Half.{Half}
use Rattle.tree_check.specs.declared.boxes.OpenBoxes.{OpenBoxes}
use Rattle.tree_check.specs.Boxes.{AreLeft, Stand}

-- the latest half stands last
pub latest_first : (halves : List Half) (half : Half) → reverse (halves ++ half ∷ []) ≡ half ∷ reverse halves
latest_first halves half = reverse-append halves (half ∷ [])

-- what is left stays left where the bounds extend others, or are the same
pub left_later : (base old now : Bounds) (halves : List Half) (boxes : List (List Lit)) → Extends old now → AreLeft base old halves boxes → AreLeft base now halves boxes
left_later base old now [] [] extends left = Extends_more base old now left extends
left_later base old now [] (box ∷ boxes) extends left = absurd left
left_later base old now (half ∷ halves) [] extends left = absurd left
left_later base old now (half ∷ halves) (box ∷ boxes) extends left = (
  left.0,
  left.1,
  record {
    extends = Extends_more left.0 old now left.2.extends extends;
    mark = left.2.mark;
    stood = left.2.stood;
    high = left.2.high;
    slot = left.2.slot;
  },
  left.3,
)

left_extends : (base now : Bounds) (halves : List Half) (boxes : List (List Lit)) → AreLeft base now halves boxes → Extends base now
left_extends base now [] [] left = left
left_extends base now [] (box ∷ boxes) left = absurd left
left_extends base now (half ∷ halves) [] left = absurd left
left_extends base now (half ∷ halves) (box ∷ boxes) left = Extends_more base left.0 now (left_extends base left.0 halves boxes left.3) left.2.extends

-- what was put since the base can be taken back
pub stand_extends : (base now : Bounds) (open' : OpenBoxes) (boxes : List (List Lit)) → Stand base now open' boxes → Extends base now
stand_extends base now open' [] stand = absurd stand
stand_extends base now open' (box ∷ boxes) stand = left_extends base now (reverse open'.halves.items) boxes stand.1

pub stand_start : (base bounds : Bounds) (open' : OpenBoxes) (box : List Lit) → open'.halves.items ≡ [] → Extends base bounds → Stands bounds box
    → Stand base bounds open' (box ∷ [])
stand_start base bounds open' box none extends stands =
    (stands, subst (λ (halves : List Half). AreLeft base bounds (reverse halves) []) (sym none) extends)

module _ (old new : Bounds) (before after : OpenBoxes) (half : Half) (pushed : after.halves.items ≡ before.halves.items ++ half ∷ []) where
  stand_split : (low : Lit) → half.mark ≡ length old.changes.items → HasSlot old half.high.term → Tightens low old new → Extends old new
      → (base : Bounds) (box : List Lit) (boxes : List (List Lit)) → Stand base old before (box ∷ boxes) → Stand base new after ((low ∷ box) ∷ (half.high ∷ box) ∷ boxes)
  stand_split low mark slot tightens extends base box boxes stand = (
    Stands-put old new low box stand.0 tightens extends,
    subst (λ (halves : List Half). AreLeft base new halves ((half.high ∷ box) ∷ boxes)) (sym (ap (λ (hs : List Half). reverse hs) pushed ∙ latest_first before.halves.items half))
        (old, box, record { extends = extends; mark = mark; stood = stand.0; high = refl; slot = slot }, stand.1),
  )

  pub stand_split_as : (low first second : Lit) → half.mark ≡ length old.changes.items → HasSlot old second.term → Tightens low old new → Extends old new → low ≡ first → half.high ≡ second
      → (base : Bounds) (box : List Lit) (boxes : List (List Lit)) → Stand base old before (box ∷ boxes) → Stand base new after ((first ∷ box) ∷ (second ∷ box) ∷ boxes)
  stand_split_as low first second mark slot tightens extends low_is high_is base box boxes stand =
      let slot_here : HasSlot old half.high.term = subst (λ (lit : Lit). HasSlot old lit.term) (sym high_is) slot in
      subst (λ (lit : Lit). Stand base new after ((lit ∷ box) ∷ (second ∷ box) ∷ boxes)) low_is
      (subst (λ (lit : Lit). Stand base new after ((low ∷ box) ∷ (lit ∷ box) ∷ boxes)) high_is (stand_split low mark slot_here tightens extends base box boxes stand))

-- taking the changes back to a half's mark gives the bounds of its box again
abbrev pub GoesBack : Bounds → Half → Bounds → Type 0
GoesBack now half mid = (start : Bounds) → Extends start now → half.mark ≡ length start.changes.items → IsSame start mid

first_left : (base now : Bounds) (open' : OpenBoxes) (rest : List Half) (half : Half) (boxes : List (List Lit)) → open'.halves.items ≡ rest ++ half ∷ []
    → AreLeft base now (reverse open'.halves.items) boxes → AreLeft base now (half ∷ reverse rest) boxes
first_left base now open' rest half boxes popped left =
    subst (λ (halves : List Half). AreLeft base now halves boxes) (ap (λ (hs : List Half). reverse hs) popped ∙ latest_first rest half) left

slot_left : (base now mid : Bounds) (rest : List Half) (half : Half) (boxes : List (List Lit)) → AreLeft base now (half ∷ rest) boxes → GoesBack now half mid → HasSlot mid half.high.term
slot_left base now mid rest half [] left goes = absurd left
slot_left base now mid rest half (box ∷ boxes) left goes =
    let before = left.0 in
    HasSlot-later before mid (same_extends before mid (goes before left.2.extends left.2.mark)) half.high.term left.2.slot

pub slot_after : (base now mid : Bounds) (open' : OpenBoxes) (rest : List Half) (half : Half) (boxes : List (List Lit)) → Stand base now open' boxes → open'.halves.items ≡ rest ++ half ∷ []
    → GoesBack now half mid → HasSlot mid half.high.term
slot_after base now mid open' rest half [] stand popped goes = absurd stand
slot_after base now mid open' rest half (box ∷ boxes) stand popped goes =
    slot_left base now mid (reverse rest) half boxes (first_left base now open' rest half boxes popped stand.1) goes

next_left : (base now mid new : Bounds) (rest : List Half) (half : Half) (boxes : List (List Lit)) → AreLeft base now (half ∷ reverse rest) boxes → GoesBack now half mid → Tightens half.high mid new
    → Extends mid new → (after : OpenBoxes) → after.halves.items ≡ rest → Stand base new after boxes
next_left base now mid new rest half [] left goes tightens extends after is = absurd left
next_left base now mid new rest half (box ∷ boxes) left goes tightens extends after is =
    let before = left.0 in
    let parent = left.1 in
    let same = goes before left.2.extends left.2.mark in
    let stands = Stands-put mid new half.high parent (Stands-later before mid parent same left.2.stood) tightens extends in
    let later = left_later base before new (reverse rest) boxes (Extends_more before mid new (same_extends before mid same) extends) left.3 in (
      subst (λ (b : List Lit). Stands new b) (sym left.2.high) stands,
      subst (λ (halves : List Half). AreLeft base new (reverse halves) boxes) (sym is) later,
    )

pub stand_next : (base now mid new : Bounds) (before after : OpenBoxes) (half : Half) (box : List Lit) (boxes : List (List Lit)) → Stand base now before (box ∷ boxes)
    → before.halves.items ≡ after.halves.items ++ half ∷ [] → GoesBack now half mid → Tightens half.high mid new → Extends mid new → Stand base new after boxes
stand_next base now mid new before after half box boxes stand popped goes tightens extends =
    next_left base now mid new after.halves.items half boxes (first_left base now before after.halves.items half boxes popped stand.1) goes tightens extends after refl

pub none_left : (base now : Bounds) (halves : List Half) (boxes : List (List Lit)) → halves ≡ [] → AreLeft base now (reverse halves) boxes → (boxes ≡ []) × Extends base now
none_left base now halves boxes none left = no_box boxes (subst (λ (hs : List Half). AreLeft base now (reverse hs) boxes) none left)
  where
    no_box : (boxes : List (List Lit)) → AreLeft base now [] boxes → (boxes ≡ []) × Extends base now
    no_box [] left = (refl, left)
    no_box (box ∷ boxes) left = absurd left

pub on_ok : {T E A B : Type 0} (result : Result T E) → (A → B) → OnOk result A → OnOk result B
on_ok (Ok value) gives a = gives a
on_ok (Err error) gives a = tt

-- the literals of a leaf that the bounds say, and one that they don't

module _ (bounds : Bounds) (parts : List FarkasPart) (slots : All (λ part. HasSlot bounds part.lit.term) parts) where
  pub all_in : All (λ part. Says bounds part.lit) parts → (box : List Lit) → Stands bounds box → All (λ part. IsIn box part.lit) parts
  all_in says box stands k d within = (stands (get_or parts k d).lit (slots k d within)).0 (says k d within)

  pub not_in : (i : ℕ) (part : FarkasPart) → i < length parts → part ≡ get_or parts i part → (Says bounds part.lit → ⊥) → (box : List Lit) → Stands bounds box → All (λ part. IsIn box part.lit) parts → ⊥
  not_in i part within is not_said box stands all =
      let here : IsIn box part.lit = subst (λ (p : FarkasPart). IsIn box p.lit) (sym is) (all i part within) in
      let slot : HasSlot bounds part.lit.term = subst (λ (p : FarkasPart). HasSlot bounds p.lit.term) (sym is) (slots i part within) in
      not_said ((stands part.lit slot).1 here)

pub says_more : (bounds : Bounds) (parts : List FarkasPart) (i : ℕ) (part : FarkasPart) → i < length parts → part ≡ get_or parts i part → All (λ part. Says bounds part.lit) (take i parts) → Says bounds part.lit
    → All (λ part. Says bounds part.lit) (take (i + 1) parts)
says_more bounds parts i part within is before here =
    All-more (λ p. Says bounds p.lit) parts i part within before (subst (λ (p : FarkasPart). Says bounds p.lit) is here)
