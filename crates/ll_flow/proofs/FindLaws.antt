-- The first of some uses that isn't defined, found part by part.
use Rattle.std.proofs.Common.{◌≡◌, ◌<◌, ◌≤◌, ◌+◌, ℕ, List, [], ◌∷◌, ◌++◌, length, get_or, take, drop, map, refl, sym, ◌∙◌, ap, arith, append_assoc, take-append-drop}
use Rattle.std.specs.Prelude.{All}
use Rattle.std.specs.List.{flat_map}
use Rattle.std.proofs.lemmas.List.{take_more, drop_more, take_all, append-nil, length-map, get_or-map}
use Rattle.std.proofs.lemmas.List.Concat.{flat_map-append}
use Rattle.std.proofs.lemmas.List.Elements.{All-nil, All-cons, All-append, All-same}
use Rattle.ll_items.specs.Sites.{site_of}
use Rattle.flow_rules.specs.declared.usage.Use.{Use}
use Rattle.flow_rules.specs.Paths as places
use Rattle.ll_flow.specs.declared.uses.Undefined.{Undefined}
use Rattle.ll_flow.specs.declared.uses.Uses.{Uses}
use Rattle.ll_flow.specs.Uses.{ValueUse, IsDefined}
use Rattle.ll_flow.specs.Found.{AreUses, IsPlaced, IsFound, FindsFirst}
use Rattle.ll_flow.proofs.UseLaws.{defined_labels, undefined_labels}

pub mapped : {A B : Type 0} (g : A → B) (items : List A) (i : ℕ) (item : A) → i < length items → item ≡ get_or items i item → (i < length (map g items)) × (g item ≡ get_or (map g items) i (g item))
mapped g items i item within is = (omega (arith, within, length-map items g), ap g is ∙ sym (get_or-map g items i item (g item) within))

pub mapped_end : {A B : Type 0} (g : A → B) (items : List A) (i : ℕ) → length items ≤ i → length (map g items) ≤ i
mapped_end g items i over = omega (arith, over, length-map items g)

module _ (tables : Uses) where
  abbrev Keeps : ValueUse → Type 0
  Keeps it = IsDefined tables.func.now it

  one_keeps : (it : ValueUse) → IsDefined tables.func.now it → All (IsDefined tables.func.now) (it ∷ [])
  one_keeps it defined = All-cons Keeps it [] defined (All-nil Keeps)

  one_found : (it : ValueUse) (found : Undefined) → ¬ IsDefined tables.func.now it → IsFound tables.func.now tables.flow.now found it → FindsFirst tables (it ∷ []) found
  one_found it found undefined is = (it, record { before = []; after = []; uses_are = refl; undefined = undefined; first = All-nil Keeps }, is)

  module _ (are : AreUses tables) (it : ValueUse) where
    pub defined_here : (usage : Use) → IsPlaced tables.func.now it usage → places.IsDefined tables.flow.now.graph usage → All (IsDefined tables.func.now) (it ∷ [])
    defined_here usage placed defined =
        one_keeps it (defined_labels tables.func.now tables.flow.now are.flow are.different_labels are.different_values it usage placed defined)

    pub undefined_here : (found : Undefined) → site_of found.site ≡ it.site → found.site.block < length tables.func.now.blocks → found.name.now ≡ it.name → IsPlaced tables.func.now it found.it → ¬ places.IsDefined tables.flow.now.graph found.it → FindsFirst tables (it ∷ []) found
    undefined_here found site within name placed undefined =
        one_found it found (undefined_labels tables.func.now tables.flow.now are.flow are.different_labels are.different_values it found.it placed undefined)
        (record { site = site; within = within; name = name; placed = placed; undefined = undefined })

  module _ {A : Type 0} (f : A → List ValueUse) (items : List A) (i : ℕ) where
    pub all_keep : length items ≤ i → All (IsDefined tables.func.now) (flat_map f (take i items)) → All (IsDefined tables.func.now) (flat_map f items)
    all_keep over keep = All-same Keeps (flat_map f items) (flat_map f (take i items)) (ap (flat_map f) (sym (take_all i items over))) keep

    module _ (item : A) (within : i < length items) (is : item ≡ get_or items i item) where
      front : flat_map f (take (i + 1) items) ≡ flat_map f (take i items) ++ f item
      front =
          ap (flat_map f) (take_more items i item within ∙ ap (λ (x : A). take i items ++ x ∷ []) (sym is)) ∙ flat_map-append f (take i items) (item ∷ [])
          ∙ ap (λ (uses : List ValueUse). flat_map f (take i items) ++ uses) (append-nil (f item))

      pub one_more : All (IsDefined tables.func.now) (flat_map f (take i items)) → All (IsDefined tables.func.now) (f item) → All (IsDefined tables.func.now) (flat_map f (take (i + 1) items))
      one_more keep here =
          All-same Keeps (flat_map f (take (i + 1) items)) (flat_map f (take i items) ++ f item) front (All-append Keeps (flat_map f (take i items)) (f item) keep here)

      whole : flat_map f items ≡ flat_map f (take i items) ++ (f item ++ flat_map f (drop (i + 1) items))
      whole =
          ap (flat_map f) (sym (take-append-drop i items) ∙ ap (λ (l : List A). take i items ++ l) (drop_more items i item within ∙ ap (λ (x : A). x ∷ drop (i + 1) items) (sym is)))
          ∙ flat_map-append f (take i items) (item ∷ drop (i + 1) items)

      pub found_here : (found : Undefined) → All (IsDefined tables.func.now) (flat_map f (take i items)) → FindsFirst tables (f item) found → FindsFirst tables (flat_map f items) found
      found_here found keep (it, first, is_found) = (
        it,
        record {
          before = flat_map f (take i items) ++ first.before;
          after = first.after ++ flat_map f (drop (i + 1) items);
          uses_are =
              whole ∙ ap (λ (uses : List ValueUse). flat_map f (take i items) ++ (uses ++ flat_map f (drop (i + 1) items))) first.uses_are
              ∙ ap (λ (uses : List ValueUse). flat_map f (take i items) ++ uses) (append_assoc first.before (it ∷ first.after) (flat_map f (drop (i + 1) items)))
              ∙ sym (append_assoc (flat_map f (take i items)) first.before (it ∷ (first.after ++ flat_map f (drop (i + 1) items))));
          undefined = first.undefined;
          first = All-append Keeps (flat_map f (take i items)) first.before keep first.first;
        },
        is_found,
      )
