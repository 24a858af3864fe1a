-- A name that an item uses is a value's, of the width that is written; and what else the rules say of an item.
use Rattle.std.proofs.Common.{◌≡◌, ◌⊎◌, inl, inr, ℕ, List, [], ◌∷◌, ◌++◌, length, map, Bool, true, false, eqb, Option, Some, None, refl, sym, ◌∙◌, ap, subst}
use Rattle.std.specs.Prelude.{Contains}
use Rattle.std.specs.List.{list_any}
use Rattle.std.specs.Str.{bytes_eq}
use Rattle.std.proofs.lemmas.Bool.{true≢false, or_parts, eqb-true, not-false}
use Rattle.std.proofs.lemmas.Slice.Eq.{bytes_eq-Decides}
use Rattle.std.proofs.lemmas.List.Elements.{All-contains}
use Rattle.ll_tree.specs.declared.func.Func.{Func}
use Rattle.ll_tree.specs.declared.block.Block.{Block}
use Rattle.ll_tree.specs.declared.block.Operand.TheVariants as operand
use Rattle.ll_rules.specs.Items.{Item, items_of, Use, parts_of, labels_of, values_of}
use Rattle.ll_items.specs.Sites.{Site, sites_of}
use Rattle.ll_item_rules.specs.Widths.{width_of, width_differs, part_differs, item_differs}
use Rattle.ll_item_rules.specs.Constants.{is_not_linear}
use Rattle.ll_flow.specs.Paths.{label_of}
use Rattle.ll_flow.proofs.PlaceLaws.{no_item, cons_cases}
use Rattle.ll_verifier.specs.Rules.{Rules, differs, lacks_name, missing_name}
use Rattle.ir_runs.proofs.MemberLaws.{in_here, in_there}
use Rattle.ir_runs.proofs.NamesLaws.{value_name}
use Rattle.ir_runs.proofs.SiteLaws.{site_at}
use Rattle.ir_runs.proofs.EntryLaws.{lacks_none, none_is, label_placed, item_site}
use Rattle.ir_runs.proofs.BlockLaws.{split_at}

abbrev Pair : Type 0
Pair = List ℕ × ℕ

-- the first value of a name has its width
width_found : (values : List Pair) (name : List ℕ) → Contains (map value_name values) name → (width : ℕ) × (width_of name values ≡ Some width) × Contains {X = Pair} values (name, width)
width_found [] name there = absurd (no_item name there)
width_found (first ∷ values) name there = by_test (bytes_eq name first.0) refl (width_found values name) (cons_cases first.0 (map value_name values) name there)
  where
    by_test : (b : Bool) → bytes_eq name first.0 ≡ b → (Contains (map value_name values) name → (width : ℕ) × (width_of name values ≡ Some width) × Contains {X = List ℕ × ℕ} values (name, width)) → (first.0 ≡ name) ⊎ Contains (map value_name values) name
        → (width : ℕ) × (width_of name (first ∷ values) ≡ Some width) × Contains {X = List ℕ × ℕ} (first ∷ values) (name, width)
    by_test true is rest which =
        let same : first.0 ≡ name = sym ((bytes_eq-Decides name first.0).0 is) in
        (first.1, rw is refl, subst (λ (n : List ℕ). Contains {X = List ℕ × ℕ} (first ∷ values) (n, first.1)) same (in_here {X = List ℕ × ℕ} first values))
    by_test false is rest (inl same) = absurd (true≢false (sym ((bytes_eq-Decides name first.0).1 (sym same)) ∙ is))
    by_test false is rest (inr later) =
        let found = rest later in
        (found.0, rw is found.1, in_there {X = List ℕ × ℕ} first (name, found.0) values found.2)

none_at : {X : Type 0} (test : X → Bool) (xs : List X) (x : X) → list_any test xs ≡ false → Contains xs x → test x ≡ false
none_at test [] x none there = absurd (no_item x there)
none_at {X = X} test (first ∷ xs) x none there = by_cases (or_parts (test first) (list_any test xs) none) (none_at test xs x) (cons_cases first xs x there)
  where
    by_cases : (test first ≡ false) × (list_any test xs ≡ false) → (list_any test xs ≡ false → Contains xs x → test x ≡ false) → (first ≡ x) ⊎ Contains xs x → test x ≡ false
    by_cases parts rest (inl same) = subst (λ (z : X). test z ≡ false) same parts.0
    by_cases parts rest (inr later) = rest parts.1 later

module _ (func : Func) (rules : Rules func) (block : Block) (there : Contains func.blocks block) (item : Item) (inside : Contains (items_of block) item) where
  split : (front : List Item) × (rest : List Item) × (items_of block ≡ front ++ item ∷ rest)
  split = split_at (items_of block) item inside

  place : (place : ℕ) × Contains (sites_of func) (site_at place (length split.0) item) × (label_of func place ≡ block.label)
  place = item_site func rules block there split.0 split.1 item split.2

  abbrev site : Site
  site = site_at place.0 (length split.0) item

  typed : (list_any (part_differs (values_of func)) (parts_of item) ≡ false) × (item_differs func.ret item ≡ false)
  typed = or_parts (list_any (part_differs (values_of func)) (parts_of item)) (item_differs func.ret item) (All-contains (λ (s : Site). differs func s ≡ false) (sites_of func) site rules.typed place.1)

  pub name_given : (name : List ℕ) (width : ℕ) → Contains (parts_of item) (Use (operand.Name name) width) → Contains {X = List ℕ × ℕ} (values_of func) (name, width)
  name_given name width used =
      let lacks : missing_name func site ≡ None = none_is (missing_name func site) (All-contains (λ (s : Site). lacks_name func s ≡ false) (sites_of func) site rules.named place.1) in
      let given : Contains (map value_name (values_of func)) name = label_placed (map value_name (values_of func)) name (lacks_none (values_of func) (labels_of func) (parts_of item) (Use (operand.Name name) width) lacks used) in
      let own : width_differs (width_of name (values_of func)) width ≡ false = none_at (part_differs (values_of func)) (parts_of item) (Use (operand.Name name) width) typed.0 used in
      let found = width_found (values_of func) name given in
      let same : found.0 ≡ width = eqb-true found.0 width (not-false (eqb found.0 width) (ap (λ (o : Option ℕ). width_differs o width) (sym found.1) ∙ own)) in
      subst (λ (w : ℕ). Contains {X = List ℕ × ℕ} (values_of func) (name, w)) same found.2

  pub item_linear : is_not_linear item ≡ false
  item_linear = All-contains (λ (s : Site). is_not_linear s.what ≡ false) (sites_of func) site rules.linear place.1
