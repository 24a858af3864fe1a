-- Labels of places, and places of labels.
use Rattle.std.proofs.Common.{◌≡◌, ◌<◌, ◌⊎◌, inl, inr, ℕ, zero, suc, List, [], ◌∷◌, length, get_or, map, Option, Some, None, true, false, cond, refl, sym, ◌∙◌, ap, subst, arith}
use Rattle.std.specs.Prelude.{Contains}
use Rattle.std.specs.Option.{option_map}
use Rattle.std.specs.Str.{bytes_eq}
use Rattle.std.proofs.lemmas.Bool.{true≢false}
use Rattle.std.proofs.lemmas.List.{length-map}
use Rattle.std.proofs.lemmas.Slice.Eq.{bytes_eq-Decides}
use Rattle.ll_tree.specs.declared.func.Func.{Func}
use Rattle.ll_tree.specs.declared.block.Block.{Block}
use Rattle.ll_rules.specs.Items.{labels_of, targets_of}
use Rattle.name_table.specs.Names.{place_of, AreDifferent}
use Rattle.name_table.proofs.DifferentLaws.{place_of-cons}
use Rattle.ll_edges.specs.Graph.{IsBlockAt, LeadsTo}
use Rattle.ll_flow.specs.Paths.{label_of, GoesTo}

-- ---- what a list contains

pub no_item : {X : Type 0} (x : X) → Contains {X = X} [] x → ⊥
no_item x there = omega (arith, there.1)

pub cons_cases : {X : Type 0} (first : X) (rest : List X) (x : X) → Contains (first ∷ rest) x → (first ≡ x) ⊎ Contains rest x
cons_cases first rest x (zero, within, is) = inl is
cons_cases first rest x (suc k, within, is) = inr (k, omega arith, is)

place_of_block : (blocks : List Block) (block : Block) → Contains blocks block → (place : ℕ) × (place < length blocks) × IsBlockAt blocks place block
place_of_block [] block there = absurd (no_item block there)
place_of_block (first ∷ blocks) block (zero, within, is) = (0, omega arith, is)
place_of_block (first ∷ blocks) block (suc k, within, is) =
    let later = place_of_block blocks block (k, omega arith, is) in
    (suc later.0, omega (arith, later.1), later.2)

label_there : (blocks : List Block) (place : ℕ) (block : Block) → IsBlockAt blocks place block
    → (place < length blocks) × (get_or (map (λ (block : Block). block.label) blocks) place [] ≡ block.label) × Contains blocks block
label_there [] place block there = absurd there
label_there (first ∷ blocks) zero block there = (omega arith, ap (λ (block : Block). block.label) there, (0, omega arith, there))
label_there (first ∷ blocks) (suc place) block there =
    let later = label_there blocks place block there in
    (omega (arith, later.0), later.1, (suc later.2.0, omega (arith, later.2.1), later.2.2))

-- ---- names by their places

abbrev number_of : Option ℕ → ℕ
number_of None = 0
number_of (Some number) = number

some_same : (a b : ℕ) → Some a ≡ Some b → a ≡ b
some_same a b e = ap number_of e

none_some : (a : ℕ) → (◌≡◌ {A = Option ℕ} None (Some a)) → ⊥
none_some a e = cc

pub found_at : (name : List ℕ) (names : List (List ℕ)) (place : ℕ) → place_of name names ≡ Some place → (place < length names) × (get_or names place [] ≡ name)
found_at name [] place e = absurd (none_some place e)
found_at name (other ∷ others) place found =
    (elim (bytes_eq name other) as (λ b. bytes_eq name other ≡ b → cond {A = Option ℕ} b (Some 0) (option_map suc (place_of name others)) ≡ Some place → (place < length (other ∷ others)) × (get_or (other ∷ others) place [] ≡ name)) [
      | true ↦ λ test e. here (sym ((bytes_eq-Decides name other).0 test)) (some_same 0 place e)
      | false ↦ λ test e. later (found_at name others) (place_of name others) refl e
    ]) refl found
  where
    here : other ≡ name → 0 ≡ place → (place < length (other ∷ others)) × (get_or (other ∷ others) place [] ≡ name)
    here same e = subst (λ (at : ℕ). (at < length (other ∷ others)) × (get_or (other ∷ others) at [] ≡ name)) e (omega arith, same)

    later : ((at : ℕ) → place_of name others ≡ Some at → (at < length others) × (get_or others at [] ≡ name)) → (found : Option ℕ) → place_of name others ≡ found → option_map suc found ≡ Some place → (place < length (other ∷ others)) × (get_or (other ∷ others) place [] ≡ name)
    later rest None is e = absurd (none_some place e)
    later rest (Some at) is e =
        let there = rest at is in
        subst (λ (at : ℕ). (at < length (other ∷ others)) × (get_or (other ∷ others) at [] ≡ name)) (some_same (suc at) place e) (omega (arith, there.0), there.1)

pub place_is : (names : List (List ℕ)) → AreDifferent names → (place : ℕ) → place < length names → place_of (get_or names place []) names ≡ Some place
place_is [] different place within = absurd (omega (arith, within))
place_is (name ∷ names) different zero within = rw ((bytes_eq-Decides name name).1 refl) refl
place_is (name ∷ names) different (suc place) within =
    elim (bytes_eq (get_or names place []) name) as (λ b. bytes_eq (get_or names place []) name ≡ b → cond {A = Option ℕ} b (Some 0) (option_map suc (place_of (get_or names place []) names)) ≡ Some (suc place)) [
      | true ↦ λ test. absurd (never (place_is names different.1 place (omega arith)) ((bytes_eq-Decides (get_or names place []) name).0 test))
      | false ↦ λ test. ap (option_map suc) (place_is names different.1 place (omega arith))
    ] refl
  where
    never : place_of (get_or names place []) names ≡ Some place → get_or names place [] ≡ name → ⊥
    never is same = none_some place (sym different.0 ∙ ap (λ (name : List ℕ). place_of name names) (sym same) ∙ is)

pub same_place : (names : List (List ℕ)) → AreDifferent names → (a b : ℕ) → a < length names → b < length names → get_or names a [] ≡ get_or names b [] → a ≡ b
same_place names different a b a_low b_low same =
    some_same a b (sym (place_is names different a a_low) ∙ ap (λ (name : List ℕ). place_of name names) same ∙ place_is names different b b_low)

-- a name that has no place isn't there
pub absent : (name : List ℕ) (names : List (List ℕ)) → place_of name names ≡ None → Contains names name → ⊥
absent name [] none there = no_item name there
absent name (other ∷ others) none there =
    let apart = place_of-cons name other others none in
    by_cases apart.0 (absent name others apart.1) (cons_cases other others name there)
  where
    by_cases : bytes_eq name other ≡ false → (Contains others name → ⊥) → (other ≡ name) ⊎ Contains others name → ⊥
    by_cases test rest (inl same) = true≢false (sym ((bytes_eq-Decides name other).1 (sym same)) ∙ test)
    by_cases test rest (inr later) = rest later

-- ---- edges by labels

pub count : (func : Func) → length (labels_of func) ≡ length func.blocks
count func = length-map func.blocks (λ (block : Block). block.label)

-- an edge by places is one by labels
pub goes : (func : Func) (from to : ℕ) → LeadsTo (labels_of func) func.blocks from to
    → GoesTo func (label_of func from) (label_of func to) × (from < length func.blocks) × (to < length func.blocks)
goes func from to (block, there, (target, contains, place)) =
    let at = label_there func.blocks from block there in
    let end = found_at target (labels_of func) to place in
    ((block, at.2, sym at.1, subst (λ (name : List ℕ). Contains (targets_of block.end) name) (sym end.1) contains), at.0, omega (arith, end.0, count func))

-- what goes on has a place
pub placed : (func : Func) (from to : List ℕ) → GoesTo func from to → (place : ℕ) × (place < length func.blocks) × (label_of func place ≡ from)
placed func from to (block, there, is, contains) =
    let at = place_of_block func.blocks block there in
    (at.0, at.1, (label_there func.blocks at.0 block at.2).1 ∙ is)

module _ (func : Func) (different : AreDifferent (labels_of func)) where
  pub same_label : (a b : ℕ) → a < length func.blocks → b < length func.blocks → label_of func a ≡ label_of func b → a ≡ b
  same_label a b a_low b_low same = same_place (labels_of func) different a b (omega (arith, a_low, count func)) (omega (arith, b_low, count func)) same

  -- an edge by labels is one by places
  pub led : (from to : ℕ) → from < length func.blocks → to < length func.blocks → GoesTo func (label_of func from) (label_of func to) → LeadsTo (labels_of func) func.blocks from to
  led from to from_low to_low (block, there, is, contains) =
      let at = place_of_block func.blocks block there in
      let same : at.0 ≡ from = same_label at.0 from at.1 from_low ((label_there func.blocks at.0 block at.2).1 ∙ is) in
      (block, subst (λ (place : ℕ). IsBlockAt func.blocks place block) same at.2, (label_of func to, contains, place_is (labels_of func) different to (omega (arith, to_low, count func))))
