-- Each name is given once: the block that gives it, and its items.
use Rattle.std.proofs.Common.{◌≡◌, ◌⊎◌, inl, inr, ℕ, List, [], ◌∷◌, ◌++◌, map, Option, Some, None, option_to_list, refl, sym, ◌∙◌, ap, subst}
use Rattle.std.specs.Prelude.{Contains, flat_map}
use Rattle.std.specs.Option.{option_map}
use Rattle.std.proofs.lemmas.List.{map-append}
use Rattle.std.proofs.lemmas.List.Concat.{flat_map-append}
use Rattle.std.proofs.lemmas.List.Elements.{Contains-append_left, Contains-append_right, Contains-append_cases}
use Rattle.ll_tree.specs.declared.func.Func.{Func}
use Rattle.ll_tree.specs.declared.block.Block.{Block}
use Rattle.ll_tree.specs.declared.block.Phi.{Phi}
use Rattle.ll_tree.specs.declared.block.Instr.{Instr}
use Rattle.ll_tree.specs.declared.block.End.{End}
use Rattle.ll_rules.specs.Items.{Item, OfPhi, OfInstr, OfEnd, items_of, named, result_width, names_of}
use Rattle.name_table.specs.Names.{AreDifferent}
use Rattle.name_table.proofs.DifferentLaws.{place_of-append, different-left, different-right}
use Rattle.ll_flow.proofs.PlaceLaws.{no_item, cons_cases, absent}
use Rattle.ir_runs.specs.Walk.{result_of, block_names, names_on}
use Rattle.ir_runs.proofs.MemberLaws.{in_here, in_there, in_flat, flat_in}

-- a name of one part isn't in the other
pub apart : (xs ys : List (List ℕ)) → AreDifferent (xs ++ ys) → (n : List ℕ) → Contains xs n → Contains ys n → ⊥
apart [] ys d n left right = no_item n left
apart (x ∷ xs) ys d n left right = by_cases (apart xs ys d.1 n) (cons_cases x xs n left)
  where
    by_cases : (Contains xs n → Contains ys n → ⊥) → (x ≡ n) ⊎ Contains xs n → ⊥
    by_cases rest (inl same) = absent x ys (place_of-append x xs ys d.0).1 (subst (λ (name : List ℕ). Contains ys name) (sym same) right)
    by_cases rest (inr later) = rest later right

module _ (f : Block → List (List ℕ)) where
  -- one block gives a name
  pub one_giver : (blocks : List Block) → AreDifferent (flat_map f blocks) → (a b : Block) → Contains blocks a → Contains blocks b → (n : List ℕ) → Contains (f a) n → Contains (f b) n → a ≡ b
  one_giver [] d a b in_a in_b n of_a of_b = absurd (no_item a in_a)
  one_giver (first ∷ blocks) d a b in_a in_b n of_a of_b = by_cases (one_giver blocks (different-right (f first) (flat_map f blocks) d) a b) (cons_cases first blocks a in_a) (cons_cases first blocks b in_b)
    where
      never : (c d : Block) → first ≡ c → Contains blocks d → Contains (f c) n → Contains (f d) n → ⊥
      never c d' same later of_c of_d = apart (f first) (flat_map f blocks) d n (subst (λ (z : Block). Contains (f z) n) (sym same) of_c) (in_flat f blocks d' n later of_d)

      by_cases : (Contains blocks a → Contains blocks b → (n : List ℕ) → Contains (f a) n → Contains (f b) n → a ≡ b) → (first ≡ a) ⊎ Contains blocks a → (first ≡ b) ⊎ Contains blocks b → a ≡ b
      by_cases rest (inl is_a) (inl is_b) = sym is_a ∙ is_b
      by_cases rest (inl is_a) (inr later) = absurd (never a b is_a later of_a of_b)
      by_cases rest (inr later) (inl is_b) = absurd (never b a is_b later of_b of_a)
      by_cases rest (inr later) (inr later_b) = rest later later_b n of_a of_b

  -- the names of one block differ
  pub of_one : (blocks : List Block) → AreDifferent (flat_map f blocks) → (a : Block) → Contains blocks a → AreDifferent (f a)
  of_one [] d a there = absurd (no_item a there)
  of_one (first ∷ blocks) d a there = by_cases (of_one blocks (different-right (f first) (flat_map f blocks) d) a) (cons_cases first blocks a there)
    where
      by_cases : (Contains blocks a → AreDifferent (f a)) → (first ≡ a) ⊎ Contains blocks a → AreDifferent (f a)
      by_cases rest (inl same) = subst (λ (z : Block). AreDifferent (f z)) same (different-left (f first) (flat_map f blocks) d)
      by_cases rest (inr later) = rest later

-- ---- names by items

abbrev pub value_name : List ℕ × ℕ → List ℕ
value_name value = value.0

abbrev pub item_names : Item → List (List ℕ)
item_names item = option_to_list (result_of item)

abbrev pub names_in : List Item → List (List ℕ)
names_in items = flat_map item_names items

result_names : (name : List ℕ) (width : Option ℕ) → map value_name (named name width) ≡ option_to_list (option_map (λ w. name) width)
result_names name None = refl
result_names name (Some width) = refl

abbrev instr_values : Instr → List (List ℕ × ℕ)
instr_values instr = named instr.name (result_width instr.op)

body_names : (body : List Instr) (end : End) → map value_name (flat_map instr_values body) ≡ names_in (map OfInstr body ++ OfEnd end ∷ [])
body_names [] end = refl
body_names (instr ∷ body) end =
    map-append value_name (instr_values instr) (flat_map instr_values body)
    ∙ (λ i. result_names instr.name (result_width instr.op) i ++ body_names body end i)

abbrev phi_value : Phi → List ℕ × ℕ
phi_value phi = (phi.name, phi.width)

phi_names : (phis : List Phi) (values : List (List ℕ × ℕ)) (items : List Item) → map value_name values ≡ names_in items → map value_name (map phi_value phis ++ values) ≡ names_in (map OfPhi phis ++ items)
phi_names [] values items same = same
phi_names (phi ∷ phis) values items same = ap (λ (names : List (List ℕ)). phi.name ∷ names) (phi_names phis values items same)

pub block_names_are : (block : Block) → block_names block ≡ names_in (items_of block)
block_names_are block = phi_names block.phis (flat_map instr_values block.body) (map OfInstr block.body ++ OfEnd block.end ∷ []) (body_names block.body block.end)

-- ---- a name that comes next is new

abbrev pub all_names : Block → List (List ℕ)
all_names block = block.label ∷ block_names block

abbrev pub param_names : Func → List (List ℕ)
param_names func = map (λ param. param.name) func.params

module _ (func : Func) (names : AreDifferent (names_of func)) where
  pub of_blocks : AreDifferent (flat_map all_names func.blocks)
  of_blocks = different-right (param_names func) (flat_map all_names func.blocks) names

  pub same_block : (a b : Block) → Contains func.blocks a → Contains func.blocks b → a.label ≡ b.label → a ≡ b
  same_block a b in_a in_b same =
      one_giver all_names func.blocks of_blocks a b in_a in_b b.label (subst (λ (n : List ℕ). Contains (all_names a) n) same (in_here a.label (block_names a))) (in_here b.label (block_names b))

  module _ (block : Block) (within : Contains func.blocks block) (front rest : List Item) (item : Item) (items : items_of block ≡ front ++ item ∷ rest) where
    parts : names_in (items_of block) ≡ names_in front ++ (item_names item ++ names_in rest)
    parts = ap names_in items ∙ flat_map-append item_names front (item ∷ rest)

    pub given_here : (n : List ℕ) → Contains (item_names item) n → Contains (block_names block) n
    given_here n there =
        subst (λ (names : List (List ℕ)). Contains names n) (sym (block_names_are block ∙ parts))
        (Contains-append_right (names_in front) (item_names item ++ names_in rest) n (Contains-append_left (item_names item) (names_in rest) n there))

    new_in_block : (n : List ℕ) → Contains (item_names item) n → Contains (names_in front) n → ⊥
    new_in_block n there earlier =
        apart (names_in front) (item_names item ++ names_in rest) (subst AreDifferent (block_names_are block ∙ parts) (of_one all_names func.blocks of_blocks block within).1) n earlier
        (Contains-append_left (item_names item) (names_in rest) n there)

    new_to_params : (n : List ℕ) → Contains (item_names item) n → Contains (param_names func) n → ⊥
    new_to_params n there earlier =
        apart (param_names func) (flat_map all_names func.blocks) names n earlier
        (in_flat all_names func.blocks block n within (in_there block.label n (block_names block) (given_here n there)))

    new_to_blocks : (done : List Block) → ((other : Block) → Contains done other → Contains func.blocks other) → (Contains done block → ⊥) → (n : List ℕ) → Contains (item_names item) n → Contains (flat_map block_names done) n → ⊥
    new_to_blocks done all never n there earlier =
        let other = flat_in block_names done n earlier in
        let same : other.0 ≡ block = one_giver all_names func.blocks of_blocks other.0 block (all other.0 other.1) within n (in_there other.0.label n (block_names other.0) other.2) (in_there block.label n (block_names block) (given_here n there)) in
        never (subst (λ (b : Block). Contains done b) same other.1)

    -- The result of an item isn't a name of a parameter, of another block or of an item before it.
    pub is_new : (done : List Block) → ((other : Block) → Contains done other → Contains func.blocks other) → (Contains done block → ⊥) → (n : List ℕ) → Contains (item_names item) n → Contains (names_on func done ++ names_in front) n → ⊥
    is_new done all never n there earlier = by_cases (Contains-append_cases (names_on func done) (names_in front) n earlier)
      where
        on_path : Contains (param_names func) n ⊎ Contains (flat_map block_names done) n → ⊥
        on_path (inl param) = new_to_params n there param
        on_path (inr given) = new_to_blocks done all never n there given

        by_cases : Contains (names_on func done) n ⊎ Contains (names_in front) n → ⊥
        by_cases (inl given) = on_path (Contains-append_cases (param_names func) (flat_map block_names done) n given)
        by_cases (inr given) = new_in_block n there given
