-- Entries of phis against edges, and targets that are blocks.
use Rattle.std.proofs.Common.{◌≡◌, ◌⊎◌, inl, inr, ◌+◌, ◌<◌, ◌≤◌, ℕ, List, [], ◌∷◌, ◌++◌, length, map, Bool, true, false, ◌&&◌, cond, Option, Some, None, is_some, refl, sym, ◌∙◌, ap, subst, arith, append_assoc}
use Rattle.std.specs.Prelude.{Contains}
use Rattle.std.specs.List.{list_all}
use Rattle.std.specs.Map.{lookup}
use Rattle.std.specs.Str.{bytes_eq}
use Rattle.std.proofs.lemmas.Bool.{true≢false, and_parts, eqb-true, not-false}
use Rattle.std.proofs.lemmas.Option.{none-some, same_Some}
use Rattle.std.proofs.lemmas.Slice.Eq.{bytes_eq-Decides}
use Rattle.std.proofs.lemmas.List.Elements.{All-contains, Contains-get_or}
use Rattle.ll_tree.specs.Formed.{IsFormedBlock, IsFormedPhi}
use Rattle.ll_tree.specs.declared.func.Func.{Func}
use Rattle.ll_tree.specs.declared.block.Block.{Block}
use Rattle.ll_tree.specs.declared.block.Phi.{Phi}
use Rattle.ll_tree.specs.declared.block.PhiEntry.{PhiEntry}
use Rattle.ll_tree.specs.declared.block.Case.{Case}
use Rattle.ll_tree.specs.declared.block.Operand.{Operand}
use Rattle.ll_tree.specs.declared.block.End.{End}
use Rattle.ll_tree.specs.declared.block.End.TheVariants as end
use Rattle.ll_rules.specs.Items.{Item, OfPhi, OfInstr, OfEnd, items_of, Part, Use, Goal, parts_of, end_parts, targets_of, labels_of, values_of}
use Rattle.ll_items.specs.Sites.{Site, sites_of}
use Rattle.name_table.specs.Names.{place_of}
use Rattle.ll_item_rules.specs.Lacking.{lacking_label, lacking_in, lacking_name, or_else}
use Rattle.ll_phi_rules.specs.Phis.{times, has_entries, all_agree, entries_differ, differ_at}
use Rattle.ll_flow.specs.Paths.{label_of, GoesTo, IsPathTo}
use Rattle.ll_flow.proofs.PlaceLaws.{no_item, cons_cases, found_at}
use Rattle.ll_verifier.specs.Rules.{Rules, lacks_name, missing_name}
use Rattle.ir_runs.specs.Walk.{block_of}
use Rattle.ir_runs.specs.Values.{operand_for}
use Rattle.ir_runs.proofs.MemberLaws.{in_here, in_there, in_map, map_in, in_flat}
use Rattle.ir_runs.proofs.NamesLaws.{same_block}
use Rattle.ir_runs.proofs.TrailLaws.{no_return}
use Rattle.ir_runs.proofs.SiteLaws.{block_place, block_there, site_at, site_here}

-- ---- lists

all_at : {X : Type 0} (test : X → Bool) (xs : List X) (x : X) → list_all test xs ≡ true → Contains xs x → test x ≡ true
all_at test [] x all there = absurd (no_item x there)
all_at {X = X} test (first ∷ xs) x all there = by_cases (and_parts (test first) (list_all test xs) all) (all_at test xs x) (cons_cases first xs x there)
  where
    by_cases : (test first ≡ true) × (list_all test xs ≡ true) → (list_all test xs ≡ true → Contains xs x → test x ≡ true) → (first ≡ x) ⊎ Contains xs x → test x ≡ true
    by_cases parts rest (inl same) = subst (λ (z : X). test z ≡ true) same parts.0
    by_cases parts rest (inr later) = rest parts.1 later

same_bytes : (name : List ℕ) → bytes_eq name name ≡ true
same_bytes name = (bytes_eq-Decides name name).1 refl

-- a name that stands in a list stands there once at least
times_some : (label : List ℕ) (names : List (List ℕ)) → Contains names label → 0 < times label names
times_some label [] there = absurd (no_item label there)
times_some label (name ∷ names) there = by_cases (times_some label names) (cons_cases name names label there)
  where
    by_cases : (Contains names label → 0 < times label names) → (name ≡ label) ⊎ Contains names label → 0 < cond (bytes_eq name label) 1 0 + times label names
    by_cases rest (inl same) = rw ((bytes_eq-Decides name label).1 same) (omega arith)
    by_cases rest (inr later) = omega (arith, rest later)

times_in : (label : List ℕ) (names : List (List ℕ)) → 0 < times label names → Contains names label
times_in label [] some = absurd (omega (arith, some))
times_in label (name ∷ names) some = by_test (bytes_eq name label) refl (times_in label names)
  where
    none_more : 0 < 0 + times label names → 0 < times label names
    none_more low = omega (arith, low)

    by_test : (b : Bool) → bytes_eq name label ≡ b → (0 < times label names → Contains names label) → Contains (name ∷ names) label
    by_test true is rest = subst (λ (n : List ℕ). Contains (name ∷ names) n) ((bytes_eq-Decides name label).0 is) (in_here name names)
    by_test false is rest = in_there name label names (rest (none_more (subst (λ (b : Bool). 0 < cond b 1 0 + times label names) is some)))

abbrev pub entry_pair : PhiEntry → List ℕ × Operand
entry_pair entry = (entry.from, entry.value)

abbrev pub Found : List ℕ → List PhiEntry → Type 0
Found label entries = (entry : PhiEntry) × Contains entries entry × (entry.from ≡ label) × (lookup (bytes_eq label) (map entry_pair entries) ≡ Some entry.value)

-- the entry that is found for a label
pub entry_found : (label : List ℕ) (entries : List PhiEntry) → Contains (map (λ (entry : PhiEntry). entry.from) entries) label
    → Found label entries
entry_found label [] there = absurd (no_item label there)
entry_found label (entry ∷ entries) there = by_test (bytes_eq label entry.from) refl (entry_found label entries) (cons_cases entry.from (map (λ (entry : PhiEntry). entry.from) entries) label there)
  where
    by_test : (b : Bool) → bytes_eq label entry.from ≡ b → (Contains (map (λ (entry : PhiEntry). entry.from) entries) label → Found label entries) → (entry.from ≡ label) ⊎ Contains (map (λ (entry : PhiEntry). entry.from) entries) label → Found label (entry ∷ entries)
    by_test true is rest which = (entry, in_here entry entries, sym ((bytes_eq-Decides label entry.from).0 is), rw is refl)
    by_test false is rest (inl same) = absurd (true≢false (sym ((bytes_eq-Decides label entry.from).1 (sym same)) ∙ is))
    by_test false is rest (inr later) =
        let found = rest later in
        (found.0, in_there entry found.0 entries found.1, found.2, rw is found.3)

-- ---- blocks by their labels

abbrev block_pair : Block → List ℕ × Block
block_pair block = (block.label, block)

found_block : (blocks : List Block) → ((a b : Block) → Contains blocks a → Contains blocks b → a.label ≡ b.label → a ≡ b) → (block : Block) → Contains blocks block → lookup (bytes_eq block.label) (map block_pair blocks) ≡ Some block
found_block [] one block there = absurd (no_item block there)
found_block (first ∷ blocks) one block there = by_test (bytes_eq block.label first.label) refl (found_block blocks (λ a b in_a in_b. one a b (in_there first a blocks in_a) (in_there first b blocks in_b)) block) (cons_cases first blocks block there)
  where
    by_test : (b : Bool) → bytes_eq block.label first.label ≡ b → (Contains blocks block → lookup (bytes_eq block.label) (map block_pair blocks) ≡ Some block) → (first ≡ block) ⊎ Contains blocks block → lookup (bytes_eq block.label) (map block_pair (first ∷ blocks)) ≡ Some block
    by_test true is rest which = rw is (ap Some (one first block (in_here first blocks) there (sym ((bytes_eq-Decides block.label first.label).0 is))))
    by_test false is rest (inl same) = absurd (true≢false (sym ((bytes_eq-Decides block.label first.label).1 (sym (ap (λ (b : Block). b.label) same))) ∙ is))
    by_test false is rest (inr later) = rw is (rest later)

block_found : (label : List ℕ) (blocks : List Block) (block : Block) → lookup (bytes_eq label) (map block_pair blocks) ≡ Some block → Contains blocks block × (block.label ≡ label)
block_found label [] block e = absurd (none-some block e)
block_found label (first ∷ blocks) block e = by_test (bytes_eq label first.label) refl (block_found label blocks block)
  where
    by_test : (b : Bool) → bytes_eq label first.label ≡ b → (lookup (bytes_eq label) (map block_pair blocks) ≡ Some block → Contains blocks block × (block.label ≡ label)) → Contains (first ∷ blocks) block × (block.label ≡ label)
    by_test true is rest =
        let same : first ≡ block = same_Some first block (subst (λ (b : Bool). cond b (Some first) (lookup (bytes_eq label) (map block_pair blocks)) ≡ Some block) is e) in
        (subst (λ (b : Block). Contains (first ∷ blocks) b) same (in_here first blocks), ap (λ (b : Block). b.label) (sym same) ∙ sym ((bytes_eq-Decides label first.label).0 is))
    by_test false is rest =
        let found = rest (subst (λ (b : Bool). cond b (Some first) (lookup (bytes_eq label) (map block_pair blocks)) ≡ Some block) is e) in
        (in_there first block blocks found.0, found.1)

-- ---- names of items that are there

pub lacks_none : (values : List (List ℕ × ℕ)) (labels : List (List ℕ)) (parts : List Part) (part : Part) → lacking_name values labels parts ≡ None → Contains parts part → lacking_in values labels part ≡ None
lacks_none values labels [] part none there = absurd (no_item part there)
lacks_none values labels (first ∷ parts) part none there = by_value (lacking_in values labels first) refl (lacks_none values labels parts part) (cons_cases first parts part there)
  where
    by_value : (o : Option (List ℕ)) → lacking_in values labels first ≡ o → (lacking_name values labels parts ≡ None → Contains parts part → lacking_in values labels part ≡ None) → (first ≡ part) ⊎ Contains parts part → lacking_in values labels part ≡ None
    by_value (Some name) is rest which = absurd (none-some name (sym none ∙ ap (λ (o : Option (List ℕ)). or_else o (lacking_name values labels parts)) is))
    by_value None is rest (inl same) = ap (lacking_in values labels) (sym same) ∙ is
    by_value None is rest (inr later) = rest (ap (λ (o : Option (List ℕ)). or_else o (lacking_name values labels parts)) (sym is) ∙ none) later

pub none_is : (o : Option (List ℕ)) → is_some o ≡ false → o ≡ None
none_is None e = refl
none_is (Some name) e = absurd (true≢false e)

pub label_placed : (labels : List (List ℕ)) (label : List ℕ) → lacking_label labels label ≡ None → Contains labels label
label_placed labels label none = by_place (place_of label labels) refl
  where
    by_place : (o : Option ℕ) → place_of label labels ≡ o → Contains labels label
    by_place None is = absurd (none-some label (sym none ∙ ap (λ (o : Option ℕ). cond (is_some o) None (Some label)) is))
    by_place (Some place) is =
        let at = found_at label labels place is in
        subst (λ (name : List ℕ). Contains labels name) at.1 (Contains-get_or labels place [] at.0)

module _ (func : Func) (rules : Rules func) where
  -- the site of an item
  pub item_site : (block : Block) → Contains func.blocks block → (front rest : List Item) (item : Item) → items_of block ≡ front ++ item ∷ rest → (place : ℕ) × Contains (sites_of func) (site_at place (length front) item) × (label_of func place ≡ block.label)
  item_site block there front rest item items =
      let at = block_place func.blocks block there in
      (at.0, site_here func at.0 block at.1 front rest item items, (block_there func.blocks at.0 block at.1).2)

  -- a label that an item names is a block's
  label_there : (site : Site) → Contains (sites_of func) site → (label : List ℕ) → Contains (parts_of site.what) (Goal label) → (block : Block) × Contains func.blocks block × (block.label ≡ label)
  label_there site there label named =
      let lacks : missing_name func site ≡ None = none_is (missing_name func site) (All-contains (λ (s : Site). lacks_name func s ≡ false) (sites_of func) site rules.named there) in
      map_in (λ (block : Block). block.label) func.blocks label (label_placed (labels_of func) label (lacks_none (values_of func) (labels_of func) (parts_of site.what) (Goal label) lacks named))

  -- the block with a label is found
  pub block_is : (block : Block) → Contains func.blocks block → block_of func block.label ≡ Some block
  block_is block there = found_block func.blocks (same_block func rules.names) block there

  pub block_in : (label : List ℕ) (block : Block) → block_of func label ≡ Some block → Contains func.blocks block × (block.label ≡ label)
  block_in label block is = block_found label func.blocks block is

  abbrev case_goal : Case → Part
  case_goal case = Goal case.to

  abbrev case_to : Case → List ℕ
  case_to case = case.to

  goals_of : (terminator : End) (label : List ℕ) → Contains (targets_of terminator) label → Contains (end_parts terminator) (Goal label)
  goals_of end.RetVoid label there = absurd (no_item label there)
  goals_of (end.Ret width value) label there = absurd (no_item label there)
  goals_of (end.Br to) label there = in_map Goal (to ∷ []) label there
  goals_of (end.CondBr condition on_one on_zero) label there = in_there (Use condition 1) (Goal label) (Goal on_one ∷ Goal on_zero ∷ []) (in_map Goal (on_one ∷ on_zero ∷ []) label there)
  goals_of (end.Switch width value default cases) label there = in_there (Use value width) (Goal label) (Goal default ∷ map case_goal cases) (by_cases (cons_cases default (map case_to cases) label there))
    where
      by_cases : (default ≡ label) ⊎ Contains (map case_to cases) label → Contains (Goal default ∷ map case_goal cases) (Goal label)
      by_cases (inl same) = subst (λ (name : List ℕ). Contains (Goal default ∷ map case_goal cases) (Goal name)) same (in_here (Goal default) (map case_goal cases))
      by_cases (inr later) =
          let found = map_in case_to cases label later in
          in_there (Goal default) (Goal label) (map case_goal cases) (subst (λ (name : List ℕ). Contains (map case_goal cases) (Goal name)) found.2 (in_map case_goal cases found.0 found.1))
  goals_of end.Unreachable label there = absurd (no_item label there)

  -- a target is a block
  pub target_there : (block : Block) → Contains func.blocks block → (label : List ℕ) → Contains (targets_of block.end) label → (to : Block) × Contains func.blocks to × (to.label ≡ label)
  target_there block there label target =
      let front : List Item = map OfPhi block.phis ++ map OfInstr block.body in
      let at = item_site block there front [] (OfEnd block.end) (split (map OfPhi block.phis) (map OfInstr block.body)) in
      label_there (site_at at.0 (length front) (OfEnd block.end)) at.1 label (goals_of block.end label target)
    where
      split : (xs ys : List Item) → xs ++ (ys ++ OfEnd block.end ∷ []) ≡ (xs ++ ys) ++ OfEnd block.end ∷ []
      split xs ys = sym (append_assoc xs ys (OfEnd block.end ∷ []))

  -- ---- the entries of a phi

  module _ (block : Block) (there : Contains func.blocks block) (front rest : List Item) (phi : Phi) (items : items_of block ≡ front ++ OfPhi phi ∷ rest) where
    abbrev froms : List (List ℕ)
    froms = map (λ (entry : PhiEntry). entry.from) phi.entries

    counted : (other : Block) → Contains func.blocks other → times other.label froms ≡ times block.label (targets_of other.end)
    counted other other_there =
        let at = item_site block there front rest (OfPhi phi) items in
        let differs : entries_differ func.blocks (label_of func at.0) phi.entries ≡ false = All-contains (λ (s : Site). differ_at func.blocks s ≡ false) (sites_of func) (site_at at.0 (length front) (OfPhi phi)) rules.entries at.1 in
        let both = and_parts (list_all (has_entries (label_of func at.0) phi.entries) func.blocks) (all_agree phi.entries) (not-false (list_all (has_entries (label_of func at.0) phi.entries) func.blocks && all_agree phi.entries) differs) in
        let here : has_entries (label_of func at.0) phi.entries other ≡ true = all_at (has_entries (label_of func at.0) phi.entries) func.blocks other both.0 other_there in
        eqb-true (times other.label froms) (times (label_of func at.0) (targets_of other.end)) here ∙ ap (λ (label : List ℕ). times label (targets_of other.end)) at.2

    -- a block that leads to the phi's has an entry
    pub entry_for : (from : List ℕ) → GoesTo func from block.label → (entry : PhiEntry) × Contains phi.entries entry × (entry.from ≡ from) × (operand_for from phi ≡ Some entry.value)
    entry_for from (other, other_there, is, target) =
        let some : 0 < times block.label (targets_of other.end) = times_some block.label (targets_of other.end) target in
        entry_found from phi.entries (subst (λ (label : List ℕ). Contains froms label) is (times_in other.label froms (omega (arith, some, counted other other_there))))

    -- and each entry is of one that does
    comes_from : (entry : PhiEntry) → Contains phi.entries entry → GoesTo func entry.from block.label
    comes_from entry among =
        let at = item_site block there front rest (OfPhi phi) items in
        let named : Contains (parts_of (OfPhi phi)) (Goal entry.from) = in_flat (λ (entry : PhiEntry). Use entry.value phi.width ∷ Goal entry.from ∷ []) phi.entries entry (Goal entry.from) among (in_there (Use entry.value phi.width) (Goal entry.from) (Goal entry.from ∷ []) (in_here (Goal entry.from) [])) in
        let other = label_there (site_at at.0 (length front) (OfPhi phi)) at.1 entry.from named in
        let some : 0 < times other.0.label froms = times_some other.0.label froms (subst (λ (label : List ℕ). Contains froms label) (sym other.2) (in_map (λ (entry : PhiEntry). entry.from) phi.entries entry among)) in
        (other.0, other.1, other.2, times_in block.label (targets_of other.0.end) (omega (arith, some, counted other.0 other.1)))

    has_entry : Contains block.phis phi → (entry : PhiEntry) × Contains phi.entries entry
    has_entry among =
        let formed : IsFormedBlock block = All-contains IsFormedBlock func.blocks block rules.formed.blocks there in
        let phi_formed : IsFormedPhi phi = All-contains IsFormedPhi block.phis phi formed.phis among in
        first_of_entries phi.entries phi_formed.1
      where
        first_of_entries : (entries : List PhiEntry) → 1 ≤ length entries → (entry : PhiEntry) × Contains entries entry
        first_of_entries [] some = absurd (omega (arith, some))
        first_of_entries (entry ∷ entries) some = (entry, in_here entry entries)

    -- so it isn't the entry's
    pub not_entry : Contains block.phis phi → block.label ≡ label_of func 0 → ⊥
    not_entry among is =
        let entry = has_entry among in
        let goes = comes_from entry.0 entry.1 in
        let (other, other_there, from, target) = goes in
        let at = block_place func.blocks other other_there in
        let place = block_there func.blocks at.0 other at.1 in
        let reached = rules.reached at.0 place.1 in
        no_return func rules.acyclic reached.0 (label_of func at.0) block.label reached.1 (subst (λ (label : List ℕ). GoesTo func label block.label) (sym (place.2 ∙ from)) goes) (begins reached.0 (label_of func at.0) reached.1)
      where
        begins : (path : List (List ℕ)) (last : List ℕ) → IsPathTo func path last → Contains path block.label
        begins [] last path = absurd path
        begins (first ∷ rest) last path = subst (λ (label : List ℕ). Contains (first ∷ rest) label) (path.0 ∙ sym is) (in_here first rest)
