-- The edges of a function lead from its blocks to their targets.
use Rattle.std.proofs.Common.{◌≡◌, ◌≢◌, ◌<◌, ◌||◌, ℕ, zero, suc, List, [], ◌∷◌, ◌++◌, length, get_or, map, true, false, refl, sym, ◌∙◌, ap, subst, append_assoc, arith}
use Rattle.std.specs.List.{All, AllPairs, Contains, flat_map, list_any}
use Rattle.std.specs.Str.{bytes_eq}
use Rattle.std.proofs.lemmas.Bool.{true≢false}
use Rattle.std.proofs.lemmas.List.{get_or_default}
use Rattle.std.proofs.lemmas.List.Folds.{list_any_at}
use Rattle.std.proofs.lemmas.List.Kept.{AllPairs-filter}
use Rattle.std.proofs.lemmas.Slice.Eq.{bytes_eq-Decides}
use Rattle.flow_graph.specs.declared.edge.Edge.{Edge}
use Rattle.flow_graph.specs.Sorted.{ComesBefore, AreSorted}
use Rattle.ll_tree.specs.declared.func.Func.{Func}
use Rattle.ll_tree.specs.declared.func.Param.{Param}
use Rattle.ll_tree.specs.declared.block.Block.{Block}
use Rattle.ll_rules.specs.Items.{block_values, names_of, labels_of, targets_of}
use Rattle.name_table.specs.Names.{AreDifferent}
use Rattle.name_table.proofs.DifferentLaws.{different-around, different-right}
use Rattle.ll_edges.specs.Graph.{IsBlockAt, LeadsTo}
use Rattle.ll_flow.specs.Paths.{label_of}
use Rattle.ll_flow.proofs.PlaceLaws.{count, found_at, place_is, same_place}
use Rattle.sound_costs.specs.Edges.{between, leads, pairs_of, places_of, edges_of}
use Rattle.sound_costs.proofs.MemberLaws.{later_of, all_of, kept, passes_of, member_of, counted, count_of}
use Rattle.sound_costs.proofs.SortedLaws.{pairs_from, pair_in, pairs_sorted}

-- ---- labels differ

abbrev value_names : Block → List (List ℕ)
value_names block = map (λ (value : List ℕ × ℕ). value.0) (block_values block)

abbrev all_names : List Block → List (List ℕ)
all_names blocks = flat_map (λ (block : Block). block.label ∷ value_names block) blocks

abbrev labels : List Block → List (List ℕ)
labels blocks = map (λ (block : Block). block.label) blocks

without_values : (front : List (List ℕ)) (blocks : List Block) → AreDifferent (front ++ all_names blocks) → AreDifferent (front ++ labels blocks)
without_values front [] d = d
without_values front (block ∷ blocks) d =
    let grouped : AreDifferent ((front ++ block.label ∷ []) ++ (value_names block ++ all_names blocks)) = subst AreDifferent (sym (append_assoc front (block.label ∷ []) (value_names block ++ all_names blocks))) d in
    let later : AreDifferent ((front ++ block.label ∷ []) ++ labels blocks) = without_values (front ++ block.label ∷ []) blocks (different-around (front ++ block.label ∷ []) (value_names block) (all_names blocks) grouped) in
    subst AreDifferent (append_assoc front (block.label ∷ []) (labels blocks)) later

pub labels_differ : (func : Func) → AreDifferent (names_of func) → AreDifferent (labels_of func)
labels_differ func differ =
    let names = map (λ (param : Param). param.name) func.params in
    different-right names (labels func.blocks) (without_values names func.blocks differ)

pub labels_apart : (func : Func) → AreDifferent (labels_of func) → AllPairs (λ label other. label ≢ other) (labels_of func)
labels_apart func different i j d below within same =
    let names = labels_of func in
    let first : i < length (labels_of func) = omega (arith, below, within) in
    let equal : get_or (labels_of func) i [] ≡ get_or (labels_of func) j [] = get_or_default names i [] d first ∙ same ∙ get_or_default names j d [] within in
    let one : i ≡ j = same_place (labels_of func) different i j first within equal in
    omega (arith, one, below)

-- ---- targets of blocks

named_in : (name : List ℕ) (targets : List (List ℕ)) → list_any (bytes_eq name) targets ≡ true → Contains targets name
named_in name [] passes = absurd (true≢false (sym passes))
named_in name (target ∷ targets) passes =
    (elim (bytes_eq name target) as (λ b. bytes_eq name target ≡ b → (b || list_any (bytes_eq name) targets) ≡ true → Contains (target ∷ targets) name) [
      | true ↦ λ test e. (0, omega arith, sym ((bytes_eq-Decides name target).0 test))
      | false ↦ λ test e. later_of target name targets (named_in name targets e)
    ]) refl passes

block_at : (blocks : List Block) (place : ℕ) → place < length blocks → (block : Block) × IsBlockAt blocks place block × (get_or (map (λ (block : Block). targets_of block.end) blocks) place [] ≡ targets_of block.end)
block_at [] place within = absurd (omega (arith, within))
block_at (block ∷ blocks) zero within = (block, refl, refl)
block_at (block ∷ blocks) (suc place) within = block_at blocks place (omega (arith, within))

targets_there : (blocks : List Block) (place : ℕ) (block : Block) → IsBlockAt blocks place block → (place < length blocks) × (get_or (map (λ (block : Block). targets_of block.end) blocks) place [] ≡ targets_of block.end)
targets_there [] place block there = absurd there
targets_there (first ∷ blocks) zero block there = (omega arith, ap (λ (block : Block). targets_of block.end) there)
targets_there (first ∷ blocks) (suc place) block there =
    let later = targets_there blocks place block there in
    (omega (arith, later.0), later.1)

-- ---- the edges

module _ (func : Func) where
  pub edges_sorted : AreSorted (edges_of func)
  edges_sorted = AllPairs-filter ComesBefore (leads func) (pairs_of (places_of func) (places_of func)) (pairs_sorted 0 (length func.blocks) 0 (length func.blocks))

  pub edge_within : (edge : Edge) → Contains (edges_of func) edge → (edge.from < length func.blocks) × (edge.to < length func.blocks)
  edge_within edge there =
      let pair = pairs_from (places_of func) (places_of func) edge (member_of (leads func) (pairs_of (places_of func) (places_of func)) edge there) in
      let first = count_of 0 (length func.blocks) edge.from pair.0 in
      let last = count_of 0 (length func.blocks) edge.to pair.1 in
      (omega (arith, first.1), omega (arith, last.1))

  pub edges_within : All (λ edge. (edge.from < length (labels_of func)) × (edge.to < length (labels_of func))) (edges_of func)
  edges_within = all_of (λ (edge : Edge). (edge.from < length (labels_of func)) × (edge.to < length (labels_of func))) (edges_of func) (λ edge there.
      let within = edge_within edge there in
      (omega (arith, within.0, count func), omega (arith, within.1, count func)))

  pub edge_there : (from to : ℕ) → LeadsTo (labels_of func) func.blocks from to → Contains (edges_of func) (between from to)
  edge_there from to (block, there, (target, contains, place)) =
      let at = targets_there func.blocks from block there in
      let end = found_at target (labels_of func) to place in
      let low : to < length func.blocks = omega (arith, end.0, count func) in
      let pair = pair_in (places_of func) (places_of func) from to (counted 0 (length func.blocks) from (omega arith) (omega (arith, at.0))) (counted 0 (length func.blocks) to (omega arith) (omega (arith, low))) in
      let test : bytes_eq (label_of func to) (get_or (targets_of block.end) contains.0 target) ≡ true = (bytes_eq-Decides (label_of func to) (get_or (targets_of block.end) contains.0 target)).1 (end.1 ∙ sym contains.2) in
      let passes : list_any (bytes_eq (label_of func to)) (targets_of block.end) ≡ true = list_any_at (bytes_eq (label_of func to)) (targets_of block.end) contains.0 target contains.1 test in
      kept (leads func) (pairs_of (places_of func) (places_of func)) (between from to) pair (ap (list_any (bytes_eq (label_of func to))) at.1 ∙ passes)

  pub edge_leads : AreDifferent (labels_of func) → (edge : Edge) → Contains (edges_of func) edge → LeadsTo (labels_of func) func.blocks edge.from edge.to
  edge_leads different edge there =
      let within = edge_within edge there in
      let at = block_at func.blocks edge.from within.0 in
      let passes : leads func edge ≡ true = passes_of (leads func) (pairs_of (places_of func) (places_of func)) edge there in
      let named : Contains (targets_of at.0.end) (label_of func edge.to) = named_in (label_of func edge.to) (targets_of at.0.end) (ap (list_any (bytes_eq (label_of func edge.to))) (sym at.2) ∙ passes) in
      (at.0, at.1, (label_of func edge.to, named, place_is (labels_of func) different edge.to (omega (arith, within.1, count func))))
