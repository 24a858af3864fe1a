-- Costs by places are those by labels.
use Rattle.std.proofs.Common.{◌≡◌, ◌<◌, inl, inr, ◌&&◌, ℕ, zero, suc, List, [], ◌∷◌, length, get_or, map, Option, Some, Bool, true, false, cond, refl, sym, ◌∙◌, ap, subst, arith, eqb}
use Rattle.std.specs.Prelude.{zip}
use Rattle.std.specs.Option.{unwrap_or}
use Rattle.std.specs.List.{Contains}
use Rattle.std.specs.Map.{lookup}
use Rattle.std.specs.Str.{bytes_eq}
use Rattle.std.proofs.lemmas.Bool.{true≢false}
use Rattle.std.proofs.lemmas.Bool.Decides.{Decides-eqb}
use Rattle.std.proofs.lemmas.List.{length-map, get_or-map, get_or_default}
use Rattle.std.proofs.lemmas.Slice.Eq.{bytes_eq-Decides}
use Rattle.flow_graph.specs.declared.edge.Edge.{Edge}
use Rattle.flow_graph.specs.Sorted.{ComesBefore, AreSorted}
use Rattle.ll_tree.specs.declared.func.Func.{Func}
use Rattle.ll_rules.specs.Items.{labels_of}
use Rattle.name_table.specs.Names.{AreDifferent}
use Rattle.ll_flow.specs.Paths.{label_of}
use Rattle.ll_flow.proofs.PlaceLaws.{count, same_label}
use Rattle.cost_table.specs.Entries.{edge_at}
use Rattle.ir_runs.specs.Costs.{end_labels}
use Rattle.sound_costs.specs.Edges.{between, edges_of}
use Rattle.sound_costs.specs.Costs.{FuncCosts, goes_between, edge_cost, AreCostsOf, costs_by_label}
use Rattle.sound_costs.proofs.EdgeLaws.{edge_within, edges_sorted}

-- ---- what stands beside the first key that passes

pub beside : {K : Type 0} (test : K → Bool) (keys : List K) (values : List ℕ) (at : ℕ) (d : K) → at < length keys → length values ≡ length keys → test (get_or keys at d) ≡ true → ((other : ℕ) → other < at → test (get_or keys other d) ≡ false) → lookup test (zip keys values) ≡ Some (get_or values at 0)
beside test [] values at d within size passes none = absurd (omega (arith, within))
beside test (key ∷ keys) [] at d within size passes none = absurd (omega (arith, size))
beside test (key ∷ keys) (value ∷ values) zero d within size passes none = ap (λ (b : Bool). cond {A = Option ℕ} b (Some value) (lookup test (zip keys values))) passes
beside test (key ∷ keys) (value ∷ values) (suc at) d within size passes none =
    ap (λ (b : Bool). cond {A = Option ℕ} b (Some value) (lookup test (zip keys values))) (none 0 (omega arith))
    ∙ beside test keys values at d (omega (arith, within)) (omega (arith, size)) passes (λ other low. none (suc other) (omega (arith, low)))

fails_of : (b : Bool) → (b ≡ true → ⊥) → b ≡ false
fails_of true fails = absurd (fails refl)
fails_of false fails = refl

both_true : (a b : Bool) → a ≡ true → b ≡ true → (a && b) ≡ true
both_true a b one two = rw (one, two) refl

parts_true : (a b : Bool) → (a && b) ≡ true → (a ≡ true) × (b ≡ true)
parts_true true true both = (refl, refl)
parts_true true false both = absurd (true≢false (sym both))
parts_true false b both = absurd (true≢false (sym both))

-- ---- blocks

module _ (func : Func) (different : AreDifferent (labels_of func)) where
  pub block_by_label : (it : FuncCosts) → AreCostsOf func it → (block : ℕ) → block < length it.lists.blocks → get_or it.lists.blocks block 0 ≡ (costs_by_label func it).block (label_of func block)
  block_by_label it costs block low =
      let within : block < length func.blocks = omega (arith, low, costs.blocks) in
      let found : lookup (bytes_eq (label_of func block)) (zip (labels_of func) it.lists.blocks) ≡ Some (get_or it.lists.blocks block 0) =
      beside (bytes_eq (label_of func block)) (labels_of func) it.lists.blocks block [] (omega (arith, within, count func)) (omega (arith, costs.blocks, count func))
      ((bytes_eq-Decides (label_of func block) (label_of func block)).1 refl)
      (λ other before. fails_of (bytes_eq (label_of func block) (label_of func other)) (λ test.
      let one : block ≡ other = same_label func different block other within (omega (arith, before, within)) ((bytes_eq-Decides (label_of func block) (label_of func other)).0 test) in
      omega (arith, one, before))) in
      sym (ap (λ (found : Option ℕ). unwrap_or found 0) found)

-- ---- edges

-- none of sorted edges stands twice
no_other : (edges : List Edge) → AreSorted edges → (edge : Edge) (at other : ℕ) → other < at → at < length edges → get_or edges at (between 0 0) ≡ edge → get_or edges other (between 0 0) ≡ edge → ⊥
no_other edges sorted edge at other before within is also = apart edge (subst (λ (e : Edge). ComesBefore e edge) also (subst (λ (e : Edge). ComesBefore (get_or edges other (between 0 0)) e) is (sorted other at (between 0 0) before within)))
  where
    apart : (edge : Edge) → ComesBefore edge edge → ⊥
    apart edge (inl less) = omega (arith, less)
    apart edge (inr more) = omega (arith, more.1)

between_is : (from to : ℕ) (edge : Edge) → goes_between from to edge ≡ true → edge ≡ between from to
between_is from to edge test =
    let both = parts_true (eqb edge.from from) (eqb edge.to to) test in
    let start : edge.from ≡ from = (Decides-eqb edge.from from).0 both.0 in
    let end : edge.to ≡ to = (Decides-eqb edge.to to).0 both.1 in
    ap (λ (n : ℕ). between n edge.to) start ∙ ap (λ (n : ℕ). between from n) end

goes : (from to : ℕ) (edge : Edge) → edge ≡ between from to → goes_between from to edge ≡ true
goes from to edge is = subst (λ (e : Edge). goes_between from to e ≡ true) (sym is) (both_true (eqb from from) (eqb to to) ((Decides-eqb from from).1 refl) ((Decides-eqb to to).1 refl))

pub edge_cost_at : (edges : List Edge) (costs : List ℕ) (from to at : ℕ) → AreSorted edges → length costs ≡ length edges → at < length edges → get_or edges at (between 0 0) ≡ between from to → lookup (goes_between from to) (zip edges costs) ≡ Some (get_or costs at 0)
edge_cost_at edges costs from to at sorted size within is =
    beside (goes_between from to) edges costs at (between 0 0) within size (goes from to (get_or edges at (between 0 0)) is)
    (λ other before. fails_of (goes_between from to (get_or edges other (between 0 0))) (λ test. no_other edges sorted (between from to) at other before within is (between_is from to (get_or edges other (between 0 0)) test)))

-- the cost beside an edge that was found
pub cost_beside : (it : FuncCosts) → AreSorted it.edges → length it.lists.edges ≡ length it.edges → (shown : List Edge) → shown ≡ it.edges → (from to at : ℕ)
    → (at < length shown) × ((edge_at shown at).from ≡ from) × ((edge_at shown at).to ≡ to) → get_or it.lists.edges at 0 ≡ edge_cost it from to
cost_beside it sorted one_each shown shows from to at (within, starts, ends) =
    let low : at < length it.edges = subst (λ (edges : List Edge). at < length edges) shows within in
    let found : get_or shown at (between 0 0) ≡ between from to = ap (λ (n : ℕ). between n (edge_at shown at).to) starts ∙ ap (λ (n : ℕ). between from n) ends in
    let stands : get_or it.edges at (between 0 0) ≡ between from to = subst (λ (edges : List Edge). get_or edges at (between 0 0) ≡ between from to) shows found in
    sym (ap (λ (found : Option ℕ). unwrap_or found 0) (edge_cost_at it.edges it.lists.edges from to at sorted one_each low stands))

abbrev is_labelled : List ℕ → List ℕ → List ℕ × List ℕ → Bool
is_labelled from to ends = bytes_eq from ends.0 && bytes_eq to ends.1

module _ (func : Func) (different : AreDifferent (labels_of func)) where
  labelled : (from to : ℕ) → is_labelled (label_of func from) (label_of func to) (end_labels (labels_of func) (between from to)) ≡ true
  labelled from to =
      both_true (bytes_eq (label_of func from) (label_of func from)) (bytes_eq (label_of func to) (label_of func to))
      ((bytes_eq-Decides (label_of func from) (label_of func from)).1 refl) ((bytes_eq-Decides (label_of func to) (label_of func to)).1 refl)

  labelled_is : (from to : ℕ) (edge : Edge) → from < length func.blocks → to < length func.blocks → edge.from < length func.blocks → edge.to < length func.blocks → is_labelled (label_of func from) (label_of func to) (end_labels (labels_of func) edge) ≡ true → edge ≡ between from to
  labelled_is from to edge from_low to_low edge_from edge_to test =
      let both = parts_true (bytes_eq (label_of func from) (label_of func edge.from)) (bytes_eq (label_of func to) (label_of func edge.to)) test in
      let start : from ≡ edge.from = same_label func different from edge.from from_low edge_from ((bytes_eq-Decides (label_of func from) (label_of func edge.from)).0 both.0) in
      let end : to ≡ edge.to = same_label func different to edge.to to_low edge_to ((bytes_eq-Decides (label_of func to) (label_of func edge.to)).0 both.1) in
      ap (λ (n : ℕ). between n edge.to) (sym start) ∙ ap (λ (n : ℕ). between from n) (sym end)

  label_cost_at : (costs : List ℕ) (from to at : ℕ) → length costs ≡ length (edges_of func) → at < length (edges_of func) → get_or (edges_of func) at (between 0 0) ≡ between from to → lookup (is_labelled (label_of func from) (label_of func to)) (zip (map (end_labels (labels_of func)) (edges_of func)) costs) ≡ Some (get_or costs at 0)
  label_cost_at costs from to at size within is =
      let here : (from < length func.blocks) × (to < length func.blocks) = edge_within func (between from to) (at, within, get_or_default (edges_of func) at (between from to) (between 0 0) within ∙ is) in
      beside (is_labelled (label_of func from) (label_of func to)) (map (end_labels (labels_of func)) (edges_of func)) costs at ([], [])
      (omega (arith, within, length-map (edges_of func) (end_labels (labels_of func))))
      (omega (arith, size, length-map (edges_of func) (end_labels (labels_of func))))
      (ap (is_labelled (label_of func from) (label_of func to)) (get_or-map (end_labels (labels_of func)) (edges_of func) at (between 0 0) ([], []) within ∙ ap (end_labels (labels_of func)) is) ∙ labelled from to)
      (λ other before.
      let low : other < length (edges_of func) = omega (arith, before, within) in
      let edge = get_or (edges_of func) other (between 0 0) in
      let there = edge_within func edge (other, low, get_or_default (edges_of func) other edge (between 0 0) low) in
      ap (is_labelled (label_of func from) (label_of func to)) (get_or-map (end_labels (labels_of func)) (edges_of func) other (between 0 0) ([], []) low)
      ∙ fails_of (is_labelled (label_of func from) (label_of func to) (end_labels (labels_of func) edge)) (λ test. no_other (edges_of func) (edges_sorted func) (between from to) at other before within is (labelled_is from to edge here.0 here.1 there.0 there.1 test)))

  pub edge_by_label : (it : FuncCosts) → AreCostsOf func it → (from to : ℕ) → Contains it.edges (between from to) → edge_cost it from to ≡ (costs_by_label func it).edge (label_of func from) (label_of func to)
  edge_by_label it costs from to there =
      let (at, within, is) = subst (λ (list : List Edge). Contains list (between from to)) costs.edges there in
      let size : length it.lists.edges ≡ length (edges_of func) = costs.one_each ∙ ap length costs.edges in
      let stands : get_or (edges_of func) at (between 0 0) ≡ between from to = get_or_default (edges_of func) at (between 0 0) (between from to) within ∙ is in
      let place : lookup (goes_between from to) (zip it.edges it.lists.edges) ≡ Some (get_or it.lists.edges at 0) =
      ap (λ (list : List Edge). lookup (goes_between from to) (zip list it.lists.edges)) costs.edges ∙ edge_cost_at (edges_of func) it.lists.edges from to at (edges_sorted func) size within stands in
      ap (λ (found : Option ℕ). unwrap_or found 0) (place ∙ sym (label_cost_at it.lists.edges from to at size within stands))
