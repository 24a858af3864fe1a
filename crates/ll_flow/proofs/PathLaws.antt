-- Paths and cycles by places, and by labels.
use Rattle.std.proofs.Common.{◌≡◌, ◌<◌, ℕ, List, [], ◌∷◌, length, map, refl, sym, ◌∙◌, ap, subst, arith}
use Rattle.std.specs.Prelude.{All, ◌↔◌}
use Rattle.std.proofs.lemmas.List.Elements.{All-nil, All-cons, All-contains_itself, All-weaker}
use Rattle.ll_tree.specs.declared.func.Func.{Func}
use Rattle.ll_rules.specs.Items.{labels_of}
use Rattle.name_table.specs.Names.{AreDifferent}
use Rattle.flow_graph.specs.declared.edge.Edge.{Edge}
use Rattle.flow_graph.specs.Paths.{HasEdge}
use Rattle.block_order.specs.Order as order
use Rattle.flow_rules.specs.Paths as places
use Rattle.ll_edges.specs.Graph.{LeadsTo}
use Rattle.ll_flow.specs.Paths.{label_of, GoesTo, GoesOn, IsPathTo, IsReached, AllReached, IsFirstUnreached, Runs, IsClosed, HasNoLoop, IsCycle}
use Rattle.ll_flow.proofs.PlaceLaws.{goes, placed, led, same_label}

abbrev pub AreLeads : Func → List Edge → Type 0
AreLeads func graph = (from to : ℕ) → HasEdge graph from to ↔ LeadsTo (labels_of func) func.blocks from to

abbrev HasEdgeOf : List Edge → Edge → Type 0
HasEdgeOf graph edge = HasEdge graph edge.from edge.to

module _ (func : Func) (graph : List Edge) (edges : AreLeads func graph) where
  abbrev blocks : ℕ
  blocks = length func.blocks

  abbrev pub label : ℕ → List ℕ
  label place = label_of func place

  -- the ends of an edge are blocks
  pub ends : (from to : ℕ) → HasEdge graph from to → (from < blocks) × (to < blocks)
  ends from to edge = let both = goes func from to ((edges from to).0 edge) in (both.1, both.2)

  pub ends_within : All (λ edge. (edge.from < blocks) × (edge.to < blocks)) graph
  ends_within =
      All-weaker (HasEdgeOf graph) (λ (edge : Edge). (edge.from < blocks) × (edge.to < blocks)) (λ edge there. ends edge.from edge.to there) graph (All-contains_itself graph)

  step : (from to : ℕ) → HasEdge graph from to → GoesTo func (label from) (label to)
  step from to edge = (goes func from to ((edges from to).0 edge)).0

  path_labels : (from : ℕ) (rest : List ℕ) (to : ℕ) → places.GoesOn graph from rest to → GoesOn func (label from) (map label rest) (label to)
  path_labels from [] to same = ap label same
  path_labels from (next ∷ rest) to path = (step from next path.0, path_labels next rest to path.1)

  pub is_path_labels : (path : List ℕ) (to : ℕ) → places.IsPathTo graph path to → IsPathTo func (map label path) (label to)
  is_path_labels [] to path = absurd path
  is_path_labels (first ∷ rest) to path = (ap label path.0, path_labels first rest to path.1)

  goes_within : (from : ℕ) (rest : List ℕ) (to : ℕ) → to < blocks → places.GoesOn graph from rest to → All (λ (place : ℕ). place < blocks) (from ∷ rest)
  goes_within from [] to low same = All-cons (λ (place : ℕ). place < blocks) from [] (omega (arith, low, same)) (All-nil (λ (place : ℕ). place < blocks))
  goes_within from (next ∷ rest) to low path =
      All-cons (λ (place : ℕ). place < blocks) from (next ∷ rest) (ends from next path.0).0 (goes_within next rest to low path.1)

  pub path_within : (path : List ℕ) (to : ℕ) → to < blocks → places.IsPathTo graph path to → All (λ (place : ℕ). place < blocks) path
  path_within [] to low path = absurd path
  path_within (first ∷ rest) to low path = goes_within first rest to low path.1

  runs_labels : (from : ℕ) (others : List ℕ) (to : ℕ) → order.Runs graph from others to → Runs func (label from) (map label others) (label to)
  runs_labels from [] to edge = step from to edge
  runs_labels from (next ∷ others) to path = (step from next path.0, runs_labels next others to path.1)

  runs_within : (from : ℕ) (others : List ℕ) (to : ℕ) → order.Runs graph from others to → All (λ (place : ℕ). place < blocks) (from ∷ others)
  runs_within from [] to edge = All-cons (λ (place : ℕ). place < blocks) from [] (ends from to edge).0 (All-nil (λ (place : ℕ). place < blocks))
  runs_within from (next ∷ others) to path =
      All-cons (λ (place : ℕ). place < blocks) from (next ∷ others) (ends from next path.0).0 (runs_within next others to path.1)

  pub cycle_within : (cycle : List ℕ) → order.IsCycle graph cycle → All (λ (place : ℕ). place < blocks) cycle
  cycle_within [] is = absurd is.closed
  cycle_within (first ∷ others) is = runs_within first others first is.closed

  pub cycle_labels : (cycle : List ℕ) → order.IsCycle graph cycle → IsCycle func (map label cycle)
  cycle_labels [] is = absurd is.closed
  cycle_labels (first ∷ others) is = record {
    closed = runs_labels first others first is.closed;
    least = record { first = first; others = others; there = refl; within = runs_within first others first is.closed; least = is.least };
  }

  module _ (different : AreDifferent (labels_of func)) where
    back : (from to : ℕ) (start next : List ℕ) → label from ≡ start → label to ≡ next → from < blocks → to < blocks → GoesTo func start next → HasEdge graph from to
    back from to start next is_from is_to from_low to_low edge =
        (edges from to).1 (led func different from to from_low to_low (subst (λ (name : List ℕ). GoesTo func name (label to)) (sym is_from) (subst (λ (name : List ℕ). GoesTo func start name) (sym is_to) edge)))

    starts : (from : List ℕ) (rest : List (List ℕ)) (to : ℕ) → to < blocks → GoesOn func from rest (label to) → (place : ℕ) × (place < blocks) × (label place ≡ from)
    starts from [] to low same = (to, low, sym same)
    starts from (next ∷ rest) to low path = placed func from next path.0

    path_places : (at : ℕ) (from : List ℕ) (rest : List (List ℕ)) (to : ℕ) → at < blocks → label at ≡ from → to < blocks → GoesOn func from rest (label to) → (path : List ℕ) × (map label path ≡ rest) × places.GoesOn graph at path to
    path_places at from [] to at_low is to_low same = ([], refl, same_label func different at to at_low to_low (is ∙ same))
    path_places at from (next ∷ rest) to at_low is to_low path =
        let start = starts next rest to to_low path.1 in
        let later = path_places start.0 next rest to start.1 start.2 to_low path.1 in
        (start.0 ∷ later.0, (λ i. start.2 i ∷ later.1 i), (back at start.0 from next is start.2 at_low start.1 path.0, later.2))

    pub is_path_places : 0 < blocks → (path : List (List ℕ)) (to : ℕ) → to < blocks → IsPathTo func path (label to) → (by_place : List ℕ) × (map label by_place ≡ path) × places.IsPathTo graph by_place to
    is_path_places entry [] to low path = absurd path
    is_path_places entry (first ∷ rest) to low path =
        let start : label 0 ≡ first = sym path.0 in
        let later = path_places 0 first rest to entry start low path.1 in
        (0 ∷ later.0, (λ i. start i ∷ later.1 i), (refl, later.2))

    run_starts : (from : List ℕ) (others : List (List ℕ)) (to : List ℕ) → Runs func from others to → (place : ℕ) × (place < blocks) × (label place ≡ from)
    run_starts from [] to edge = placed func from to edge
    run_starts from (next ∷ others) to path = placed func from next path.0

    run_places : (at : ℕ) (from : List ℕ) (others : List (List ℕ)) (to : ℕ) → at < blocks → label at ≡ from → to < blocks → Runs func from others (label to) → (path : List ℕ) × order.Runs graph at path to
    run_places at from [] to at_low is to_low edge = ([], back at to from (label to) is refl at_low to_low edge)
    run_places at from (next ∷ others) to at_low is to_low path =
        let start = run_starts next others (label to) path.1 in
        let later = run_places start.0 next others to start.1 start.2 to_low path.1 in
        (start.0 ∷ later.0, (back at start.0 from next is start.2 at_low start.1 path.0, later.1))

    closed_places : (cycle : List (List ℕ)) → IsClosed func cycle → (path : List ℕ) × order.IsClosed graph path
    closed_places [] closed = absurd closed
    closed_places (first ∷ others) closed =
        let start = run_starts first others first closed in
        let later = run_places start.0 first others start.0 start.1 start.2 start.1 (subst (λ (name : List ℕ). Runs func first others name) (sym start.2) closed) in
        (start.0 ∷ later.0, later.1)

    pub no_loop : ((cycle : List ℕ) → ¬ order.IsClosed graph cycle) → HasNoLoop func
    no_loop none cycle closed = let path = closed_places cycle closed in none path.0 path.1

    reached_labels : (place : ℕ) → places.IsReached graph place → IsReached func (label place)
    reached_labels place (path, is) = (map label path, is_path_labels path place is)

    reached_places : 0 < blocks → (place : ℕ) → place < blocks → IsReached func (label place) → places.IsReached graph place
    reached_places entry place low (path, is) =
        let by_place = is_path_places entry path place low is in
        (by_place.0, by_place.2)

    pub all_reached : (count : ℕ) → count ≡ blocks → places.AllReached count graph → AllReached func
    all_reached count is all place low = reached_labels place (all place (omega (arith, is, low)))

    pub first_unreached : 0 < blocks → (count place : ℕ) → count ≡ blocks → places.IsFirstUnreached count graph place → IsFirstUnreached func (label place)
    first_unreached entry count place is first =
        let low : place < blocks = omega (arith, is, first.within) in
        record {
          place = place;
          within = low;
          there = refl;
          unreached = λ reached. first.unreached (reached_places entry place low reached);
          first = λ other below. reached_labels other (first.first other below);
        }
