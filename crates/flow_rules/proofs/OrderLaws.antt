-- Places and positions of a kept order, and the edges by both.
use Rattle.std.proofs.Common.{◌≡◌, ◌≢◌, ◌<◌, ⊎_elim, ℕ, List, length, get_or, take, map, sym, ◌∙◌, ap, arith, subst, length-take-le}
use Rattle.std.specs.List.{All, AllPairs, Contains}
use Rattle.std.proofs.lemmas.List.{get_or-take, get_or-map, get_or_default, length-map}
use Rattle.std.proofs.lemmas.List.Elements.{All-contains, All-contains_itself}
use Rattle.std.proofs.lemmas.Bool.{cases_eq, cases_lt}
use Rattle.flow_graph.specs.declared.edge.Edge.{Edge}
use Rattle.flow_graph.specs.Paths.{HasEdge, IsForward}
use Rattle.flow_graph.specs.Sorted.{AreSorted, AreSame}
use Rattle.block_order.specs.Order.{IsKeptOrder}
use Rattle.flow_rules.specs.Flow.{Flow, AreEdges, IsFlow}
use Rattle.flow_rules.specs.Stored.{ArePositions, renumbered}

abbrev pub EndsWithin : ℕ → Edge → Type 0
EndsWithin blocks edge = (edge.from < blocks) × (edge.to < blocks)

module _ (blocks : ℕ) (graph : List Edge) (order : List ℕ) (kept : IsKeptOrder blocks graph order) where
  kept_apart : (i j : ℕ) → i < j → j < length order → get_or order i 0 ≢ get_or order j 0
  kept_apart i j below low same =
      let size : length (take j order) ≡ j = length-take-le j order (omega (arith, low)) in
      let here : get_or (take j order) i (get_or order j 0) ≡ get_or order j 0 = get_or-take j order i (get_or order j 0) below ∙ get_or_default order i (get_or order j 0) 0 (omega (arith, below, low)) ∙ same in
      (kept.next j low).ready.0 (i, omega (arith, size, below), here)

  pub places_within : All (λ place. place < blocks) order
  places_within k d low = subst (λ (place : ℕ). place < blocks) (get_or_default order k 0 d low) (kept.next k low).within

  pub places_apart : AllPairs (λ place other. place ≢ other) order
  places_apart i j d below low same =
      kept_apart i j below low (get_or_default order i 0 d (omega (arith, below, low)) ∙ same ∙ get_or_default order j d 0 low)

  -- an edge leads to a later position
  pub leads_forward : (from to : ℕ) → from < length order → to < length order → HasEdge graph (get_or order from 0) (get_or order to 0) → from < to
  leads_forward from to from_low to_low edge =
      let found = (kept.next to to_low).ready.1 (get_or order from 0) edge in
      let size : length (take to order) ≡ to = length-take-le to order (omega (arith, to_low)) in
      let earlier : found.0 < to = omega (arith, found.1, size) in
      let is : get_or order found.0 0 ≡ get_or order from 0 = get_or_default order found.0 0 (get_or order from 0) (omega (arith, earlier, to_low)) ∙ sym (get_or-take to order found.0 (get_or order from 0) earlier) ∙ found.2 in
      ⊎_elim (λ before. before) (λ past. ⊎_elim (λ same. absurd (kept_apart found.0 from (omega (arith, earlier, past)) from_low is)) (λ later. absurd (kept_apart found.0 from (omega (arith, earlier, past)) from_low is)) (cases_eq from to)) (cases_lt from to)

-- a place has the position at which the order has it
module _ (blocks : ℕ) (graph : List Edge) (order positions : List ℕ) (kept : IsKeptOrder blocks graph order) (placed : ArePositions order positions) where
  pub position_of : (place : ℕ) → place < blocks → (get_or positions place 0 < length order) × (get_or order (get_or positions place 0) 0 ≡ place)
  position_of place within =
      let found = kept.whole place within in
      let here : get_or order found.0 0 ≡ place = get_or_default order found.0 0 place found.1 ∙ found.2 in
      let at : get_or positions place 0 ≡ found.0 = subst (λ (block : ℕ). get_or positions block 0 ≡ found.0) here (placed.there found.0 found.1) in
      (rw at found.1, rw at here)

-- an edge of a renumbered list comes from one of the list
module _ (positions : List ℕ) (graph : List Edge) where
  came_from : (from to : ℕ) → HasEdge (map (renumbered positions) graph) from to → (edge : Edge) × Contains graph edge × (get_or positions edge.from 0 ≡ from) × (get_or positions edge.to 0 ≡ to)
  came_from from to (k, low, is) =
      let first : Edge = record { from = 0; to = 0 } in
      let edge : Edge = get_or graph k first in
      let low_there : k < length graph = omega (arith, low, length-map graph (renumbered positions)) in
      let same : renumbered positions edge ≡ record { from = from; to = to } = sym (get_or-map (renumbered positions) graph k first (record { from = from; to = to }) low_there) ∙ is in
      (edge, All-contains_itself graph k first low_there, ap (λ (e : Edge). e.from) same, ap (λ (e : Edge). e.to) same)

  went_to : (from to : ℕ) → HasEdge graph from to → HasEdge (map (renumbered positions) graph) (get_or positions from 0) (get_or positions to 0)
  went_to from to (k, low, is) =
      let edge : Edge = record { from = from; to = to } in
      (k, omega (arith, low, length-map graph (renumbered positions)), get_or-map (renumbered positions) graph k edge (renumbered positions edge) low ∙ ap (renumbered positions) is)

module _ (blocks : ℕ) (graph : List Edge) (order positions : List ℕ) (edges : List Edge) (within : All (EndsWithin blocks) graph) (kept : IsKeptOrder blocks graph order) (placed : ArePositions order positions) (same : AreSame (map (renumbered positions) graph) edges) where
  to_graph : (from to : ℕ) → HasEdge edges from to → (from < length order) × (to < length order) × HasEdge graph (get_or order from 0) (get_or order to 0)
  to_graph from to edge =
      let found = came_from positions graph from to ((same from to).1 edge) in
      let ends = All-contains (EndsWithin blocks) graph found.0 within found.1 in
      let from_at = position_of blocks graph order positions kept placed found.0.from ends.0 in
      let to_at = position_of blocks graph order positions kept placed found.0.to ends.1 in
      let from_low : from < length order = subst (λ (n : ℕ). n < length order) found.2 from_at.0 in
      let to_low : to < length order = subst (λ (n : ℕ). n < length order) found.3 to_at.0 in
      let from_is : get_or order from 0 ≡ found.0.from = subst (λ (n : ℕ). get_or order n 0 ≡ found.0.from) found.2 from_at.1 in
      let to_is : get_or order to 0 ≡ found.0.to = subst (λ (n : ℕ). get_or order n 0 ≡ found.0.to) found.3 to_at.1 in
      (from_low, to_low, rw (from_is, to_is) found.1)

  from_graph : (from to : ℕ) → (from < length order) × (to < length order) × HasEdge graph (get_or order from 0) (get_or order to 0) → HasEdge edges from to
  from_graph from to (from_low, to_low, edge) =
      let there = went_to positions graph (get_or order from 0) (get_or order to 0) edge in
      (same from to).0 (subst (λ (n : ℕ). HasEdge (map (renumbered positions) graph) from n) (placed.there to to_low) (subst (λ (n : ℕ). HasEdge (map (renumbered positions) graph) n (get_or positions (get_or order to 0) 0)) (placed.there from from_low) there))

  pub edges_laid : AreSorted edges → AreEdges graph order edges
  edges_laid sorted = record { sorted = sorted; same = λ from to. (to_graph from to, from_graph from to) }

-- the edges by positions lead forward
pub flow_forward : (blocks : ℕ) (flow : Flow) → IsFlow blocks flow → IsForward (length flow.order) flow.edges
flow_forward blocks flow is =
    let ends : (k : ℕ) (d : Edge) → k < length flow.edges → ((get_or flow.edges k d).from < length flow.order) × ((get_or flow.edges k d).to < length flow.order) × HasEdge flow.graph (get_or flow.order (get_or flow.edges k d).from 0) (get_or flow.order (get_or flow.edges k d).to 0) = λ k d low. (is.edges.same (get_or flow.edges k d).from (get_or flow.edges k d).to).0 (All-contains_itself flow.edges k d low) in
    record {
      later = λ k d low. leads_forward blocks flow.graph flow.order is.kept (get_or flow.edges k d).from (get_or flow.edges k d).to (ends k d low).0 (ends k d low).1 (ends k d low).2;
      within = λ k d low. (ends k d low).1;
      sorted = λ i j d below low. ⊎_elim (λ less. omega (arith, less)) (λ equal. omega (arith, equal.0)) (is.edges.sorted i j d below low);
    }
