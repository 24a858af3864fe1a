-- A graph with a kept order has no cycle.
use Rattle.std.proofs.Common.{◌≡◌, ◌<◌, ℕ, zero, suc, List, [], ◌∷◌, length, get_or, take, sym, ◌∙◌, arith, subst, length-take-le}
use Rattle.std.specs.List.{All, Contains}
use Rattle.std.proofs.lemmas.List.{get_or-take, get_or_default}
use Rattle.std.proofs.lemmas.List.Elements.{All-contains}
use Rattle.flow_graph.specs.declared.edge.Edge.{Edge}
use Rattle.flow_graph.specs.Paths.{HasEdge}
use Rattle.block_order.specs.Order.{Runs, IsClosed, IsKeptOrder}
use Rattle.block_order.proofs.TakingLaws.{IsWithin}

-- a block stands at a place of the order that is below a bound
record StandsBelow (order : List ℕ) (bound block : ℕ) : Type 0 where
  place : ℕ
  below : place < bound
  within : place < length order
  is : get_or order place 0 ≡ block

below_from_take : (order : List ℕ) (k block : ℕ) → k < length order → Contains (take k order) block → StandsBelow order k block
below_from_take order k block low contains =
    let size : length (take k order) ≡ k = length-take-le k order (omega (arith, low)) in
    let place : contains.0 < k = omega (arith, contains.1, size) in
    record {
      place = contains.0;
      below = place;
      within = omega (arith, place, low);
      is = get_or_default order contains.0 0 block (omega (arith, place, low)) ∙ sym (get_or-take k order contains.0 block place) ∙ contains.2;
    }

module _ (blocks : ℕ) (edges : List Edge) (order : List ℕ) (kept : IsKeptOrder blocks edges order) where
  -- the begin of edges stands before their end
  stands_before : (from : ℕ) (others : List ℕ) (to k : ℕ) → k < length order → get_or order k 0 ≡ to → Runs edges from others to → StandsBelow order k from
  stands_before from [] to k low is edge =
      below_from_take order k from low ((kept.next k low).ready.1 from (subst (λ (block : ℕ). HasEdge edges from block) (sym is) edge))
  stands_before from (next ∷ others) to k low is runs =
      let mid = stands_before next others to k low is runs.1 in
      let first = below_from_take order mid.place from mid.within ((kept.next mid.place mid.within).ready.1 from (subst (λ (block : ℕ). HasEdge edges from block) (sym mid.is) runs.0)) in
      record { place = first.place; below = omega (arith, first.below, mid.below); within = first.within; is = first.is }

  never : (first : ℕ) (others : List ℕ) (bound : ℕ) → StandsBelow order bound first → Runs edges first others first → ⊥
  never first others zero stands runs = omega (arith, stands.below)
  never first others (suc bound) stands runs =
      let earlier = stands_before first others first stands.place stands.within stands.is runs in
      never first others bound (record { place = earlier.place; below = omega (arith, earlier.below, stands.below); within = earlier.within; is = earlier.is }) runs

-- the first block of edges is one of the graph
begins_within : (blocks : ℕ) (edges : List Edge) (from : ℕ) (others : List ℕ) (to : ℕ) → All (IsWithin blocks) edges → Runs edges from others to → from < blocks
begins_within blocks edges from [] to within edge = (All-contains (IsWithin blocks) edges (record { from = from; to = to }) within edge).0
begins_within blocks edges from (next ∷ others) to within runs = (All-contains (IsWithin blocks) edges (record { from = from; to = next }) within runs.0).0

pub no_cycle : (blocks : ℕ) (edges : List Edge) (order : List ℕ) → All (IsWithin blocks) edges → IsKeptOrder blocks edges order → (cycle : List ℕ) → IsClosed edges cycle → ⊥
no_cycle blocks edges order within kept [] closed = closed
no_cycle blocks edges order within kept (first ∷ others) closed =
    let place = kept.whole first (begins_within blocks edges first others first within closed) in
    never blocks edges order kept first others (length order) (record { place = place.0; below = place.1; within = place.1; is = get_or_default order place.0 0 first place.1 ∙ place.2 }) closed
