-- What a path spends in all blocks is the cost of its labels.
use Rattle.std.proofs.Common.{◌≡◌, ◌<◌, ◌+◌, ℕ, List, [], ◌∷◌, length, map, cond, ltb, leb, ◌&&◌, sym, ◌∙◌, subst, arith}
use Rattle.std.specs.Prelude.{sum_by, zip}
use Rattle.std.proofs.lemmas.Bool.Decides.{nat_tests}
use Rattle.std.proofs.lemmas.List.Sums.{sum_by-cons}
use Rattle.flow_graph.specs.declared.edge.Edge.{Edge}
use Rattle.flow_graph.specs.Paths.{HasEdge}
use Rattle.block_order.specs.Walk.{IsChain}
use Rattle.flow_rules.proofs.OrderLaws.{places_within}
use Rattle.ll_verifier.specs.Sound.{SoundFunc, IsSound}
use Rattle.ir_runs.specs.Costs.{LabelCosts, path_cost}
use Rattle.sound_costs.specs.Costs.{FuncCosts, AreCostsOf, costs_by_label}
use Rattle.sound_costs.proofs.CostLaws.{block_by_label, edge_by_label}
use Rattle.sound_costs.proofs.EdgeLaws.{labels_differ, edge_there}
use Rattle.portion_cuts.specs.Paths.{place_at, label_at, IsPath, costs_at, is_in, spends}
use Rattle.portion_cuts.specs.Portions.{whole}

everywhere : (n at cost : ℕ) → at < n → cond (leb 0 at && ltb at n) cost 0 ≡ cost
everywhere n at cost low = grind (arith, nat_tests)

-- the cost of a path that goes on
cost_on : (costs : LabelCosts) (first next : List ℕ) (rest : List (List ℕ)) → path_cost costs (first ∷ next ∷ rest) ≡ (costs.block first + costs.edge first next) + path_cost costs (next ∷ rest)
cost_on costs first next rest =
    let blocks : sum_by costs.block (first ∷ next ∷ rest) ≡ costs.block first + sum_by costs.block (next ∷ rest) = sum_by-cons costs.block first (next ∷ rest) in
    let edges : sum_by (λ (ends : List ℕ × List ℕ). costs.edge ends.0 ends.1) ((first, next) ∷ zip (next ∷ rest) rest) ≡ costs.edge first next + sum_by (λ (ends : List ℕ × List ℕ). costs.edge ends.0 ends.1) (zip (next ∷ rest) rest) =
    sum_by-cons (λ (ends : List ℕ × List ℕ). costs.edge ends.0 ends.1) (first, next) (zip (next ∷ rest) rest) in
    omega (arith, blocks, edges)

module _ (it : SoundFunc) (sound : IsSound it) where
  -- the ends of an edge are positions
  pub edge_within : (from to : ℕ) → HasEdge it.flow.edges from to → (from < length it.flow.order) × (to < length it.flow.order)
  edge_within from to there = let ends = (sound.flow.flow.edges.same from to).0 there in (ends.0, ends.1)

  pub place_within : (at : ℕ) → at < length it.flow.order → place_at it at < length it.func.blocks
  place_within at low = places_within (length it.func.blocks) it.flow.graph it.flow.order sound.flow.flow.kept at 0 low

  pub edge_costed : (costs : FuncCosts) → AreCostsOf it.func costs → (from to : ℕ) → HasEdge it.flow.edges from to → HasEdge costs.edges (place_at it from) (place_at it to)
  edge_costed costs are from to there =
      let ends = (sound.flow.flow.edges.same from to).0 there in
      let led = (sound.flow.edges (place_at it from) (place_at it to)).0 ends.2 in
      subst (λ (edges : List Edge). HasEdge edges (place_at it from) (place_at it to)) (sym are.edges) (edge_there it.func (place_at it from) (place_at it to) led)

  module _ (costs : FuncCosts) (are : AreCostsOf it.func costs) where
    block_is : (at : ℕ) → at < length it.flow.order → (costs_at it costs).block at ≡ (costs_by_label it.func costs).block (label_at it at)
    block_is at low = block_by_label it.func (labels_differ it.func sound.rules.names) costs are (place_at it at) (omega (arith, are.blocks, place_within at low))

    edge_is : (from to : ℕ) → HasEdge it.flow.edges from to → (costs_at it costs).edge from to ≡ (costs_by_label it.func costs).edge (label_at it from) (label_at it to)
    edge_is from to there = edge_by_label it.func (labels_differ it.func sound.rules.names) costs are (place_at it from) (place_at it to) (edge_costed costs are from to there)

    chain_cost : (at : ℕ) (rest : List ℕ) → at < length it.flow.order → IsChain it.flow.edges at rest → spends (costs_at it costs) (whole it) (at ∷ rest) ≡ path_cost (costs_by_label it.func costs) (map (label_at it) (at ∷ rest))
    chain_cost at [] low chain =
        everywhere (length it.flow.order) at ((costs_at it costs).block at) low ∙ block_is at low ∙ omega arith
    chain_cost at (next ∷ rest) low chain =
        let here : cond (is_in (whole it) at) ((costs_at it costs).block at + (costs_at it costs).edge at next) 0 ≡ (costs_at it costs).block at + (costs_at it costs).edge at next = everywhere (length it.flow.order) at ((costs_at it costs).block at + (costs_at it costs).edge at next) low in
        let later = chain_cost next rest (edge_within at next chain.0).1 chain.1 in
        let goes = cost_on (costs_by_label it.func costs) (label_at it at) (label_at it next) (map (label_at it) rest) in
        omega (arith, here, later, goes, block_is at low, edge_is at next chain.0)

    pub path_costs : (path : List ℕ) → IsPath it.flow.edges path → spends (costs_at it costs) (whole it) path ≡ path_cost (costs_by_label it.func costs) (map (label_at it) path)
    path_costs [] is = absurd is
    path_costs (first ∷ rest) is = chain_cost first rest (omega (arith, is.0, sound.flow.entry, sound.flow.flow.size)) is.1
