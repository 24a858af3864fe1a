-- Edges by positions, by the places of their blocks.
use Rattle.std.proofs.Common.{◌≡◌, ◌<◌, ℕ, List, length, get_or, map, sym, ◌∙◌, ap, subst, arith}
use Rattle.std.specs.Prelude.{Result, Ok, Err, IfOk}
use Rattle.std.specs.List.{All, Contains}
use Rattle.std.proofs.lemmas.List.{length-map, get_or-map, get_or_default}
use Rattle.std.proofs.lemmas.List.Elements.{All-contains}
use Rattle.flow_graph.specs.declared.edge.Edge.{Edge}
use Rattle.flow_graph.specs.Sorted.{AreSorted, AreSame}
use Rattle.ll_links.specs.declared.link.BlockId.{BlockId}
use Rattle.ll_links.specs.Links.{block_id}
use Rattle.ll_verifier.specs.declared.order.PositionEdge.{PositionEdge}
use Rattle.ll_verifier.specs.Order.{position_edge}
use Rattle.ll_verifier.specs.Sound.{SoundFunc, IsSound}
use Rattle.sound_costs.specs.Edges.{between, edges_of, placed, HasPlaces}
use Rattle.sound_costs.proofs.EdgeLaws.{labels_differ, edges_sorted, edge_there, edge_leads}
use Rattle.sound_costs.proofs.MemberLaws.{all_of, mapped, unmapped}
use Rattle.sound_costs.proofs.SortedLaws.{one_list}

module _ (it : SoundFunc) (sound : IsSound it) where
  abbrev blocks : List BlockId
  blocks = map block_id it.flow.order

  abbrev edges : List PositionEdge
  edges = map position_edge it.flow.edges

  pub placed_within : All (HasPlaces (length blocks)) edges
  placed_within = all_of (HasPlaces (length blocks)) edges (λ edge there.
      let by = unmapped position_edge it.flow.edges edge there in
      let ends = (sound.flow.flow.edges.same by.0.from by.0.to).0 by.1 in
      subst (HasPlaces (length blocks)) by.2 (omega (arith, ends.0, length-map it.flow.order block_id), omega (arith, ends.1, length-map it.flow.order block_id)))

  -- an edge of positions within the order, by places
  placed_is : (from to : ℕ) → from < length it.flow.order → to < length it.flow.order → placed blocks (position_edge (between from to)) ≡ between (get_or it.flow.order from 0) (get_or it.flow.order to 0)
  placed_is from to from_low to_low =
      let start : (get_or blocks from (block_id 0)).0 ≡ get_or it.flow.order from 0 = ap (λ (block : BlockId). block.0) (get_or-map block_id it.flow.order from 0 (block_id 0) from_low) in
      let end : (get_or blocks to (block_id 0)).0 ≡ get_or it.flow.order to 0 = ap (λ (block : BlockId). block.0) (get_or-map block_id it.flow.order to 0 (block_id 0) to_low) in
      ap (λ (n : ℕ). between n (get_or blocks to (block_id 0)).0) start ∙ ap (λ (n : ℕ). between (get_or it.flow.order from 0) n) end

  graph_of_placed : (edge : Edge) → Contains (map (placed blocks) edges) edge → Contains it.flow.graph edge
  graph_of_placed edge there =
      let by = unmapped (placed blocks) edges edge there in
      let at = unmapped position_edge it.flow.edges by.0 by.1 in
      let ends = (sound.flow.flow.edges.same at.0.from at.0.to).0 at.1 in
      let is : between (get_or it.flow.order at.0.from 0) (get_or it.flow.order at.0.to 0) ≡ edge = sym (placed_is at.0.from at.0.to ends.0 ends.1) ∙ ap (placed blocks) at.2 ∙ by.2 in
      subst (Contains it.flow.graph) is ends.2

  placed_of_graph : (edge : Edge) → Contains it.flow.graph edge → Contains (map (placed blocks) edges) edge
  placed_of_graph edge there =
      let within = All-contains (λ (edge : Edge). (edge.from < length it.func.blocks) × (edge.to < length it.func.blocks)) it.flow.graph edge sound.flow.flow.within there in
      let start = sound.flow.flow.kept.whole edge.from within.0 in
      let end = sound.flow.flow.kept.whole edge.to within.1 in
      let from_is : get_or it.flow.order start.0 0 ≡ edge.from = get_or_default it.flow.order start.0 0 edge.from start.1 ∙ start.2 in
      let to_is : get_or it.flow.order end.0 0 ≡ edge.to = get_or_default it.flow.order end.0 0 edge.to end.1 ∙ end.2 in
      let same : between (get_or it.flow.order start.0 0) (get_or it.flow.order end.0 0) ≡ edge = ap (λ (n : ℕ). between n (get_or it.flow.order end.0 0)) from_is ∙ ap (λ (n : ℕ). between edge.from n) to_is in
      let has : Contains it.flow.edges (between start.0 end.0) = (sound.flow.flow.edges.same start.0 end.0).1 (start.1, end.1, subst (Contains it.flow.graph) (sym same) there) in
      let here : Contains (map (placed blocks) edges) (placed blocks (position_edge (between start.0 end.0))) = mapped (placed blocks) edges (position_edge (between start.0 end.0)) (mapped position_edge it.flow.edges (between start.0 end.0) has) in
      subst (Contains (map (placed blocks) edges)) (placed_is start.0 end.0 start.1 end.1 ∙ same) here

  pub edges_are : (list : List Edge) → AreSorted list → AreSame (map (placed blocks) edges) list → list ≡ edges_of it.func
  edges_are list sorted same =
      one_list list (edges_of it.func) sorted (edges_sorted it.func)
      (λ edge there. edge_there it.func edge.from edge.to ((sound.flow.edges edge.from edge.to).0 (graph_of_placed edge ((same edge.from edge.to).1 there))))
      (λ edge there. (same edge.from edge.to).0 (placed_of_graph edge ((sound.flow.edges edge.from edge.to).1 (edge_leads it.func (labels_differ it.func sound.rules.names) edge there))))

pub ok_both : {A B : Type 0} {P Q R : A → Type 0} (result : Result A B) → IfOk result P → IfOk result Q → ((x : A) → P x → Q x → R x) → IfOk result R
ok_both (Ok x) p q each = each x p q
ok_both (Err e) p q each = tt
