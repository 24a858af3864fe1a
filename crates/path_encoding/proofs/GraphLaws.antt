-- The edges of a function with their variables.
use Rattle.std.proofs.Common.{◌≡◌, ◌<◌, ◌≤◌, ◌+◌, ◌-◌, ⊎_elim, ℕ, zero, suc, Bool, true, List, [], ◌∷◌, length, get_or, map, refl, sym, ◌∙◌, ap, subst, arith}
use Rattle.std.specs.Prelude.{zip}
use Rattle.std.specs.List.{Contains, filter, range_with_len}
use Rattle.std.proofs.lemmas.List.{length-map}
use Rattle.std.proofs.lemmas.List.Elements.{All-contains}
use Rattle.std.proofs.lemmas.List.FromFn.{length-range_with_len, get_or-range_with_len}
use Rattle.std.proofs.lemmas.Bool.{cond_both}
use Rattle.flow_graph.specs.declared.edge.Edge.{Edge}
use Rattle.flow_graph.specs.Paths.{HasEdge}
use Rattle.flow_graph.specs.Sorted.{ComesBefore, AreSorted}
use Rattle.flow_rules.proofs.OrderLaws.{flow_forward}
use Rattle.ll_tree.specs.declared.block.Block.{Block}
use Rattle.ll_tree.specs.declared.block.End.{End}
use Rattle.ll_tree.specs.declared.block.End.TheVariants as end
use Rattle.ll_rules.specs.Items.{targets_of}
use Rattle.ll_edges.specs.Graph.{IsBlockAt}
use Rattle.ll_flow.proofs.PlaceLaws.{no_item, cons_cases}
use Rattle.ll_verifier.specs.declared.order.PositionEdge.{PositionEdge}
use Rattle.ll_verifier.specs.Order.{position_edge}
use Rattle.ll_verifier.specs.Sound.{SoundFunc, IsSound}
use Rattle.ir_runs.proofs.MemberLaws.{in_map, map_in}
use Rattle.portion_cuts.specs.Paths.{place_at}
use Rattle.path_encoding.specs.declared.spots.PathSpots.{PathSpots}
use Rattle.path_encoding.specs.Spots.{no_block, block_at, edge_vars, AreSpotsOf}
use Rattle.path_encoding.specs.FlowRows.{goes_on}
use Rattle.path_encoding.proofs.MarkSums.{AreApart}
use Rattle.path_encoding.proofs.MemberLaws.{first_in, member_of, paired}

-- ---- lists in which nothing stands twice

pub apart_pairs : {X Y : Type 0} (xs : List X) (ys : List Y) → AreApart xs → AreApart (zip xs ys)
apart_pairs [] ys apart = tt
apart_pairs (x ∷ xs) [] apart = tt
apart_pairs (x ∷ xs) (y ∷ ys) apart = (λ there. apart.0 (first_in xs ys (x, y) there), apart_pairs xs ys apart.1)

pub apart_kept : {X : Type 0} (p : X → Bool) (xs : List X) → AreApart xs → AreApart (filter p xs)
apart_kept p [] apart = tt
apart_kept p (x ∷ xs) apart =
    let rest = apart_kept p xs apart.1 in
    cond_both (p x) (x ∷ filter p xs) (filter p xs) AreApart (λ _. (λ there. apart.0 (member_of p xs x there), rest)) (λ _. rest)

pub single_in : {X Y : Type 0} (xs : List X) (ys : List Y) → AreApart xs → (pair other : X × Y) → Contains (zip xs ys) pair → Contains (zip xs ys) other → pair.0 ≡ other.0 → pair ≡ other
single_in [] ys apart pair other there other_there same = absurd (no_item pair there)
single_in (x ∷ xs) [] apart pair other there other_there same = absurd (no_item pair there)
single_in {X = X} {Y = Y} (x ∷ xs) (y ∷ ys) apart pair other there other_there same =
    ⊎_elim
    (λ here. ⊎_elim (λ both. sym here ∙ both)
    (λ later. absurd (apart.0 (subst (λ (z : X). Contains xs z) (sym same ∙ sym (ap (λ (q : X × Y). q.0) here)) (first_in xs ys other later)))) (cons_cases (x, y) (zip xs ys) other other_there))
    (λ behind. ⊎_elim (λ first. absurd (apart.0 (subst (λ (z : X). Contains xs z) (same ∙ sym (ap (λ (q : X × Y). q.0) first)) (first_in xs ys pair behind))))
    (λ later. single_in xs ys apart.1 pair other behind later same) (cons_cases (x, y) (zip xs ys) other other_there))
    (cons_cases (x, y) (zip xs ys) pair there)

not_before : (edge : Edge) → ComesBefore edge edge → ⊥
not_before edge before = ⊎_elim (λ less. omega (arith, less)) (λ rest. omega (arith, rest.1)) before

sorted_apart : (edges : List Edge) → AreSorted edges → AreApart (map position_edge edges)
sorted_apart [] sorted = tt
sorted_apart (edge ∷ edges) sorted = (
  λ there.
      let (other, at, same) = map_in position_edge edges (position_edge edge) there in
      let is : other ≡ edge = λ i. record { from = ap (λ (e : PositionEdge). e.from.0) same i; to = ap (λ (e : PositionEdge). e.to.0) same i } in
      let before : ComesBefore edge (get_or edges at.0 other) = sorted 0 (suc at.0) other (omega arith) (omega (arith, at.1)) in
      not_before edge (subst (λ (e : Edge). ComesBefore edge e) (at.2 ∙ is) before),
  sorted_apart edges (λ i j d below low. sorted (suc i) (suc j) d (omega (arith, below)) (omega (arith, low))),
)

-- ---- blocks by their places

pub block_is : (blocks : List Block) (place : ℕ) (block default : Block) → IsBlockAt blocks place block → get_or blocks place default ≡ block
block_is [] place block default there = absurd there
block_is (first ∷ blocks) zero block default there = there
block_is (first ∷ blocks) (suc place) block default there = block_is blocks place block default there

goes_so : (terminator : End) (target : List ℕ) → Contains (targets_of terminator) target → goes_on terminator ≡ true
goes_so end.RetVoid target there = absurd (no_item target there)
goes_so (end.Ret width value) target there = absurd (no_item target there)
goes_so (end.Br to) target there = refl
goes_so (end.CondBr condition when_set when_clear) target there = refl
goes_so (end.Switch width value default cases) target there = refl
goes_so end.Unreachable target there = absurd (no_item target there)

pub counted : (first count number : ℕ) → first ≤ number → number < first + count → Contains (range_with_len first count) number
counted first count number low high =
    let (k, is) : (k : ℕ) × (first + k ≡ number) = back first number low in
    let within : k < count = omega (arith, is, high) in
    (k, omega (arith, within, length-range_with_len first count), get_or-range_with_len first count k number within ∙ is)
  where
    back : (first number : ℕ) → first ≤ number → (k : ℕ) × (first + k ≡ number)
    back first number low = (number - first, omega (arith, low))

-- ---- edges with their variables

module _ (it : SoundFunc) (sound : IsSound it) (spots : PathSpots) (are : AreSpotsOf it spots) where
  pub edges_apart : AreApart (map position_edge it.flow.edges)
  edges_apart = sorted_apart it.flow.edges sound.flow.flow.edges.sorted

  -- an edge with its variable is an edge
  pub edge_of : (edge : PositionEdge × ℕ) → Contains (edge_vars it spots) edge → HasEdge it.flow.edges edge.0.from.0 edge.0.to.0
  edge_of edge there =
      let (mine, at, is) = map_in position_edge it.flow.edges edge.0 (first_in (map position_edge it.flow.edges) spots.edges.items edge there) in
      let same : mine ≡ record { from = edge.0.from.0; to = edge.0.to.0 } = λ i. record { from = (is i).from.0; to = (is i).to.0 } in
      subst (Contains it.flow.edges) same at

  -- each edge has a variable
  pub var_of : (from to : ℕ) → HasEdge it.flow.edges from to → (var : ℕ) × Contains (edge_vars it spots) (position_edge (record { from = from; to = to }), var)
  var_of from to there =
      paired (map position_edge it.flow.edges) spots.edges.items (position_edge (record { from = from; to = to })) (omega (arith, length-map it.flow.edges position_edge, are.edges))
      (in_map position_edge it.flow.edges (record { from = from; to = to }) there)

  pub leads_on : (from to : ℕ) → HasEdge it.flow.edges from to → (from < to) × (to < length it.flow.order) × (goes_on (block_at it from).end ≡ true)
  leads_on from to there =
      let forward = flow_forward (length it.func.blocks) it.flow sound.flow.flow in
      let edge : Edge = record { from = from; to = to } in
      let ends = (sound.flow.flow.edges.same from to).0 there in
      let (block, at, (target, named, place)) = (sound.flow.edges (place_at it from) (place_at it to)).0 ends.2 in (
        All-contains (λ (e : Edge). e.from < e.to) it.flow.edges edge forward.later there,
        ends.1,
        subst (λ (b : Block). goes_on b.end ≡ true) (sym (block_is it.func.blocks (place_at it from) block no_block at)) (goes_so block.end target named),
      )

  pub single : (edge other : PositionEdge × ℕ) → Contains (edge_vars it spots) edge → Contains (edge_vars it spots) other → edge.0 ≡ other.0 → edge ≡ other
  single = single_in (map position_edge it.flow.edges) spots.edges.items edges_apart
