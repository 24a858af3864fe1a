-- Edges and the targets that they come from.
use Rattle.std.proofs.Common.{◌≡◌, ◌≤◌, ◌+◌, ℕ, zero, suc, List, [], ◌∷◌, ◌++◌, length, drop, map, Option, Some, None, refl, sym, ◌∙◌, ap, subst, arith, inl, inr, ◌⊎◌}
use Rattle.std.specs.Prelude.{Contains, ◌↔◌}
use Rattle.std.proofs.Math.ListN.{drop_of_length-le}
use Rattle.std.proofs.lemmas.List.{append-nil}
use Rattle.std.proofs.lemmas.List.Elements.{Contains-append_cases, Contains-append_left, Contains-append_right}
use Rattle.ll_tree.specs.declared.block.Block.{Block}
use Rattle.ll_tree.specs.declared.block.Case.{Case}
use Rattle.ll_tree.specs.declared.block.End.{End}
use Rattle.ll_tree.specs.declared.block.End.TheVariants as end
use Rattle.ll_rules.specs.Items.{Goal, end_parts, targets_of}
use Rattle.name_table.specs.Names.{place_of}
use Rattle.flow_graph.specs.declared.edge.Edge.{Edge}
use Rattle.flow_graph.specs.Paths.{HasEdge}
use Rattle.ll_edges.specs.Graph.{to_place, edge_to, edges_from, edges_in, LeadsTo}

no_item : {X : Type 0} (x : X) → Contains {X = X} [] x → ⊥
no_item x there = omega (arith, there.1)

cons_cases : {X : Type 0} (first : X) (rest : List X) (x : X) → Contains (first ∷ rest) x → (first ≡ x) ⊎ Contains rest x
cons_cases first rest x (zero, within, is) = inl is
cons_cases first rest x (suc k, within, is) = inr (k, omega arith, is)

first_of : {X : Type 0} (x : X) (rest : List X) → Contains (x ∷ rest) x
first_of x rest = (0, omega arith, refl)

later_of : {X : Type 0} (first x : X) (rest : List X) → Contains rest x → Contains (first ∷ rest) x
later_of first x rest there = (suc there.0, omega arith, there.2)

abbrev edges_to : List (List ℕ) → ℕ → List (List ℕ) → List Edge
edges_to labels from [] = []
edges_to labels from (target ∷ targets) = edge_to labels from target ++ edges_to labels from targets

cases_same : (labels : List (List ℕ)) (from : ℕ) (cases : List Case) → edges_from labels from (map (λ (case : Case). Goal case.to) cases) ≡ edges_to labels from (map (λ (case : Case). case.to) cases)
cases_same labels from [] = refl
cases_same labels from (case ∷ cases) = ap (λ (l : List Edge). edge_to labels from case.to ++ l) (cases_same labels from cases)

-- the edges of a terminator are those to its targets
end_same : (labels : List (List ℕ)) (from : ℕ) (end : End) → edges_from labels from (end_parts end) ≡ edges_to labels from (targets_of end)
end_same labels from end.RetVoid = refl
end_same labels from (end.Ret width value) = refl
end_same labels from (end.Br to) = refl
end_same labels from (end.CondBr cond on_one on_zero) = refl
end_same labels from (end.Switch width value default cases) = ap (λ (l : List Edge). edge_to labels from default ++ l) (cases_same labels from cases)
end_same labels from end.Unreachable = refl

-- an edge from this place to a target with that place
abbrev IsTo : List (List ℕ) → ℕ → List (List ℕ) → ℕ → ℕ → Type 0
IsTo labels at targets from to = (from ≡ at) × ((target : List ℕ) × Contains targets target × (place_of target labels ≡ Some to))

one_edge : (at from to : ℕ) (place : Option ℕ) → HasEdge (to_place at place) from to → (from ≡ at) × (place ≡ Some to)
one_edge at from to None there = absurd (no_item _ there)
one_edge at from to (Some place) there = by_cases (cons_cases (record { from = at; to = place }) [] (record { from = from; to = to }) there)
  where
    by_cases : (◌≡◌ {A = Edge} (record { from = at; to = place }) (record { from = from; to = to })) ⊎ HasEdge [] from to → (from ≡ at) × (Some place ≡ Some to)
    by_cases (inl e) = (sym (ap (λ (x : Edge). x.from) e), ap (λ (x : Edge). Some x.to) e)
    by_cases (inr none) = absurd (no_item _ none)

targets_of_edge : (labels : List (List ℕ)) (at : ℕ) (targets : List (List ℕ)) (from to : ℕ) → HasEdge (edges_to labels at targets) from to → IsTo labels at targets from to
targets_of_edge labels at [] from to there = absurd (no_item _ there)
targets_of_edge labels at (target ∷ targets) from to there =
    by_cases (λ later. targets_of_edge labels at targets from to later) (Contains-append_cases (edge_to labels at target) (edges_to labels at targets) (record { from = from; to = to }) there)
  where
    by_cases : (HasEdge (edges_to labels at targets) from to → IsTo labels at targets from to) → HasEdge (edge_to labels at target) from to ⊎ HasEdge (edges_to labels at targets) from to → IsTo labels at (target ∷ targets) from to
    by_cases rest (inl here) = let one = one_edge at from to (place_of target labels) here in (one.0, (target, first_of target targets, one.1))
    by_cases rest (inr later) = let more = rest later in (more.0, (more.1.0, later_of target more.1.0 targets more.1.1, more.1.2))

edge_of_target : (labels : List (List ℕ)) (at : ℕ) (targets : List (List ℕ)) (target : List ℕ) (to : ℕ) → Contains targets target → place_of target labels ≡ Some to → HasEdge (edges_to labels at targets) at to
edge_of_target labels at [] target to there place = absurd (no_item _ there)
edge_of_target labels at (first ∷ targets) target to there place = by_cases (λ later. edge_of_target labels at targets target to later place) (cons_cases first targets target there)
  where
    placed : (o : Option ℕ) → o ≡ Some to → HasEdge (to_place at o) at to
    placed o e = subst (λ (o : Option ℕ). HasEdge (to_place at o) at to) (sym e) (first_of _ [])

    by_cases : (Contains targets target → HasEdge (edges_to labels at targets) at to) → (first ≡ target) ⊎ Contains targets target → HasEdge (edges_to labels at (first ∷ targets)) at to
    by_cases rest (inl e) = Contains-append_left (edge_to labels at first) (edges_to labels at targets) (record { from = at; to = to }) (placed (place_of first labels) (ap (λ (name : List ℕ). place_of name labels) e ∙ place))
    by_cases rest (inr later) = Contains-append_right (edge_to labels at first) (edges_to labels at targets) (record { from = at; to = to }) (rest later)

leads : (labels : List (List ℕ)) (before : ℕ) (blocks : List Block) (from to : ℕ) → HasEdge (edges_in labels before blocks) from to → (place : ℕ) × (from ≡ before + place) × LeadsTo labels blocks place to
leads labels before [] from to there = absurd (no_item _ there)
leads labels before (block ∷ blocks) from to there =
    by_cases (λ later. leads labels (before + 1) blocks from to later) (Contains-append_cases (edges_from labels before (end_parts block.end)) (edges_in labels (before + 1) blocks) (record { from = from; to = to }) there)
  where
    by_cases : (HasEdge (edges_in labels (before + 1) blocks) from to → (place : ℕ) × (from ≡ (before + 1) + place) × LeadsTo labels blocks place to) → HasEdge (edges_from labels before (end_parts block.end)) from to ⊎ HasEdge (edges_in labels (before + 1) blocks) from to → (place : ℕ) × (from ≡ before + place) × LeadsTo labels (block ∷ blocks) place to
    by_cases rest (inl here) =
        let is = targets_of_edge labels before (targets_of block.end) from to (subst (λ (l : List Edge). HasEdge l from to) (end_same labels before block.end) here) in
        (0, omega (arith, is.0), (block, refl, is.1))
    by_cases rest (inr later) =
        let more = rest later in
        (suc more.0, omega (arith, more.1), more.2)

led : (labels : List (List ℕ)) (before : ℕ) (blocks : List Block) (place from to : ℕ) → from ≡ before + place → LeadsTo labels blocks place to → HasEdge (edges_in labels before blocks) from to
led labels before [] place from to e (block, there, goes) = absurd there
led labels before (first ∷ blocks) zero from to e (block, there, goes) =
    let here : HasEdge (edges_to labels before (targets_of first.end)) before to = edge_of_target labels before (targets_of first.end) goes.0 to (subst (λ (b : Block). Contains (targets_of b.end) goes.0) (sym there) goes.1) goes.2 in
    let at : before ≡ from = omega (arith, e) in
    Contains-append_left (edges_from labels before (end_parts first.end)) (edges_in labels (before + 1) blocks) (record { from = from; to = to })
    (subst (λ n. HasEdge (edges_from labels before (end_parts first.end)) n to) at (subst (λ (l : List Edge). HasEdge l before to) (sym (end_same labels before first.end)) here))
led labels before (first ∷ blocks) (suc place) from to e (block, there, goes) =
    Contains-append_right (edges_from labels before (end_parts first.end)) (edges_in labels (before + 1) blocks) (record { from = from; to = to })
    (led labels (before + 1) blocks place from to (omega (arith, e)) (block, there, goes))

-- the edges that a walk to the end has made
pub all_made : (labels : List (List ℕ)) (blocks shown : List Block) (graph : List Edge) (i : ℕ) → shown ≡ blocks → length shown ≤ i → graph ++ edges_in labels i (drop i shown) ≡ edges_in labels 0 shown → graph ≡ edges_in labels 0 blocks
all_made labels blocks shown graph i same over made =
    sym (append-nil graph) ∙ ap (λ (l : List Block). graph ++ edges_in labels i l) (sym (drop_of_length-le shown over)) ∙ made ∙ ap (edges_in labels 0) same

-- the edges are those between the places of blocks and their targets
pub edges_lead : (labels : List (List ℕ)) (blocks : List Block) (graph : List Edge) → graph ≡ edges_in labels 0 blocks → (from to : ℕ) → HasEdge graph from to ↔ LeadsTo labels blocks from to
edges_lead labels blocks graph is from to = (there_from, from_there)
  where
    moved : (place : ℕ) → from ≡ 0 + place → LeadsTo labels blocks place to → LeadsTo labels blocks from to
    moved place e h = subst (λ n. LeadsTo labels blocks n to) (back place e) h
      where
        back : (place : ℕ) → from ≡ 0 + place → place ≡ from
        back place e = omega (arith, e)

    there_from : HasEdge graph from to → LeadsTo labels blocks from to
    there_from there = let led_by = leads labels 0 blocks from to (subst (λ (l : List Edge). HasEdge l from to) is there) in moved led_by.0 led_by.1 led_by.2

    from_there : LeadsTo labels blocks from to → HasEdge graph from to
    from_there h = subst (λ (l : List Edge). HasEdge l from to) (sym is) (led labels 0 blocks from from to (omega arith) h)
