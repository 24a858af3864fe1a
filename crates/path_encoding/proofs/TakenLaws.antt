-- A point at which the path layout holds takes one path.
use Rattle.std.proofs.Common.{◌≡◌, ◌<◌, ◌-◌, ⊎_elim, inl, inr, ℕ, ℤ, pos, neg_ℤ, ◌+ℤ◌, ◌≤ℤ◌, Bool, true, List, [], ◌∷◌, ◌++◌, length, get_or, refl, ◌∙◌, ap, subst, arith}
use Rattle.std.specs.Prelude.{◌↔◌, flat_map}
use Rattle.std.specs.List.{Contains, filter, range_with_len}
use Rattle.std.proofs.lemmas.Int.{ints}
use Rattle.std.proofs.lemmas.List.{get_or_default}
use Rattle.std.proofs.lemmas.List.Elements.{All-contains, All-get_or, Contains-get_or, Contains-append_left, Contains-append_right}
use Rattle.mix_system.specs.declared.literal.Lit.{Lit}
use Rattle.mix_system.specs.declared.row.Part.{Part}
use Rattle.mix_system.specs.Fits.{IsTrueAt}
use Rattle.mix_system.specs.Row.{number_at, row_value}
use Rattle.mix_system.specs.Sum.{int_sum_by}
use Rattle.flow_graph.specs.Paths.{HasEdge}
use Rattle.block_order.specs.Walk.{IsChain}
use Rattle.ll_flow.proofs.PlaceLaws.{no_item, cons_cases}
use Rattle.ll_verifier.specs.declared.order.PositionEdge.{PositionEdge}
use Rattle.ll_verifier.specs.Sound.{SoundFunc, IsSound}
use Rattle.ir_runs.proofs.MemberLaws.{in_map}
use Rattle.wrap_rows.specs.Blocks.{equals}
use Rattle.wrap_rows.specs.Layout.{Holds}
use Rattle.wrap_rows.specs.Vars.{IsMark}
use Rattle.wrap_rows.proofs.CaseLaws.{Each, only}
use Rattle.wrap_rows.proofs.BlockLaws.{each-said, Each-left, Each-right, Clause_here, equals-said}
use Rattle.wrap_rows.proofs.LinearLaws.{once, less_once}
use Rattle.path_encoding.specs.declared.spots.PathSpots.{PathSpots}
use Rattle.path_encoding.specs.Spots.{block_at, block_var, edge_vars, AreSpotsOf}
use Rattle.path_encoding.specs.FlowRows.{enters, leaves, flow_row, in_row, out_row, goes_on, in_rows, out_rows, flow_rows}
use Rattle.path_encoding.specs.PathLayout.{start_clauses, flow_clauses, visit_clauses, path_layout}
use Rattle.path_encoding.specs.Paths.{Steps, EndsThere, IsTaken, AreMarks}
use Rattle.path_encoding.proofs.GraphLaws.{counted, edge_of, var_of, leads_on, single}
use Rattle.path_encoding.proofs.MemberLaws.{kept, second_in}
use Rattle.path_encoding.proofs.OnePathLaws.{Flows, Follows, follow, one_follows, visited_there, taken_there, visited, taken}

pub each_of : {X Y : Type 0} (P : Y → Type 0) (f : X → List Y) (xs : List X) → Each P (flat_map f xs) → (x : X) → Contains xs x → Each P (f x)
each_of P f [] each x there = absurd (no_item x there)
each_of {X = X} P f (first ∷ xs) each x there =
    ⊎_elim (λ same. subst (λ (z : X). Each P (f z)) same (Each-left P (f first) (flat_map f xs) each))
    (λ later. each_of P f xs (Each-right P (f first) (flat_map f xs) each) x later) (cons_cases first xs x there)

-- the sum of some edges less a block
pub flow_value : (point : List ℤ) (block : ℕ) (edges : List (PositionEdge × ℕ)) → row_value (flow_row block edges) point ≡ int_sum_by (λ edge. number_at point edge.1) edges +ℤ neg_ℤ (number_at point block)
flow_value point block [] = omega (arith, ints, less_once (number_at point block))
flow_value point block (edge ∷ edges) = omega (arith, ints, once (number_at point edge.1), flow_value point block edges)

module _ (it : SoundFunc) (sound : IsSound it) (spots : PathSpots) (are : AreSpotsOf it spots) (point : List ℤ) (marks : AreMarks spots point) where
  abbrev pub visits : ℕ → ℤ
  visits at = number_at point (block_var spots at)

  abbrev pub takes : PositionEdge × ℕ → ℤ
  takes edge = number_at point edge.1

  abbrev pub goes : ℕ → Bool
  goes at = goes_on (block_at it at).end

  pub visit_marks : (at : ℕ) → at < length it.flow.order → IsMark (visits at)
  visit_marks at low = All-get_or (λ (var : ℕ). IsMark (number_at point var)) spots.blocks.items at 0 (omega (arith, low, are.blocks)) marks.blocks

  pub take_marks : (edge : PositionEdge × ℕ) → Contains (edge_vars it spots) edge → IsMark (takes edge)
  take_marks edge there = All-contains (λ (var : ℕ). IsMark (number_at point var)) spots.edges.items edge.1 marks.edges (second_in _ spots.edges.items edge there)

  pub in_row_there : (at : ℕ) → 0 < at → at < length it.flow.order → Contains (flow_rows it spots) (in_row it spots at)
  in_row_there at high low =
      Contains-append_left (in_rows it spots) (out_rows it spots) (in_row it spots at)
      (in_map (in_row it spots) (range_with_len 1 (length it.flow.order - 1)) at (counted 1 (length it.flow.order - 1) at (omega (arith, high)) (omega (arith, high, low))))

  pub out_row_there : (at : ℕ) → at < length it.flow.order → goes at ≡ true → Contains (flow_rows it spots) (out_row it spots at)
  out_row_there at low on =
      Contains-append_right (in_rows it spots) (out_rows it spots) (out_row it spots at)
      (in_map (out_row it spots) (filter goes (range_with_len 0 (length it.flow.order))) at (kept goes (range_with_len 0 (length it.flow.order)) at (counted 0 (length it.flow.order) at (omega arith) (omega (arith, low))) on))

  module _ (holds : Holds (path_layout it spots) point) where
    abbrev pub Clause : List Lit → Type 0
    Clause = Clause_here (flow_rows it spots) point

    each : Each Clause (path_layout it spots).clauses
    each = each-said (IsTrueAt (flow_rows it spots) point) (path_layout it spots).clauses holds

    pub start_true : Each Clause (start_clauses it spots)
    start_true = Each-left Clause (start_clauses it spots) (flow_clauses (length (flow_rows it spots)) ++ visit_clauses it spots) each

    flows_true : Each Clause (flow_clauses (length (flow_rows it spots)))
    flows_true = Each-left Clause (flow_clauses (length (flow_rows it spots))) (visit_clauses it spots) (Each-right Clause (start_clauses it spots) (flow_clauses (length (flow_rows it spots)) ++ visit_clauses it spots) each)

    pub visits_true : Each Clause (visit_clauses it spots)
    visits_true = Each-right Clause (flow_clauses (length (flow_rows it spots))) (visit_clauses it spots) (Each-right Clause (start_clauses it spots) (flow_clauses (length (flow_rows it spots)) ++ visit_clauses it spots) each)

    -- each flow row is 0
    row_zero : (row : List Part) → Contains (flow_rows it spots) row → row_value row point ≡ pos 0
    row_zero row (k, low, is) =
        let here = each_of Clause (λ (row : ℕ). equals row (pos 0)) (range_with_len 0 (length (flow_rows it spots))) flows_true k (counted 0 (length (flow_rows it spots)) k (omega arith) (omega (arith, low))) in
        let at : get_or (flow_rows it spots) k [] ≡ row = get_or_default (flow_rows it spots) k [] row low ∙ is in
        subst (λ (parts : List Part). row_value parts point ≡ pos 0) at (equals-said (flow_rows it spots) point k (pos 0) here)

    sum_is : (at : ℕ) (edges : List (PositionEdge × ℕ)) → Contains (flow_rows it spots) (flow_row (block_var spots at) edges) → int_sum_by takes edges ≡ visits at
    sum_is at edges there =
        omega (arith, ints, flow_value point (block_var spots at) edges, row_zero (flow_row (block_var spots at) edges) there)

    entry : visits 0 ≡ pos 1
    entry =
        let high : pos 1 ≤ℤ visits 0 = only start_true.0 in
        omega (arith, ints, high, (visit_marks 0 (omega (arith, sound.flow.entry, sound.flow.flow.size))).1)

    pub flows : Flows (edge_vars it spots) (length it.flow.order) visits takes goes
    flows = record {
      some = omega (arith, sound.flow.entry, sound.flow.flow.size);
      entry = entry;
      visit_marks = visit_marks;
      take_marks = take_marks;
      forward = λ edge there. leads_on it sound spots are edge.0.from.0 edge.0.to.0 (edge_of it sound spots are edge there);
      single = single it sound spots are;
      into = λ at high low. sum_is at (filter (enters at) (edge_vars it spots)) (in_row_there at high low);
      out = λ at low on. sum_is at (filter (leaves at) (edge_vars it spots)) (out_row_there at low on);
    }

    abbrev pub Goes : ℕ → List ℕ → Type 0
    Goes = Follows (edge_vars it spots) (length it.flow.order) visits takes goes flows

    chain_of : (at : ℕ) (rest : List ℕ) → Goes at rest → IsChain it.flow.edges at rest
    chain_of at [] off = tt
    chain_of at (next ∷ rest) ((edge, taken_it, from, to), later) =
        let here : HasEdge it.flow.edges at next = subst (λ (n : ℕ). HasEdge it.flow.edges n next) from (subst (λ (n : ℕ). HasEdge it.flow.edges edge.0.from.0 n) to (edge_of it sound spots are edge taken_it.0)) in
        (here, chain_of next rest later)

    ends_of : (at : ℕ) (rest : List ℕ) → Goes at rest → EndsThere it (at ∷ rest)
    ends_of at [] off = off
    ends_of at (next ∷ rest) follows = ends_of next rest follows.1

    taken_of : (rest : List ℕ) → Goes 0 rest → IsTaken it spots point (0 ∷ rest)
    taken_of rest follows = record {
      is_path = (refl, chain_of 0 rest follows);
      ends = ends_of 0 rest follows;
      visited = λ at low. (
        visited_there (edge_vars it spots) (length it.flow.order) visits takes goes flows rest follows at low,
        visited (edge_vars it spots) (length it.flow.order) visits takes goes flows rest follows at,
      );
      taken = λ k d low.
          let edge = get_or (edge_vars it spots) k d in
          let there = Contains-get_or (edge_vars it spots) k d low in (
            λ one. taken_there (edge_vars it spots) (length it.flow.order) visits takes goes flows rest follows edge (there, one),
            taken (edge_vars it spots) (length it.flow.order) visits takes goes flows 0 rest follows edge there,
          );
    }

    -- a path that the point takes goes from each block by the edge that is taken
    follows_of : (at : ℕ) (rest : List ℕ) → IsChain it.flow.edges at rest → EndsThere it (at ∷ rest) → ((edge : PositionEdge × ℕ) → Contains (edge_vars it spots) edge → Steps (at ∷ rest) edge.0.from.0 edge.0.to.0 → takes edge ≡ pos 1) → Goes at rest
    follows_of at [] chain ends steps = ends
    follows_of at (next ∷ rest) chain ends steps =
        let (var, there) = var_of it sound spots are at next chain.0 in
        let edge : PositionEdge × ℕ = (record { from = record { 0 = at }; to = record { 0 = next } }, var) in
        ((edge, (there, steps edge there (inl (refl, refl))), refl, refl), follows_of next rest chain.1 ends (λ other other_there later. steps other other_there (inr later)))

    pub all_follow : (path : List ℕ) → IsTaken it spots point path → (rest : List ℕ) × Goes 0 rest × (path ≡ 0 ∷ rest)
    all_follow [] is = absurd is.is_path
    all_follow (first ∷ rest) is =
        let starts : first ≡ 0 = is.is_path.0 in
        let steps : (edge : PositionEdge × ℕ) → Contains (edge_vars it spots) edge → Steps (first ∷ rest) edge.0.from.0 edge.0.to.0 → takes edge ≡ pos 1 = λ edge there.
        (All-contains (λ (edge : PositionEdge × ℕ). (takes edge ≡ pos 1) ↔ Steps (first ∷ rest) edge.0.from.0 edge.0.to.0) (edge_vars it spots) edge is.taken there).1 in
        (rest, subst (λ (n : ℕ). Goes n rest) starts (follows_of first rest is.is_path.1 is.ends steps), ap (λ (n : ℕ). n ∷ rest) starts)

    pub one_path : (path : List ℕ) × IsTaken it spots point path × ((other : List ℕ) → IsTaken it spots point other → other ≡ path)
    one_path =
        let n = length it.flow.order in
        let mine = follow (edge_vars it spots) n visits takes goes flows n 0 (omega (arith, sound.flow.entry, sound.flow.flow.size)) (omega arith) entry in (
          0 ∷ mine.0,
          taken_of mine.0 mine.1,
          λ other is.
              let theirs = all_follow other is in
              theirs.2 ∙ ap (λ (rest : List ℕ). 0 ∷ rest) (one_follows (edge_vars it spots) n visits takes goes flows 0 theirs.0 mine.0 theirs.1 mine.1),
        )
