-- What is written for a path makes a point take it.
use Rattle.std.proofs.Common.{◌≡◌, ◌<◌, ◌≤◌, ◌+◌, ◌&&◌, ◌||◌, ⊎_elim, inl, inr, ℕ, ℤ, pos, eqb, Bool, true, false, List, [], ◌∷◌, ◌++◌, length, get_or, map, refl, sym, ◌∙◌, ap, subst, arith}
use Rattle.std.specs.Prelude.{◌↔◌, zip, slice_set}
use Rattle.std.specs.List.{All, Contains, range_with_len}
use Rattle.std.proofs.lemmas.Bool.{true≢false}
use Rattle.std.proofs.lemmas.Bool.Decides.{Decides-eqb}
use Rattle.std.proofs.lemmas.List.{length-map, get_or_default}
use Rattle.std.proofs.lemmas.List.Elements.{All-contains, Contains-get_or, Contains-append_left, Contains-append_right}
use Rattle.std.proofs.lemmas.List.FromFn.{length-range_with_len, get_or-range_with_len}
use Rattle.std.proofs.lemmas.Slice.Zip.{seconds-zip, get_or-zip}
use Rattle.mix_system.specs.Row.{number_at}
use Rattle.flow_graph.specs.declared.edge.Edge.{Edge}
use Rattle.ll_flow.proofs.PlaceLaws.{no_item, cons_cases}
use Rattle.ll_verifier.specs.declared.order.PositionEdge.{PositionEdge}
use Rattle.ll_verifier.specs.Order.{position_edge}
use Rattle.ll_verifier.specs.Sound.{SoundFunc}
use Rattle.ir_runs.proofs.MemberLaws.{in_here, in_there, map_in}
use Rattle.portion_cuts.specs.Paths.{IsPath, passes, takes}
use Rattle.wrap_rows.specs.Piece.{mark_of}
use Rattle.wrap_rows.specs.Vars.{IsMark}
use Rattle.path_encoding.specs.declared.spots.PathSpots.{PathSpots}
use Rattle.path_encoding.specs.Spots.{block_var, edge_vars, AreSpotsOf, Exist, AreApart}
use Rattle.path_encoding.specs.Paths.{Steps, EndsThere, IsTaken, AreMarks}
use Rattle.path_encoding.specs.Filled.{ChangesOnly, put_marks, is_step, put_blocks, put_edges}
use Rattle.path_encoding.proofs.MarkSums as sums
use Rattle.path_encoding.proofs.PutLaws.{mark_is, mark_one, apart_of, apart_left, apart_right, apart_both, vars_of, put_length, put_other, put_there}

-- ---- what a path passes and takes

pub passed_there : (path : List ℕ) (at : ℕ) → passes path at ≡ true → Contains path at
passed_there [] at is = absurd (true≢false (sym is))
passed_there (first ∷ path) at is =
    (elim (eqb first at) as (λ (b : Bool). eqb first at ≡ b → (b || passes path at) ≡ true → Contains (first ∷ path) at) [
      | true ↦ λ test _. subst (λ (n : ℕ). Contains (first ∷ path) n) ((Decides-eqb first at).0 test) (in_here first path)
      | false ↦ λ test rest. in_there first at path (passed_there path at rest)
    ]) refl is

either_first : (a b : Bool) → a ≡ true → (a || b) ≡ true
either_first a b is = ap (λ (one : Bool). one || b) is

either_second : (a b : Bool) → b ≡ true → (a || b) ≡ true
either_second true b is = refl
either_second false b is = is

pub there_passed : (path : List ℕ) (at : ℕ) → Contains path at → passes path at ≡ true
there_passed [] at there = absurd (no_item at there)
there_passed (first ∷ path) at there =
    ⊎_elim (λ same. either_first (eqb first at) (passes path at) ((Decides-eqb first at).1 same)) (λ later. either_second (eqb first at) (passes path at) (there_passed path at later)) (cons_cases first path at there)

both_parts : (a b : Bool) → (a && b) ≡ true → (a ≡ true) × (b ≡ true)
both_parts true b is = (refl, is)
both_parts false b is = absurd (true≢false (sym is))

pub taken_steps : (path : List ℕ) (edge : Edge) → takes path edge ≡ true → Steps path edge.from edge.to
taken_steps [] edge is = absurd (true≢false (sym is))
taken_steps (at ∷ []) edge is = absurd (true≢false (sym is))
taken_steps (at ∷ next ∷ rest) edge is =
    (elim (eqb edge.from at && eqb edge.to next) as (λ (b : Bool). (eqb edge.from at && eqb edge.to next) ≡ b → (b || takes (next ∷ rest) edge) ≡ true → Steps (at ∷ next ∷ rest) edge.from edge.to) [
      | true ↦ λ test _. let parts = both_parts (eqb edge.from at) (eqb edge.to next) test in inl (sym ((Decides-eqb edge.from at).0 parts.0), sym ((Decides-eqb edge.to next).0 parts.1))
      | false ↦ λ test later. inr (taken_steps (next ∷ rest) edge later)
    ]) refl is

pub steps_taken : (path : List ℕ) (edge : Edge) → Steps path edge.from edge.to → takes path edge ≡ true
steps_taken [] edge steps = absurd steps
steps_taken (at ∷ []) edge steps = absurd steps
steps_taken (at ∷ next ∷ rest) edge steps =
    ⊎_elim
    (λ ends. λ i. ((Decides-eqb edge.from at).1 (sym ends.0) i && (Decides-eqb edge.to next).1 (sym ends.1) i) || takes (next ∷ rest) edge)
    (λ later. either_second (eqb edge.from at && eqb edge.to next) (takes (next ∷ rest) edge) (steps_taken (next ∷ rest) edge later))
    steps

-- ---- a path that is written

-- blocks one by one are blocks by their positions
by_positions : (path : List ℕ) (at : ℕ) (vars : List ℕ) (point : List ℤ) → put_blocks path at vars point ≡ put_marks (passes path) (zip (range_with_len at (length vars)) vars) point
by_positions path at [] point = refl
by_positions path at (var ∷ vars) point = by_positions path (at + 1) vars (slice_set point var (mark_of (passes path at)))

module _ (it : SoundFunc) (spots : PathSpots) (are : AreSpotsOf it spots) (old : List ℤ) (exist : Exist (length old) spots) (apart : AreApart spots) (path : List ℕ) where
  abbrev pub blocks : List ℕ
  blocks = spots.blocks.items

  abbrev pub edges : List ℕ
  edges = spots.edges.items

  abbrev by_position : List (ℕ × ℕ)
  by_position = zip (range_with_len 0 (length blocks)) blocks

  abbrev pub half : List ℤ
  half = put_blocks path 0 blocks old

  abbrev pub new : List ℤ
  new = put_edges path (map position_edge it.flow.edges) edges half

  half_is : half ≡ put_marks (passes path) by_position old
  half_is = by_positions path 0 blocks old

  all_apart : sums.AreApart (blocks ++ (edges ++ spots.cases.items))
  all_apart = apart_of (blocks ++ (edges ++ spots.cases.items)) apart.paths

  edges_apart : sums.AreApart edges
  edges_apart = apart_left edges spots.cases.items (apart_right blocks (edges ++ spots.cases.items) all_apart)

  block_vars_are : vars_of by_position ≡ blocks
  block_vars_are = seconds-zip (range_with_len 0 (length blocks)) blocks (omega (arith, length-range_with_len 0 (length blocks)))

  edge_vars_are : vars_of (edge_vars it spots) ≡ edges
  edge_vars_are = seconds-zip (map position_edge it.flow.edges) edges (omega (arith, are.edges, length-map it.flow.edges position_edge))

  half_length : length half ≡ length old
  half_length = ap length half_is ∙ put_length (passes path) by_position old

  -- no edge has this variable
  edges_keep : (var : ℕ) → ¬ Contains edges var → number_at new var ≡ number_at half var
  edges_keep var never = put_other (is_step path) (edge_vars it spots) half var (λ there. never (subst (λ (vars : List ℕ). Contains vars var) edge_vars_are there))

  pub keeps_others : ChangesOnly (blocks ++ edges) old new
  keeps_others = record {
    same_length = put_length (is_step path) (edge_vars it spots) half ∙ half_length;
    kept = λ var never.
        edges_keep var (λ there. never (Contains-append_right blocks edges var there))
        ∙ ap (λ (point : List ℤ). number_at point var) half_is
        ∙ put_other (passes path) by_position old var (λ there. never (Contains-append_left blocks edges var (subst (λ (vars : List ℕ). Contains vars var) block_vars_are there)));
  }

  pair_there : (i : ℕ) → i < length blocks → Contains by_position (i, get_or blocks i 0)
  pair_there i low =
      let counted = length-range_with_len 0 (length blocks) in
      let number : get_or (range_with_len 0 (length blocks)) i 0 ≡ i = get_or-range_with_len 0 (length blocks) i 0 low ∙ omega arith in
      let read : get_or by_position i (0, 0) ≡ (i, get_or blocks i 0) = get_or-zip (range_with_len 0 (length blocks)) blocks i (0, 0) (omega (arith, low, counted)) low ∙ (λ j. (number j, get_or blocks i 0)) in
      subst (λ (pair : ℕ × ℕ). Contains by_position pair) read (Contains-get_or by_position i (0, 0) (positions_low i low))
    where
      positions_low : (i : ℕ) → i < length blocks → i < length by_position
      positions_low i low = omega (arith, low, ap length block_vars_are, length-map by_position (λ (pair : ℕ × ℕ). pair.1))

  block_number : (i : ℕ) → i < length blocks → number_at new (get_or blocks i 0) ≡ mark_of (passes path i)
  block_number i low =
      let var = get_or blocks i 0 in
      edges_keep var (λ there. apart_both blocks (edges ++ spots.cases.items) all_apart var (Contains-get_or blocks i 0 low) (Contains-append_left edges spots.cases.items var there))
      ∙ ap (λ (point : List ℤ). number_at point var) half_is
      ∙ put_there (passes path) by_position old (subst sums.AreApart (sym block_vars_are) (apart_left blocks (edges ++ spots.cases.items) all_apart))
      (λ other there. All-contains (λ (v : ℕ). v < length old) blocks other exist.blocks (subst (λ (vars : List ℕ). Contains vars other) block_vars_are there)) (i, var) (pair_there i low)

  edge_number : (edge : PositionEdge × ℕ) → Contains (edge_vars it spots) edge → number_at new edge.1 ≡ mark_of (is_step path edge.0)
  edge_number edge there =
      put_there (is_step path) (edge_vars it spots) half (subst sums.AreApart (sym edge_vars_are) edges_apart)
      (λ other other_there. omega (arith, half_length, All-contains (λ (v : ℕ). v < length old) edges other exist.edges (subst (λ (vars : List ℕ). Contains vars other) edge_vars_are other_there))) edge there

  pub marks_there : AreMarks spots new
  marks_there = record {
    blocks = λ i d low. subst (λ (var : ℕ). IsMark (number_at new var)) (get_or_default blocks i 0 d low) (subst IsMark (sym (block_number i low)) (mark_is (passes path i)));
    edges = λ i d low.
        let edge = partner i d low in
        subst (λ (var : ℕ). IsMark (number_at new var)) edge.2 (subst IsMark (sym (edge_number edge.0 edge.1)) (mark_is (is_step path edge.0.0)));
  }
    where
      partner : (i d : ℕ) → i < length edges → (edge : PositionEdge × ℕ) × Contains (edge_vars it spots) edge × (edge.1 ≡ get_or edges i d)
      partner i d low = map_in (λ (edge : PositionEdge × ℕ). edge.1) (edge_vars it spots) (get_or edges i d) (subst (λ (vars : List ℕ). Contains vars (get_or edges i d)) (sym edge_vars_are) (Contains-get_or edges i d low))

  pub path_taken : IsPath it.flow.edges path → EndsThere it path → IsTaken it spots new path
  path_taken is_path ends = record {
    is_path = is_path;
    ends = ends;
    visited = λ at low.
        let number = block_number at (omega (arith, low, are.blocks)) in
        (λ one. passed_there path at (mark_one (passes path at) (sym number ∙ one)), λ there. number ∙ ap mark_of (there_passed path at there));
    taken = λ k d low.
        let edge = get_or (edge_vars it spots) k d in
        let ends : Edge = record { from = edge.0.from.0; to = edge.0.to.0 } in
        let number = edge_number edge (Contains-get_or (edge_vars it spots) k d low) in (
          λ one. taken_steps path ends (mark_one (takes path ends) (sym number ∙ one)),
          λ steps. number ∙ ap mark_of (steps_taken path ends steps),
        );
  }
