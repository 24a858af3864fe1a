-- At a point that marks a path, the row of some blocks is what the path spends in them.
use Rattle.std.proofs.Common.{◌≡◌, ◌<◌, ◌≤◌, ◌+◌, ⊎_elim, ℕ, zero, suc, Bool, true, false, ◌||◌, ◌&&◌, cond, eqb, ℤ, pos, ◌*ℤ◌, List, [], ◌∷◌, length, get_or, refl, sym, ◌∙◌, ap, subst, arith}
use Rattle.std.specs.List.{Contains}
use Rattle.std.proofs.lemmas.Bool.{cases_lt}
use Rattle.std.proofs.lemmas.Bool.Decides.{Decides-eqb, nat_tests}
use Rattle.std.proofs.lemmas.Int.{ints}
use Rattle.flow_graph.specs.declared.edge.Edge.{Edge}
use Rattle.flow_graph.specs.Paths.{HasEdge}
use Rattle.flow_graph.specs.Sorted.{AreSorted}
use Rattle.block_order.specs.Walk.{IsChain}
use Rattle.flow_rules.proofs.OrderLaws.{flow_forward}
use Rattle.ll_flow.proofs.PlaceLaws.{no_item, cons_cases}
use Rattle.ll_verifier.specs.Sound.{SoundFunc, IsSound}
use Rattle.mix_system.specs.declared.row.Part.{Part}
use Rattle.mix_system.specs.Row.{number_at, row_value}
use Rattle.mix_system.proofs.SumLaws.{int_sum_by-append}
use Rattle.wrap_rows.specs.Normal.{row_of}
use Rattle.wrap_rows.specs.Piece.{mark_of}
use Rattle.wrap_rows.proofs.CaseLaws.{by_test}
use Rattle.wrap_rows.proofs.SumLaws.{row_of-value}
use Rattle.portion_cuts.specs.Paths.{PositionCosts, IsPath, spends_in, passes, takes}
use Rattle.portion_cuts.proofs.BestLaws.{edge_at, Rising, rising, forward_in}
use Rattle.cost_rows.specs.Rows.{block_parts, edge_parts, spend_parts, MarksPath}

-- ---- sums of what is marked

-- what the blocks cost that are marked, of so many from a position on
counted : (ℕ → ℕ) → (ℕ → Bool) → ℕ → ℕ → ℕ
counted costs on at zero = 0
counted costs on at (suc count) = cond (on at) (costs at) 0 + counted costs on (at + 1) count

-- what the edges cost that are marked
taken : (Edge → ℕ) → (Edge → Bool) → List Edge → ℕ
taken costs on [] = 0
taken costs on (edge ∷ edges) = cond (on edge) (costs edge) 0 + taken costs on edges

marked : (cost : ℕ) (on : Bool) → pos cost *ℤ mark_of on ≡ pos (cond on cost 0)
marked cost true = omega (arith, ints)
marked cost false = omega (arith, ints)

blocks_value : (costs : ℕ → ℕ) (on : ℕ → Bool) (point : List ℤ) (at : ℕ) (vars : List ℕ) → ((k : ℕ) → k < length vars → number_at point (get_or vars k 0) ≡ mark_of (on (at + k)))
    → row_value (block_parts costs at vars) point ≡ pos (counted costs on at (length vars))
unfolding counted
blocks_value costs on point at [] are = refl
blocks_value costs on point at (var ∷ vars) are =
    let here : number_at point var ≡ mark_of (on at) = are 0 (omega arith) ∙ ap (λ (n : ℕ). mark_of (on n)) (omega arith) in
    let product : pos (costs at) *ℤ number_at point var ≡ pos (cond (on at) (costs at) 0) = ap (λ (n : ℤ). pos (costs at) *ℤ n) here ∙ marked (costs at) (on at) in
    let rest = blocks_value costs on point (at + 1) vars (λ k low. are (suc k) (omega (arith, low)) ∙ ap (λ (n : ℕ). mark_of (on n)) (omega arith)) in
    omega (arith, ints, product, rest)

edges_value : (costs : Edge → ℕ) (on : Edge → Bool) (point : List ℤ) (edges : List Edge) (vars : List ℕ) → length vars ≡ length edges
    → ((k : ℕ) (edge : Edge) → k < length vars → get_or edges k edge ≡ edge → number_at point (get_or vars k 0) ≡ mark_of (on edge))
    → row_value (edge_parts costs edges vars) point ≡ pos (taken costs on edges)
unfolding taken
edges_value costs on point [] [] same are = refl
edges_value costs on point [] (var ∷ vars) same are = absurd (omega (arith, same))
edges_value costs on point (edge ∷ edges) [] same are = absurd (omega (arith, same))
edges_value costs on point (edge ∷ edges) (var ∷ vars) same are =
    let here : number_at point var ≡ mark_of (on edge) = are 0 edge (omega arith) refl in
    let product : pos (costs edge) *ℤ number_at point var ≡ pos (cond (on edge) (costs edge) 0) = ap (λ (n : ℤ). pos (costs edge) *ℤ n) here ∙ marked (costs edge) (on edge) in
    let rest = edges_value costs on point edges vars (omega (arith, same)) (λ k other low is. are (suc k) other (omega (arith, low)) is) in
    omega (arith, ints, product, rest)

-- ---- one more position

counted_none : (costs : ℕ → ℕ) (at count : ℕ) → counted costs (passes []) at count ≡ 0
unfolding counted
counted_none costs at zero = refl
counted_none costs at (suc count) = omega (arith, counted_none costs (at + 1) count)

-- a position before those that are counted
counted_behind : (costs : ℕ → ℕ) (first : ℕ) (path : List ℕ) (at count : ℕ) → first < at → counted costs (passes (first ∷ path)) at count ≡ counted costs (passes path) at count
unfolding counted
counted_behind costs first path at zero low = refl
counted_behind costs first path at (suc count) low =
    let here : passes (first ∷ path) at ≡ passes path at = subst (λ (test : Bool). (test || passes path at) ≡ passes path at) (sym (differ first at low)) refl in
    omega (arith, ap (λ (test : Bool). cond test (costs at) 0) here, counted_behind costs first path (at + 1) count (omega (arith, low)))
  where
    differ : (a b : ℕ) → a < b → eqb a b ≡ false
    differ a b less = grind (arith, nat_tests)

counted_more : (costs : ℕ → ℕ) (first : ℕ) (path : List ℕ) (at count : ℕ) → at ≤ first → first < at + count → passes path first ≡ false
    → counted costs (passes (first ∷ path)) at count ≡ costs first + counted costs (passes path) at count
unfolding counted
counted_more costs first path at zero low high none = absurd (omega (arith, low, high))
counted_more costs first path at (suc count) low high none = ⊎_elim (λ less. later less (counted_more costs first path (at + 1) count (omega (arith, less)) (omega (arith, high)) none)) here (cases_lt at first)
  where
    goal : Type 0
    goal = counted costs (passes (first ∷ path)) at (suc count) ≡ costs first + counted costs (passes path) at (suc count)

    differ : (a b : ℕ) → b < a → eqb a b ≡ false
    differ a b less = grind (arith, nat_tests)

    equal : (a : ℕ) → eqb a a ≡ true
    equal a = (Decides-eqb a a).1 refl

    later : at < first → counted costs (passes (first ∷ path)) (at + 1) count ≡ costs first + counted costs (passes path) (at + 1) count → goal
    later less more =
        let head : passes (first ∷ path) at ≡ passes path at = subst (λ (test : Bool). (test || passes path at) ≡ passes path at) (sym (differ first at less)) refl in
        omega (arith, ap (λ (test : Bool). cond test (costs at) 0) head, more)

    here : first ≤ at → goal
    here order =
        let same : first ≡ at = omega (arith, low, order) in
        let head : passes (first ∷ path) at ≡ true = subst (λ (n : ℕ). (eqb first n || passes path n) ≡ true) same (subst (λ (test : Bool). (test || passes path first) ≡ true) (sym (equal first)) refl) in
        let old : passes path at ≡ false = subst (λ (n : ℕ). passes path n ≡ false) same none in
        omega (arith, ap (λ (test : Bool). cond test (costs at) 0) head, ap (λ (test : Bool). cond test (costs at) 0) old, ap costs same, counted_behind costs first path (at + 1) count (omega (arith, order)))

-- ---- one more edge

-- no edge stands twice
AreApart : List Edge → Type 0
AreApart [] = Unit {0}
AreApart (edge ∷ edges) = (Contains edges edge → ⊥) × AreApart edges

apart : (edges : List Edge) → AreSorted edges → AreApart edges
unfolding AreApart
apart [] sorted = tt
apart (edge ∷ edges) sorted = (
  (λ (k, low, is). ⊎_elim (λ less. omega (arith, ap (λ (e : Edge). e.from) is, less)) (λ equal. omega (arith, ap (λ (e : Edge). e.to) is, equal.1)) (sorted 0 (suc k) edge (omega arith) (omega (arith, low)))),
  apart edges (λ i j d below low. sorted (suc i) (suc j) d (omega (arith, below)) (omega (arith, low))),
)

abbrev goes : ℕ → ℕ → Edge → Bool
goes at next edge = eqb edge.from at && eqb edge.to next

goes_there : (at next : ℕ) → goes at next (edge_at at next) ≡ true
goes_there at next = grind (arith, nat_tests)

goes_along : (at next from to : ℕ) → (eqb from at && eqb to next) ≡ true → (from ≡ at) × (to ≡ next)
goes_along at next from to along = (first at next from to along, second at next from to along)
  where
    first : (at next from to : ℕ) → (eqb from at && eqb to next) ≡ true → from ≡ at
    first at next from to along = grind (arith, nat_tests)

    second : (at next from to : ℕ) → (eqb from at && eqb to next) ≡ true → to ≡ next
    second at next from to along = grind (arith, nat_tests)

taken_none : (costs : Edge → ℕ) (last : ℕ) (edges : List Edge) → taken costs (takes (last ∷ [])) edges ≡ 0
unfolding taken
taken_none costs last [] = refl
taken_none costs last (edge ∷ edges) = omega (arith, taken_none costs last edges)

module _ (costs : Edge → ℕ) (at next : ℕ) (rest : List ℕ) where
  taken_without : (edges : List Edge) → (Contains edges (edge_at at next) → ⊥) → taken costs (takes (at ∷ next ∷ rest)) edges ≡ taken costs (takes (next ∷ rest)) edges
  unfolding taken
  taken_without [] none = refl
  taken_without (edge ∷ edges) none =
      let test : goes at next edge ≡ false = by_test (λ test. goes at next edge ≡ test → test ≡ false) (goes at next edge)
      (λ along is. let ends = goes_along at next edge.from edge.to along in absurd (none (0, omega arith, subst (λ (n : ℕ). edge ≡ edge_at n next) ends.0 (subst (λ (n : ℕ). edge ≡ edge_at edge.from n) ends.1 refl)))) (λ no is. refl) refl in
      let here : takes (at ∷ next ∷ rest) edge ≡ takes (next ∷ rest) edge = ap (λ (test : Bool). test || takes (next ∷ rest) edge) test in
      omega (arith, ap (λ (test : Bool). cond test (costs edge) 0) here, taken_without edges (λ (k, low, is). none (suc k, omega (arith, low), is)))

  taken_more : (edges : List Edge) → AreApart edges → HasEdge edges at next → takes (next ∷ rest) (edge_at at next) ≡ false
      → taken costs (takes (at ∷ next ∷ rest)) edges ≡ costs (edge_at at next) + taken costs (takes (next ∷ rest)) edges
  unfolding taken AreApart
  taken_more [] are there none = absurd (no_item (edge_at at next) there)
  taken_more (edge ∷ edges) are there none = ⊎_elim here (λ also. later also (taken_more edges are.1 also none)) (cons_cases edge edges (edge_at at next) there)
    where
      goal : Type 0
      goal = taken costs (takes (at ∷ next ∷ rest)) (edge ∷ edges) ≡ costs (edge_at at next) + taken costs (takes (next ∷ rest)) (edge ∷ edges)

      here : edge ≡ edge_at at next → goal
      here same =
          let test : takes (at ∷ next ∷ rest) edge ≡ true = subst (λ (e : Edge). (goes at next e || takes (next ∷ rest) e) ≡ true) (sym same) (ap (λ (test : Bool). test || takes (next ∷ rest) (edge_at at next)) (goes_there at next)) in
          let old : takes (next ∷ rest) edge ≡ false = subst (λ (e : Edge). takes (next ∷ rest) e ≡ false) (sym same) none in
          let behind = taken_without edges (λ also. are.0 (subst (Contains edges) (sym same) also)) in
          omega (arith, ap (λ (test : Bool). cond test (costs edge) 0) test, ap (λ (test : Bool). cond test (costs edge) 0) old, ap costs same, behind)

      later : Contains edges (edge_at at next) → taken costs (takes (at ∷ next ∷ rest)) edges ≡ costs (edge_at at next) + taken costs (takes (next ∷ rest)) edges → goal
      later also more =
          let test : goes at next edge ≡ false = by_test (λ test. goes at next edge ≡ test → test ≡ false) (goes at next edge)
          (λ along is. let ends = goes_along at next edge.from edge.to along in absurd (are.0 (subst (Contains edges) (subst (λ (n : ℕ). edge_at n next ≡ edge) ends.0 (subst (λ (n : ℕ). edge_at edge.from n ≡ edge) ends.1 refl)) also))) (λ no is. refl) refl in
          let head : takes (at ∷ next ∷ rest) edge ≡ takes (next ∷ rest) edge = ap (λ (test : Bool). test || takes (next ∷ rest) edge) test in
          omega (arith, ap (λ (test : Bool). cond test (costs edge) 0) head, more)

-- ---- a path goes forward

module _ (edges : List Edge) (forward : Rising edges) where
  behind_path : (before at : ℕ) (rest : List ℕ) → before ≤ at → IsChain edges at rest → passes rest before ≡ false
  behind_path before at [] low chain = refl
  behind_path before at (next ∷ rest) low chain =
      let step = forward_in edges forward (edge_at at next) chain.0 in
      let off : eqb next before ≡ false = differ next before (omega (arith, low, step)) in
      subst (λ (test : Bool). (test || passes rest before) ≡ false) (sym off) (behind_path before next rest (omega (arith, low, step)) chain.1)
    where
      differ : (a b : ℕ) → b < a → eqb a b ≡ false
      differ a b less = grind (arith, nat_tests)

  behind_edges : (edge : Edge) (at : ℕ) (rest : List ℕ) → edge.from < at → IsChain edges at rest → takes (at ∷ rest) edge ≡ false
  behind_edges edge at [] low chain = refl
  behind_edges edge at (next ∷ rest) low chain =
      let step = forward_in edges forward (edge_at at next) chain.0 in
      let off : goes at next edge ≡ false = ap (λ (test : Bool). test && eqb edge.to next) (differ edge.from at low) in
      subst (λ (test : Bool). (test || takes (next ∷ rest) edge) ≡ false) (sym off) (behind_edges edge next rest (omega (arith, low, step)) chain.1)
    where
      differ : (a b : ℕ) → a < b → eqb a b ≡ false
      differ a b less = grind (arith, nat_tests)

  module _ (costs : PositionCosts) (inside : ℕ → Bool) (count : ℕ) (once : AreApart edges) (within : (from to : ℕ) → HasEdge edges from to → to < count) where
    abbrev block_cost : ℕ → ℕ
    block_cost at = cond (inside at) (costs.block at) 0

    abbrev edge_cost : Edge → ℕ
    edge_cost edge = cond (inside edge.from) (costs.edge edge.from edge.to) 0

    split : (test : Bool) (block edge : ℕ) → cond test (block + edge) 0 ≡ cond test block 0 + cond test edge 0
    split true block edge = refl
    split false block edge = refl

    spent : (at : ℕ) (rest : List ℕ) → at < count → IsChain edges at rest
        → counted block_cost (passes (at ∷ rest)) 0 count + taken edge_cost (takes (at ∷ rest)) edges ≡ spends_in costs inside (at ∷ rest)
    spent at [] low chain =
        omega (arith, counted_more block_cost at [] 0 count (omega arith) (omega (arith, low)) refl, counted_none block_cost 0 count, taken_none edge_cost at edges)
    spent at (next ∷ rest) low chain =
        let step = forward_in edges forward (edge_at at next) chain.0 in
        let block = counted_more block_cost at (next ∷ rest) 0 count (omega arith) (omega (arith, low)) (behind_path at at (next ∷ rest) (omega arith) chain) in
        let edge = taken_more edge_cost at next rest edges once chain.0 (behind_edges (edge_at at next) next rest step chain.1) in
        omega (arith, block, edge, split (inside at) (costs.block at) (costs.edge at next), spent next rest (within at next chain.0) chain.1)

-- ---- the row

module _ (it : SoundFunc) (sound : IsSound it) (costs : PositionCosts) (inside : ℕ → Bool) (path : List ℕ) (block_vars edge_vars : List ℕ) (point : List ℤ) where
  parts_value : MarksPath path it.flow.edges block_vars edge_vars point → length edge_vars ≡ length it.flow.edges
      → row_value (spend_parts costs inside it.flow.edges block_vars edge_vars) point
      ≡ pos (counted (λ at. cond (inside at) (costs.block at) 0) (passes path) 0 (length block_vars) + taken (λ edge. cond (inside edge.from) (costs.edge edge.from edge.to) 0) (takes path) it.flow.edges)
  parts_value marks edges_size =
      let block_cost : ℕ → ℕ = λ at. cond (inside at) (costs.block at) 0 in
      let edge_cost : Edge → ℕ = λ edge. cond (inside edge.from) (costs.edge edge.from edge.to) 0 in
      let blocks = blocks_value block_cost (passes path) point 0 block_vars (λ k low. marks.blocks k low ∙ ap (λ (n : ℕ). mark_of (passes path n)) (omega arith)) in
      let edges = edges_value edge_cost (takes path) point it.flow.edges edge_vars edges_size marks.edges in
      let both = int_sum_by-append (λ (part : Part). part.coeff *ℤ number_at point part.var) (block_parts block_cost 0 block_vars) (edge_parts edge_cost it.flow.edges edge_vars) in
      omega (arith, ints, blocks, edges, both)

  pub row_spends : IsPath it.flow.edges path → MarksPath path it.flow.edges block_vars edge_vars point → length block_vars ≡ length it.flow.order → length edge_vars ≡ length it.flow.edges
      → row_value (row_of (spend_parts costs inside it.flow.edges block_vars edge_vars)) point ≡ pos (spends_in costs inside path)
  row_spends is marks blocks_size edges_size =
      row_of-value point (spend_parts costs inside it.flow.edges block_vars edge_vars) ∙ parts_value marks edges_size ∙ ap pos (sums path is)
    where
      sums : (path : List ℕ) → IsPath it.flow.edges path
          → counted (λ at. cond (inside at) (costs.block at) 0) (passes path) 0 (length block_vars) + taken (λ edge. cond (inside edge.from) (costs.edge edge.from edge.to) 0) (takes path) it.flow.edges ≡ spends_in costs inside path
      sums [] is = absurd is
      sums (first ∷ rest) is =
          spent it.flow.edges (rising (length it.flow.order) it.flow.edges (flow_forward (length it.func.blocks) it.flow sound.flow.flow)) costs inside (length block_vars) (apart it.flow.edges sound.flow.flow.edges.sorted)
          (λ from to there. omega (arith, blocks_size, ((sound.flow.flow.edges.same from to).0 there).1)) first rest (omega (arith, is.0, blocks_size, sound.flow.entry, sound.flow.flow.size)) is.1
