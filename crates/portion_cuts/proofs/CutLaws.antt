-- Cut positions are those to which no edge before them leads further.
use Rattle.std.proofs.Common.{◌≡◌, ◌<◌, ◌≤◌, ◌+◌, ◌-◌, ◌&&◌, ◌||◌, ℕ, List, [], ◌∷◌, ◌++◌, length, get_or, drop, map, Bool, true, false, not, cond, eqb, ltb, leb, refl, sym, ◌∙◌, ap, subst, arith}
use Rattle.std.specs.Prelude.{max}
use Rattle.std.specs.List.{All, list_any, filter, range_with_len}
use Rattle.std.proofs.lemmas.Bool.Decides.{nat_tests}
use Rattle.std.proofs.lemmas.List.{append-nil, length-map, get_or-map}
use Rattle.std.proofs.lemmas.List.FromFn.{filter_of_map_range_with_len_more}
use Rattle.std.proofs.lemmas.List.Elements.{filter_agree}
use Rattle.flow_graph.specs.declared.edge.Edge.{Edge}
use Rattle.flow_rules.proofs.OrderLaws.{flow_forward}
use Rattle.ll_verifier.specs.declared.order.PositionEdge.{PositionEdge}
use Rattle.ll_verifier.specs.Order.{position_edge}
use Rattle.ll_verifier.specs.Sound.{SoundFunc, IsSound}
use Rattle.portion_cuts.specs.Portions.{passes_over, is_cut, between, portions_of}
use Rattle.portion_cuts.specs.Reach.{step_to, reach_of, AreSteps, ends_there}

-- ---- tests

greater : (from to at rest : ℕ) → leb (max (cond (ltb from at) to 0) rest) at ≡ (not (ltb from at && ltb at to) && leb rest at)
greater from to at rest = grind (arith, nat_tests)

not_either : (a b : Bool) → not (a || b) ≡ (not a && not b)
not_either true b = refl
not_either false b = refl

cut_here : (edges : List Edge) (at : ℕ) → ends_there (map position_edge edges) at ≡ is_cut edges at
cut_here [] at = grind (arith, nat_tests)
cut_here (edge ∷ edges) at =
    greater edge.from edge.to at (reach_of (map position_edge edges) at)
    ∙ ap (λ (b : Bool). not (passes_over at edge) && b) (cut_here edges at)
    ∙ sym (not_either (passes_over at edge) (list_any (passes_over at) edges))

pub cuts_same : (edges : List Edge) (places : List ℕ) → filter (ends_there (map position_edge edges)) places ≡ filter (is_cut edges) places
cuts_same edges places = filter_agree (ends_there (map position_edge edges)) (is_cut edges) (cut_here edges) places

-- ---- how far edges lead

wider : (from to at old step more : ℕ) → max old step ≡ more → max (max (cond (ltb from (at - 1)) to 0) old) (max (cond (eqb (from + 1) at) to 0) step) ≡ max (cond (ltb from at) to 0) more
wider from to at old step more is = grind (arith, nat_tests)

pub reach_more : (edges : List PositionEdge) (at : ℕ) → max (reach_of edges (at - 1)) (step_to edges at) ≡ reach_of edges at
reach_more [] at = refl
reach_more (edge ∷ edges) at = wider edge.from.0 edge.to.0 at (reach_of edges (at - 1)) (step_to edges at) (reach_of edges at) (reach_more edges at)

pub reach_none : (edges : List PositionEdge) → reach_of edges 0 ≡ 0
reach_none [] = refl
reach_none (edge ∷ edges) = none edge.from.0 edge.to.0 (reach_of edges 0) (reach_none edges)
  where
    none : (from to rest : ℕ) → rest ≡ 0 → max (cond (ltb from 0) to 0) rest ≡ 0
    none from to rest is = grind (arith, nat_tests)

-- ---- edge by edge

-- what stands there, with what is left, makes all
abbrev pub IsLeft : List PositionEdge → ℕ → List ℕ → Type 0
IsLeft edges done steps = (at : ℕ) → at < length steps → max (get_or steps at 0) (step_to (drop done edges) at) ≡ step_to edges at

-- ---- position by position

test_yes : (reach at : ℕ) → reach ≤ at → leb reach at ≡ true
test_yes reach at short = grind (arith, nat_tests)

test_no : (reach at : ℕ) → at < reach → leb reach at ≡ false
test_no reach at far = grind (arith, nat_tests)

pub record AreFound (edges : List PositionEdge) (at reach : ℕ) (cuts : List ℕ) : Type 0 where
  pub reach_is : reach ≡ reach_of edges (at - 1)
  pub cuts_are : cuts ≡ filter (ends_there edges) (range_with_len 0 at)

map_same : (xs : List ℕ) → map (λ (k : ℕ). k) xs ≡ xs
map_same [] = refl
map_same (x ∷ xs) = ap (λ (list : List ℕ). x ∷ list) (map_same xs)

filter_more : (test : ℕ → Bool) (count : ℕ) → filter test (range_with_len 0 (count + 1)) ≡ filter test (range_with_len 0 count) ++ cond (test count) (count ∷ []) []
filter_more test count =
    let same : (n : ℕ) → map (λ (k : ℕ). k) (range_with_len 0 n) ≡ range_with_len 0 n = λ n. map_same (range_with_len 0 n) in
    ap (filter test) (sym (same (count + 1))) ∙ filter_of_map_range_with_len_more test (λ (k : ℕ). k) 0 count count (omega arith) ∙ ap (λ (list : List ℕ). filter test list ++ cond (test count) (count ∷ []) []) (same count)

module _ (edges : List PositionEdge) (steps : List ℕ) (are : AreSteps edges steps) (at reach : ℕ) (cuts : List ℕ) (low : at < length steps) (found : AreFound edges at reach cuts) where
  reach_now : max reach (get_or steps at 0) ≡ reach_of edges at
  reach_now = ap (λ (n : ℕ). max n (get_or steps at 0)) found.reach_is ∙ ap (max (reach_of edges (at - 1))) (are at low) ∙ reach_more edges at

  reach_next : max reach (get_or steps at 0) ≡ reach_of edges ((at + 1) - 1)
  reach_next = let back : at ≡ (at + 1) - 1 = omega arith in reach_now ∙ ap (reach_of edges) back

  pub found_yes : max reach (get_or steps at 0) ≤ at → AreFound edges (at + 1) (max reach (get_or steps at 0)) (cuts ++ at ∷ [])
  found_yes short =
      let test : ends_there edges at ≡ true = test_yes (reach_of edges at) at (omega (arith, reach_now, short)) in
      record {
        reach_is = reach_next;
        cuts_are = ap (λ (list : List ℕ). list ++ at ∷ []) found.cuts_are ∙ sym (filter_more (ends_there edges) at ∙ ap (λ (b : Bool). filter (ends_there edges) (range_with_len 0 at) ++ cond b (at ∷ []) []) test);
      }

  pub found_no : at < max reach (get_or steps at 0) → AreFound edges (at + 1) (max reach (get_or steps at 0)) cuts
  found_no far =
      let test : ends_there edges at ≡ false = test_no (reach_of edges at) at (omega (arith, reach_now, far)) in
      record {
        reach_is = reach_next;
        cuts_are = found.cuts_are ∙ sym (filter_more (ends_there edges) at ∙ ap (λ (b : Bool). filter (ends_there edges) (range_with_len 0 at) ++ cond b (at ∷ []) []) test ∙ append-nil (filter (ends_there edges) (range_with_len 0 at)));
      }

-- ---- the edges of a function

pub leave_within : (edges : List Edge) (blocks : ℕ) → All (λ edge. edge.from < blocks) edges → All (λ (edge : PositionEdge). edge.from.0 < blocks) (map position_edge edges)
leave_within edges blocks within = λ k d low.
    let short : k < length edges = omega (arith, low, length-map edges position_edge) in
    subst (λ (edge : PositionEdge). edge.from.0 < blocks) (sym (get_or-map position_edge edges k (record { from = 0; to = 0 }) d short)) (within k (record { from = 0; to = 0 }) short)

-- the portions between the cuts that are found
pub portions_found : (it : SoundFunc) → (list : List PositionEdge) → list ≡ map position_edge it.flow.edges → (blocks : ℕ) → blocks ≡ length it.flow.order → (steps slice cuts again : List ℕ) → slice ≡ steps → again ≡ cuts → length slice ≡ blocks + 1 → AreSteps list steps
    → ((edges : List PositionEdge) → AreSteps edges slice → cuts ≡ filter (ends_there edges) (range_with_len 0 (length slice)))
    → between again ≡ portions_of it
portions_found it list lists blocks count steps slice cuts again same also size are finds =
    let are_here : AreSteps list slice = subst (AreSteps list) (sym same) are in
    let found = finds list are_here in
    let long : length slice ≡ length it.flow.order + 1 = omega (arith, size, count) in
    let all : cuts ≡ filter (ends_there list) (range_with_len 0 (length it.flow.order + 1)) = found ∙ ap (λ (n : ℕ). filter (ends_there list) (range_with_len 0 n)) long in
    ap between (also ∙ all ∙ ap (λ (l : List PositionEdge). filter (ends_there l) (range_with_len 0 (length it.flow.order + 1))) lists ∙ cuts_same it.flow.edges (range_with_len 0 (length it.flow.order + 1)))

pub leaves_within : (it : SoundFunc) → IsSound it → (list : List PositionEdge) → list ≡ map position_edge it.flow.edges → (blocks : ℕ) → blocks ≡ length it.flow.order → All (λ (edge : PositionEdge). edge.from.0 < blocks) list
leaves_within it sound list lists blocks count =
    let forward = flow_forward (length it.func.blocks) it.flow sound.flow.flow in
    let each : All (λ (edge : Edge). edge.from < blocks) it.flow.edges = λ k d low. omega (arith, count, forward.later k d low, forward.within k d low) in
    subst (All (λ (edge : PositionEdge). edge.from.0 < blocks)) (sym lists) (leave_within it.flow.edges blocks each)
