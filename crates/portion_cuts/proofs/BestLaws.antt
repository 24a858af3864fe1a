-- What is found from the last edge to the first is the most that paths spend from each position on.
use Rattle.std.proofs.Common.{◌≡◌, ◌<◌, ◌≤◌, ◌+◌, ◌-◌, ◌⊎◌, inl, inr, ⊎_elim, ℕ, suc, List, [], ◌∷◌, length, get_or, set, drop, map, true, false, eqb, refl, sym, ◌∙◌, ap, subst, arith, get_or-set_other, get_or-set_same}
use Rattle.std.specs.Prelude.{max}
use Rattle.std.specs.List.{All, AllPairs, Contains}
use Rattle.std.proofs.lemmas.Bool.{cases_lt, cond_both, true≢false}
use Rattle.std.proofs.lemmas.Bool.Decides.{Decides-eqb}
use Rattle.std.proofs.lemmas.List.{at_drop_all, get_or_default, length-map, get_or-map, drop_more}
use Rattle.std.proofs.lemmas.List.Elements.{All-contains, Contains-get_or}
use Rattle.std.proofs.Math.ListN.{length-set}
use Rattle.flow_graph.specs.declared.edge.Edge.{Edge}
use Rattle.flow_graph.specs.Paths.{IsForward, HasEdge}
use Rattle.block_order.specs.Walk.{IsChain}
use Rattle.flow_rules.proofs.OrderLaws.{flow_forward}
use Rattle.ll_flow.proofs.PlaceLaws.{no_item, cons_cases}
use Rattle.ll_verifier.specs.declared.order.PositionEdge.{PositionEdge}
use Rattle.ll_verifier.specs.Order.{position_edge}
use Rattle.ll_verifier.specs.Sound.{SoundFunc, IsSound}
use Rattle.sound_costs.specs.Costs.{FuncCosts}
use Rattle.portion_cuts.specs.declared.portion.Portion.{Portion}
use Rattle.portion_cuts.specs.Paths.{PositionCosts, costs_at, IsPath, leaving, spends, IsLongest}
use Rattle.portion_cuts.specs.Best.{best_from, AreBest}

abbrev pub edge_at : ℕ → ℕ → Edge
edge_at from to = record { from = from; to = to }

-- each edge leads to a later position, and those behind it leave no earlier one
abbrev pub Rising : List Edge → Type 0
Rising [] = Unit {0}
Rising (edge ∷ edges) = (edge.from < edge.to) × ((other : Edge) → Contains edges other → edge.from ≤ other.from) × Rising edges

rising_of : (edges : List Edge) → All (λ edge. edge.from < edge.to) edges → AllPairs (λ edge next. edge.from ≤ next.from) edges → Rising edges
rising_of [] later sorted = tt
rising_of (edge ∷ edges) later sorted = (
  later 0 edge (omega arith),
  (λ other (k, low, is). subst (λ (e : Edge). edge.from ≤ e.from) is (sorted 0 (suc k) other (omega arith) (omega (arith, low)))),
  rising_of edges (λ k d low. later (suc k) d (omega (arith, low))) (λ i j d below low. sorted (suc i) (suc j) d (omega (arith, below)) (omega (arith, low))),
)

pub rising : (blocks : ℕ) (edges : List Edge) → IsForward blocks edges → Rising edges
rising blocks edges forward = rising_of edges forward.later forward.sorted

pub forward_in : (edges : List Edge) → Rising edges → (edge : Edge) → Contains edges edge → edge.from < edge.to
forward_in [] is edge there = absurd (no_item edge there)
forward_in (first ∷ edges) is edge there =
    ⊎_elim (λ same. subst (λ (e : Edge). e.from < e.to) same is.0) (λ later. forward_in edges is.2 edge later) (cons_cases first edges edge there)

weaken : (edge : Edge) (edges : List Edge) (at : ℕ) (rest : List ℕ) → IsChain edges at rest → IsChain (edge ∷ edges) at rest
weaken edge edges at [] chain = tt
weaken edge edges at (next ∷ rest) chain = ((suc chain.0.0, omega (arith, chain.0.1), chain.0.2), weaken edge edges next rest chain.1)

-- a path that begins behind the first edge doesn't take it
stays_behind : (edge : Edge) (edges : List Edge) (at : ℕ) (rest : List ℕ) → Rising (edge ∷ edges) → edge.from < at → IsChain (edge ∷ edges) at rest → IsChain edges at rest
stays_behind edge edges at [] is low chain = tt
stays_behind edge edges at (next ∷ rest) is low chain = by_cases (stays_behind edge edges next rest is) (cons_cases edge edges (edge_at at next) chain.0)
  where
    by_cases : (edge.from < next → IsChain (edge ∷ edges) next rest → IsChain edges next rest) → (edge ≡ edge_at at next) ⊎ Contains edges (edge_at at next) → IsChain edges at (next ∷ rest)
    by_cases more (inl same) = absurd (omega (arith, low, ap (λ (e : Edge). e.from) same))
    by_cases more (inr there) = (there, more (omega (arith, low, forward_in edges is.2 (edge_at at next) there)) chain.1)

module _ (costs : PositionCosts) (portion : Portion) where
  grows : (edge : Edge) (edges : List Edge) (at : ℕ) → best_from costs portion edges at ≤ best_from costs portion (edge ∷ edges) at
  grows edge edges at =
      let old = best_from costs portion edges at in
      let over = leaving costs portion edge.from edge.to + best_from costs portion edges edge.to in
      cond_both (eqb at edge.from) (max old over) old (λ (n : ℕ). old ≤ n) (λ yes. omega arith) (λ no. omega arith)

  takes : (edge : Edge) (edges : List Edge) → leaving costs portion edge.from edge.to + best_from costs portion edges edge.to ≤ best_from costs portion (edge ∷ edges) edge.from
  takes edge edges =
      let old = best_from costs portion edges edge.from in
      let over = leaving costs portion edge.from edge.to + best_from costs portion edges edge.to in
      cond_both (eqb edge.from edge.from) (max old over) old (λ (n : ℕ). over ≤ n) (λ yes. omega arith)
      (λ no. absurd (true≢false (sym ((Decides-eqb edge.from edge.from).1 refl) ∙ no)))

  -- no path spends more
  pub at_most : (edges : List Edge) → Rising edges → (at : ℕ) (rest : List ℕ) → IsChain edges at rest → spends costs portion (at ∷ rest) ≤ best_from costs portion edges at
  at_most [] is at [] chain = omega arith
  at_most [] is at (next ∷ rest) chain = absurd (no_item (edge_at at next) chain.0)
  at_most (edge ∷ edges) is at [] chain = omega (arith, at_most edges is.2 at [] tt, grows edge edges at)
  at_most (edge ∷ edges) is at (next ∷ rest) chain = by_cases (at_most edges is.2) (cons_cases edge edges (edge_at at next) chain.0)
    where
      by_cases : ((at : ℕ) (rest : List ℕ) → IsChain edges at rest → spends costs portion (at ∷ rest) ≤ best_from costs portion edges at) → (edge ≡ edge_at at next) ⊎ Contains edges (edge_at at next) → spends costs portion (at ∷ next ∷ rest) ≤ best_from costs portion (edge ∷ edges) at
      by_cases more (inl same) =
          let low : edge.from < next = subst (λ (e : Edge). edge.from < e.to) same is.0 in
          let behind = more next rest (stays_behind edge edges next rest is low chain.1) in
          let over : leaving costs portion at next + best_from costs portion edges next ≤ best_from costs portion (edge ∷ edges) at =
          subst (λ (e : Edge). leaving costs portion e.from e.to + best_from costs portion edges e.to ≤ best_from costs portion (edge ∷ edges) e.from) same (takes edge edges) in
          omega (arith, behind, over)
      by_cases more (inr there) =
          let low : edge.from < next = omega (arith, is.1 (edge_at at next) there, forward_in edges is.2 (edge_at at next) there) in
          omega (arith, more at (next ∷ rest) (there, stays_behind edge edges next rest is low chain.1), grows edge edges at)

  abbrev Attains : List Edge → ℕ → ℕ → Type 0
  Attains edges at most = (rest : List ℕ) × IsChain edges at rest × (spends costs portion (at ∷ rest) ≡ most)

  attains_more : (edge : Edge) (edges : List Edge) (at most : ℕ) → Attains edges at most → Attains (edge ∷ edges) at most
  attains_more edge edges at most (rest, chain, is) = (rest, weaken edge edges at rest chain, is)

  -- some path spends so much
  pub attained : (edges : List Edge) (at : ℕ) → Attains edges at (best_from costs portion edges at)
  attained [] at = ([], tt, refl)
  attained (edge ∷ edges) at =
      let old = best_from costs portion edges at in
      let over = leaving costs portion edge.from edge.to + best_from costs portion edges edge.to in
      let stay : Attains (edge ∷ edges) at old = attains_more edge edges at old (attained edges at) in
      cond_both (eqb at edge.from) (max old over) old (Attains (edge ∷ edges) at)
      (λ yes. by_size at ((Decides-eqb at edge.from).0 yes) stay (attained edges edge.to) (cases_lt old over))
      (λ no. stay)
    where
      by_size : (at : ℕ) → at ≡ edge.from → Attains (edge ∷ edges) at (best_from costs portion edges at) → Attains edges edge.to (best_from costs portion edges edge.to)
          → (best_from costs portion edges at < leaving costs portion edge.from edge.to + best_from costs portion edges edge.to) ⊎ (leaving costs portion edge.from edge.to + best_from costs portion edges edge.to ≤ best_from costs portion edges at)
          → Attains (edge ∷ edges) at (max (best_from costs portion edges at) (leaving costs portion edge.from edge.to + best_from costs portion edges edge.to))
      by_size at same stay (rest, chain, is) (inl less) =
          let sum : leaving costs portion at edge.to + spends costs portion (edge.to ∷ rest) ≡ max (best_from costs portion edges at) (leaving costs portion edge.from edge.to + best_from costs portion edges edge.to) =
          ap (λ (n : ℕ). leaving costs portion n edge.to + spends costs portion (edge.to ∷ rest)) same ∙ omega (arith, is, less) in
          (edge.to ∷ rest, ((0, omega arith, ap (λ (n : ℕ). edge_at n edge.to) (sym same)), weaken edge edges edge.to rest chain), sum)
      by_size at same stay further (inr more) =
          subst (Attains (edge ∷ edges) at) (omega (arith, more)) stay

  -- ---- an edge more

  pub one_more : (edge : Edge) (edges : List Edge) (best : List ℕ) → AreBest costs portion edges best → edge.from < length best → edge.to < length best
      → AreBest costs portion (edge ∷ edges) (set best edge.from (max (get_or best edge.from 0) (leaving costs portion edge.from edge.to + get_or best edge.to 0)))
  one_more edge edges best are from_low to_low at low =
      let old = best_from costs portion edges at in
      let over = leaving costs portion edge.from edge.to + best_from costs portion edges edge.to in
      let now = max (get_or best edge.from 0) (leaving costs portion edge.from edge.to + get_or best edge.to 0) in
      let within : at < length best = omega (arith, low, length-set best edge.from now) in
      cond_both (eqb at edge.from) (max old over) old (λ (n : ℕ). get_or (set best edge.from now) at 0 ≡ n)
      (λ yes.
      let same : at ≡ edge.from = (Decides-eqb at edge.from).0 yes in
      let here : get_or (set best edge.from now) edge.from 0 ≡ now = rw get_or-set_same refl in
      let value : now ≡ max (best_from costs portion edges edge.from) over = ap (λ (n : ℕ). max n (leaving costs portion edge.from edge.to + get_or best edge.to 0)) (are edge.from from_low) ∙ ap (λ (n : ℕ). max (best_from costs portion edges edge.from) (leaving costs portion edge.from edge.to + n)) (are edge.to to_low) in
      subst (λ (n : ℕ). get_or (set best edge.from now) n 0 ≡ max (best_from costs portion edges n) over) (sym same) (here ∙ value))
      (λ no.
      let apart : (at ≡ edge.from → ⊥) = λ same. true≢false (sym ((Decides-eqb at edge.from).1 same) ∙ no) in
      rw get_or-set_other (are at within))

-- ---- edges by positions

pub edge_is : (edges : List Edge) (at : ℕ) (edge : PositionEdge) → at < length (map position_edge edges) → edge ≡ get_or (map position_edge edges) at edge → edge_at edge.from.0 edge.to.0 ≡ get_or edges at (edge_at 0 0)
edge_is edges at edge low is =
    let same : edge ≡ position_edge (get_or edges at (edge_at 0 0)) = is ∙ get_or-map position_edge edges at (edge_at 0 0) edge (omega (arith, low, length-map edges position_edge)) in
    ap (λ (e : PositionEdge). edge_at e.from.0 e.to.0) same

pub drop_edge : (edges : List Edge) (at : ℕ) → at < length edges → drop at edges ≡ get_or edges at (edge_at 0 0) ∷ drop (at + 1) edges
drop_edge edges at low = drop_more edges at (edge_at 0 0) low

pub edge_there : (edges : List Edge) (at : ℕ) (edge : PositionEdge) → at < length (map position_edge edges) → edge ≡ get_or (map position_edge edges) at edge → Contains edges (edge_at edge.from.0 edge.to.0)
edge_there edges at edge low is = subst (Contains edges) (sym (edge_is edges at edge low is)) (Contains-get_or edges at (edge_at 0 0) (omega (arith, low, length-map edges position_edge)))

-- the loop goes on by the edge before those that are done
pub step_back : (costs : PositionCosts) (portion : Portion) (edges : List Edge) (at : ℕ) (edge : PositionEdge) (best : List ℕ) → at < length (map position_edge edges) → edge ≡ get_or (map position_edge edges) at edge → edge.from.0 < length best → edge.to.0 < length best
    → AreBest costs portion (drop (at + 1) edges) best
    → AreBest costs portion (drop at edges) (set best edge.from.0 (max (get_or best edge.from.0 0) (leaving costs portion edge.from.0 edge.to.0 + get_or best edge.to.0 0)))
step_back costs portion edges at edge best low is from_low to_low are =
    let front : drop at edges ≡ edge_at edge.from.0 edge.to.0 ∷ drop (at + 1) edges = drop_edge edges at (omega (arith, low, length-map edges position_edge)) ∙ ap (λ (e : Edge). e ∷ drop (at + 1) edges) (sym (edge_is edges at edge low is)) in
    subst (λ (list : List Edge). AreBest costs portion list (set best edge.from.0 (max (get_or best edge.from.0 0) (leaving costs portion edge.from.0 edge.to.0 + get_or best edge.to.0 0)))) (sym front)
    (one_more costs portion (edge_at edge.from.0 edge.to.0) (drop (at + 1) edges) best are from_low to_low)

pub longest_is : (it : SoundFunc) → IsSound it → (costs : FuncCosts) (portion : Portion) (best : List ℕ) → 0 < length best → AreBest (costs_at it costs) portion (drop 0 it.flow.edges) best → IsLongest it costs portion (get_or best 0 0)
longest_is it sound costs portion best some are =
    let is : get_or best 0 0 ≡ best_from (costs_at it costs) portion it.flow.edges 0 = are 0 some in
    let end = attained (costs_at it costs) portion it.flow.edges 0 in
    record {
      at_most = λ path along. none_more path along is;
      reached = (0 ∷ end.0, (refl, end.1), end.2 ∙ sym is);
    }
  where
    none_more : (path : List ℕ) → IsPath it.flow.edges path → get_or best 0 0 ≡ best_from (costs_at it costs) portion it.flow.edges 0 → spends (costs_at it costs) portion path ≤ get_or best 0 0
    none_more [] along is = absurd along
    none_more (first ∷ rest) along is =
        let forward = rising (length it.flow.order) it.flow.edges (flow_forward (length it.func.blocks) it.flow sound.flow.flow) in
        let here = at_most (costs_at it costs) portion it.flow.edges forward 0 rest (subst (λ (n : ℕ). IsChain it.flow.edges n rest) along.0 along.1) in
        let start : spends (costs_at it costs) portion (first ∷ rest) ≡ spends (costs_at it costs) portion (0 ∷ rest) = ap (λ (n : ℕ). spends (costs_at it costs) portion (n ∷ rest)) along.0 in
        omega (arith, here, start, is)

-- ---- the loop over the edges of a function

abbrev pub no_edge : PositionEdge
no_edge = position_edge (edge_at 0 0)

-- the edge at a place of the list is that of the graph
pub edge_of_list : (edges : List Edge) (list : List PositionEdge) → list ≡ map position_edge edges → (at : ℕ) → at < length edges
    → get_or edges at (edge_at (get_or list at no_edge).from.0 (get_or list at no_edge).to.0) ≡ edge_at (get_or list at no_edge).from.0 (get_or list at no_edge).to.0
edge_of_list edges list lists at low =
    let same : get_or list at no_edge ≡ position_edge (get_or edges at (edge_at 0 0)) = ap (λ (l : List PositionEdge). get_or l at no_edge) lists ∙ get_or-map position_edge edges at (edge_at 0 0) no_edge low in
    get_or_default edges at (edge_at (get_or list at no_edge).from.0 (get_or list at no_edge).to.0) (edge_at 0 0) low ∙ sym (ap (λ (e : PositionEdge). edge_at e.from.0 e.to.0) same)

-- what is asked where an edge is taken
pub record CanRelax (it : SoundFunc) (edge : PositionEdge) : Type 0 where
  pub there : HasEdge it.flow.edges edge.from.0 edge.to.0
  pub forward : edge.from.0 < edge.to.0
  pub within : edge.to.0 < length it.flow.order
  pub few : length it.flow.order ≤ 256

pub can_relax : (it : SoundFunc) → IsSound it → (list : List PositionEdge) → list ≡ map position_edge it.flow.edges → (at : ℕ) → at < length list → CanRelax it (get_or list at no_edge)
can_relax it sound list lists at low =
    let edge = get_or list at no_edge in
    let short : at < length (map position_edge it.flow.edges) = subst (λ (l : List PositionEdge). at < length l) lists low in
    let same : edge ≡ get_or (map position_edge it.flow.edges) at edge = get_or_default list at no_edge edge low ∙ ap (λ (l : List PositionEdge). get_or l at edge) lists in
    let there : HasEdge it.flow.edges edge.from.0 edge.to.0 = edge_there it.flow.edges at edge short same in
    let forward = flow_forward (length it.func.blocks) it.flow sound.flow.flow in
    record {
      there = there;
      forward = All-contains (λ (e : Edge). e.from < e.to) it.flow.edges (edge_at edge.from.0 edge.to.0) forward.later there;
      within = All-contains (λ (e : Edge). e.to < length it.flow.order) it.flow.edges (edge_at edge.from.0 edge.to.0) forward.within there;
      few = omega (arith, sound.flow.flow.size, sound.rules.limits.blocks);
    }

pub back_once : (costs : PositionCosts) (portion : Portion) (edges : List Edge) (list : List PositionEdge) → list ≡ map position_edge edges → (left : ℕ) (best now : List ℕ) → 0 < left → left - 1 < length list
    → (get_or list (left - 1) no_edge).from.0 < (get_or list (left - 1) no_edge).to.0 → (get_or list (left - 1) no_edge).to.0 < length best
    → AreBest costs portion (drop left edges) best
    → now ≡ set best (get_or list (left - 1) no_edge).from.0 (max (get_or best (get_or list (left - 1) no_edge).from.0 0) (leaving costs portion (get_or list (left - 1) no_edge).from.0 (get_or list (left - 1) no_edge).to.0 + get_or best (get_or list (left - 1) no_edge).to.0 0))
    → AreBest costs portion (drop (left - 1) edges) now
back_once costs portion edges list lists left best now some low forward within are puts =
    let at = left - 1 in
    let edge = get_or list at no_edge in
    let one : left ≡ at + 1 = omega (arith, some) in
    let short : at < length (map position_edge edges) = subst (λ (l : List PositionEdge). at < length l) lists low in
    let same : edge ≡ get_or (map position_edge edges) at edge = get_or_default list at no_edge edge low ∙ ap (λ (l : List PositionEdge). get_or l at edge) lists in
    let before : AreBest costs portion (drop (at + 1) edges) best = subst (λ (n : ℕ). AreBest costs portion (drop n edges) best) one are in
    subst (λ (l : List ℕ). AreBest costs portion (drop at edges) l) (sym puts)
    (step_back costs portion edges at edge best short same (omega (arith, forward, within)) within before)

pub none_yet : (costs : PositionCosts) (portion : Portion) (edges : List Edge) (list : List PositionEdge) → list ≡ map position_edge edges → (best : List ℕ) → AreBest costs portion [] best → AreBest costs portion (drop (length list) edges) best
none_yet costs portion edges list lists best are =
    subst (λ (l : List Edge). AreBest costs portion l best) (sym (at_drop_all (λ (l : List Edge). l) edges (length list) (omega (arith, ap length lists, length-map edges position_edge)))) are
