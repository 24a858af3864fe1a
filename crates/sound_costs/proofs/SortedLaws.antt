-- Sorted edges: there is one list of the same edges.
use Rattle.std.proofs.Common.{◌≡◌, ◌<◌, ◌≤◌, ◌+◌, ◌⊎◌, ⊎_elim, inl, inr, ℕ, zero, suc, List, [], ◌∷◌, map, refl, sym, ◌∙◌, ap, subst, arith}
use Rattle.std.specs.List.{Contains, range_with_len}
use Rattle.std.proofs.lemmas.List.Elements.{Contains-append_left, Contains-append_right, Contains-append_cases}
use Rattle.std.proofs.lemmas.List.FromFn.{get_or-map-range_with_len, length-map-range_with_len}
use Rattle.flow_graph.specs.declared.edge.Edge.{Edge}
use Rattle.flow_graph.specs.Sorted.{ComesBefore, AreSorted}
use Rattle.ll_flow.proofs.PlaceLaws.{no_item, cons_cases}
use Rattle.sound_costs.specs.Edges.{between, pairs_of}
use Rattle.sound_costs.proofs.MemberLaws.{first_of, later_of, joined, mapped, unmapped, count_of}

-- ---- what comes before what

not_before : (edge : Edge) → ComesBefore edge edge → ⊥
not_before edge (inl less) = omega (arith, less)
not_before edge (inr more) = omega (arith, more.1)

not_both : (edge other : Edge) → ComesBefore edge other → ComesBefore other edge → ⊥
not_both edge other (inl a) (inl b) = omega (arith, a, b)
not_both edge other (inl a) (inr b) = omega (arith, a, b.0)
not_both edge other (inr a) (inl b) = omega (arith, a.0, b)
not_both edge other (inr a) (inr b) = omega (arith, a.1, b.1)

rest_sorted : (edge : Edge) (edges : List Edge) → AreSorted (edge ∷ edges) → AreSorted edges
rest_sorted edge edges sorted i j d below within = sorted (suc i) (suc j) d (omega (arith, below)) (omega (arith, within))

ahead : (edge : Edge) (edges : List Edge) → AreSorted (edge ∷ edges) → (other : Edge) → Contains edges other → ComesBefore edge other
ahead edge edges sorted other (k, within, is) = subst (λ (e : Edge). ComesBefore edge e) is (sorted 0 (suc k) other (omega arith) (omega (arith, within)))

-- what comes behind the first isn't the first
behind : (edge before first : Edge) (rest : List Edge) → before ≡ first → ComesBefore before edge → (first ≡ edge) ⊎ Contains rest edge → Contains rest edge
behind edge before first rest same comes (inr later) = later
behind edge before first rest same comes (inl is) = absurd (not_before edge (subst (λ (e : Edge). ComesBefore e edge) (same ∙ is) comes))

-- ---- one list

pub one_list : (edges others : List Edge) → AreSorted edges → AreSorted others → ((edge : Edge) → Contains edges edge → Contains others edge) → ((edge : Edge) → Contains others edge → Contains edges edge) → edges ≡ others
one_list [] [] sorted also there back = refl
one_list [] (other ∷ others) sorted also there back = absurd (no_item other (back other (first_of other others)))
one_list (edge ∷ edges) [] sorted also there back = absurd (no_item edge (there edge (first_of edge edges)))
one_list (edge ∷ edges) (other ∷ others) sorted also there back =
    let same : edge ≡ other = heads (cons_cases other others edge (there edge (first_of edge edges))) (cons_cases edge edges other (back other (first_of other others))) in
    let rest : edges ≡ others = one_list edges others (rest_sorted edge edges sorted) (rest_sorted other others also)
    (λ e within. behind e edge other others same (ahead edge edges sorted e within) (cons_cases other others e (there e (later_of edge e edges within))))
    (λ e within. behind e other edge edges (sym same) (ahead other others also e within) (cons_cases edge edges e (back e (later_of other e others within)))) in
    ap (λ (e : Edge). e ∷ edges) same ∙ ap (λ (list : List Edge). other ∷ list) rest
  where
    heads : (other ≡ edge) ⊎ Contains others edge → (edge ≡ other) ⊎ Contains edges other → edge ≡ other
    heads (inl same) found = sym same
    heads (inr later) (inl same) = same
    heads (inr later) (inr found) = absurd (not_both edge other (ahead edge edges sorted other found) (ahead other others also edge later))

-- ---- pairs of places, in order

pub row_from : (from : ℕ) (others : List ℕ) (edge : Edge) → Contains (map (between from) others) edge → (edge.from ≡ from) × Contains others edge.to
row_from from others edge there =
    let it = unmapped (between from) others edge there in
    (sym (ap (λ (e : Edge). e.from) it.2), subst (Contains others) (ap (λ (e : Edge). e.to) it.2) it.1)

row_sorted : (from start count : ℕ) → AreSorted (map (between from) (range_with_len start count))
row_sorted from start count i j d below within =
    let last : j < count = omega (arith, within, length-map-range_with_len (between from) start count) in
    let first : i < count = omega (arith, below, last) in
    rw (get_or-map-range_with_len (between from) start count i (start + i) d first refl, get_or-map-range_with_len (between from) start count j (start + j) d last refl) (inr (refl, omega (arith, below)))

pub pairs_from : (places others : List ℕ) (edge : Edge) → Contains (pairs_of places others) edge → Contains places edge.from × Contains others edge.to
pairs_from [] others edge there = absurd (no_item edge there)
pairs_from (from ∷ places) others edge there =
    ⊎_elim
    (λ here.
    let it = row_from from others edge here in
    (subst (Contains (from ∷ places)) (sym it.0) (first_of from places), it.1))
    (λ later.
    let it = pairs_from places others edge later in
    (later_of from edge.from places it.0, it.1))
    (Contains-append_cases (map (between from) others) (pairs_of places others) edge there)

pub pair_in : (places others : List ℕ) (from to : ℕ) → Contains places from → Contains others to → Contains (pairs_of places others) (between from to)
pair_in [] others from to there also = absurd (no_item from there)
pair_in (first ∷ places) others from to there also =
    ⊎_elim
    (λ same.
    let here : Contains (map (between first) others) (between from to) = subst (λ (n : ℕ). Contains (map (between n) others) (between from to)) (sym same) (mapped (between from) others to also) in
    Contains-append_left (map (between first) others) (pairs_of places others) (between from to) here)
    (λ later. Contains-append_right (map (between first) others) (pairs_of places others) (between from to) (pair_in places others from to later also))
    (cons_cases first places from there)

pub pairs_sorted : (start count first size : ℕ) → AreSorted (pairs_of (range_with_len start count) (range_with_len first size))
pairs_sorted start zero first size = λ i j d below within. absurd (omega (arith, within))
pairs_sorted start (suc count) first size =
    joined ComesBefore (map (between start) (range_with_len first size)) (pairs_of (range_with_len (start + 1) count) (range_with_len first size))
    (row_sorted start first size)
    (pairs_sorted (start + 1) count first size)
    (λ edge other in_row in_rest.
    let here : edge.from ≡ start = (row_from start (range_with_len first size) edge in_row).0 in
    let there : start + 1 ≤ other.from = (count_of (start + 1) count other.from (pairs_from (range_with_len (start + 1) count) (range_with_len first size) other in_rest).0).0 in
    inl (omega (arith, here, there)))
