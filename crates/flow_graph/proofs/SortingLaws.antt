-- What is sorted, and has no edge twice.
use Rattle.std.proofs.Common.{◌≡◌, ◌↔◌, ◌<◌, ◌⊎◌, inl, inr, ⊎_elim, ℕ, Bool, true, List, [], length, get_or, refl, ◌∙◌, ap, arith}
use Rattle.std.specs.List.{AllPairs, Contains, dedup}
use Rattle.std.specs.List.Retain.{IsFiltered, DiffersFromLast}
use Rattle.std.specs.List.Sorted.{IsPermutation, IsSorted}
use Rattle.std.specs.Ordering.{nat_cmp, ordering_then}
use Rattle.std.specs.declared.cmp.Ordering.{Ordering}
use Rattle.std.specs.declared.cmp.Ordering.TheVariants.{Less, Equal, Greater}
use Rattle.std.proofs.lemmas.Bool.Decides.{nat_tests}
use Rattle.std.proofs.lemmas.List.Filters.{dedup_is}
use Rattle.std.proofs.lemmas.List.Kept.{Contains-dedup, Contains-from_dedup, IsStrictlySortedBy-dedup}
use Rattle.std.proofs.lemmas.List.Sorted.{Contains-permutation, IsPermutation-sym}
use Rattle.std.proofs.lemmas.Map.Keys.{Less-from_sorted}
use Rattle.flow_graph.specs.declared.edge.Edge.{Edge}
use Rattle.flow_graph.specs.contracts.edge.EdgeEq.TheImpl.Laws as equal_laws
use Rattle.flow_graph.specs.contracts.edge.EdgeOrd.TheImpl as order
use Rattle.flow_graph.specs.contracts.edge.EdgeOrd.TheImpl.Laws as order_laws
use Rattle.flow_graph.specs.contracts.edge.EdgePartialEq.TheImpl as equality
use Rattle.flow_graph.specs.Paths.{HasEdge}
use Rattle.flow_graph.specs.Sorted.{ComesBefore, AreSorted, AreSame}

abbrev pub edge_cmp : Edge → Edge → Ordering
edge_cmp = (order.ghosts).cmp

abbrev pub edge_eq : Edge → Edge → Bool
edge_eq = (equality.ghosts).eq

nat_less : (x y : ℕ) → nat_cmp x y ≡ Less → x < y
nat_less x y is = grind (arith, nat_tests)

nat_equal : (x y : ℕ) → nat_cmp x y ≡ Equal → x ≡ y
nat_equal x y is = grind (arith, nat_tests)

less_parts : (first second : Ordering) → ordering_then first second ≡ Less → (first ≡ Less) ⊎ ((first ≡ Equal) × (second ≡ Less))
less_parts Less second is = inl refl
less_parts Equal second is = inr (refl, is)
less_parts Greater second is = absurd (cc is)

comes_before : (edge next : Edge) → edge_cmp edge next ≡ Less → ComesBefore edge next
comes_before edge next is =
    ⊎_elim
    (λ less. inl (nat_less edge.from next.from less))
    (λ both. inr (nat_equal edge.from next.from both.0, nat_less edge.to next.to both.1))
    (less_parts (nat_cmp edge.from next.from) (nat_cmp edge.to next.to) is)

same_edge : (edge other : Edge) → edge_eq edge other ≡ true → edge ≡ other
same_edge edge other is =
    let from : edge.from ≡ other.from = grind (arith, nat_tests) in
    let to : edge.to ≡ other.to = grind (arith, nat_tests) in
    let made : ℕ → ℕ → Edge = λ f t. record { from = f; to = t } in
    ap (λ f. made f edge.to) from ∙ ap (λ t. made other.from t) to

module _ (given ordered kept : List Edge) (moved : IsPermutation given ordered) (filtered : IsFiltered (DiffersFromLast edge_eq) [] ordered kept) where
  pub kept_sorted : IsSorted edge_cmp ordered → AreSorted kept
  kept_sorted rises i j d below within =
      comes_before (get_or kept i d) (get_or kept j d)
      (Less-from_sorted edge_cmp kept i j d (rw (dedup_is edge_eq ordered kept filtered) (IsStrictlySortedBy-dedup order_laws.total-law order_laws.matches_eq-law ordered rises)) below within)

  pub kept_same : AreSame given kept
  kept_same from to =
      let edge : Edge = record { from = from; to = to } in
      let is : kept ≡ dedup edge_eq ordered = dedup_is edge_eq ordered kept filtered in (
        (λ there. rw is (Contains-dedup equal_laws.laws-law same_edge ordered edge (Contains-permutation given ordered edge moved there))),
        λ there. Contains-permutation ordered given edge (IsPermutation-sym given ordered moved) (Contains-from_dedup edge_eq ordered edge (rw is at there)),
      )
