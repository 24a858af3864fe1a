-- The edge at a place after some literals: what a push and a cut leave, and that it is the strongest bound in force.
use Rattle.std.proofs.Common.{◌≡◌, ◌⊎◌, ℕ, zero, suc, ◌+◌, ◌*◌, ◌<◌, ◌≤◌, Bool, true, false, cond, eqb, List, [], ◌∷◌, ◌++◌, length, get_or, take, drop, replicate, ℤ, Option, Some, None, All, refl, sym, ap, ◌∙◌, subst, inl, inr, ⊎_elim, arith}
use Rattle.std.specs.List.{HoldsAt}
use Rattle.std.proofs.lemmas.List.{append-nil, append_assoc, get_or_append_left, take-append-drop, take_more, length-take-le}
use Rattle.std.proofs.lemmas.Bool.Decides.{nat_tests}
use Rattle.mix_system.specs.declared.literal.Lit.{Lit}
use Rattle.mix_system.specs.Lit.{IsWithin}
use Rattle.mix_system.specs.System.{Exists}
use Rattle.mix_system.specs.Bounds.{Entails, IsIn, range_bounds}
use Rattle.bound_trail.specs.declared.edge.Edge.{Edge}
use Rattle.bound_trail.specs.Edges.{place_of, blank_lit, no_edge, range_edges, first_edges, edge_after}
use Rattle.bound_trail.specs.Reach.{Reaches}
use Rattle.bound_trail.proofs.AnywhereLaws.{any_here, any_left, any_right, any_append_cases, any_take_cases}
use Rattle.bound_trail.proofs.EntailmentLaws.{entails_where_newer}
use Rattle.bound_trail.proofs.EdgeLaws.{same_place, edge_of_range, range_of_edge}

-- more literals behind change no edge after the first ones
pub edge_after-append : (ranges : List (ℤ × ℤ)) (rows : ℕ) (lits more : List Lit) (count place : ℕ) → count ≤ length lits → edge_after ranges rows (lits ++ more) count place ≡ edge_after ranges rows lits count place
edge_after-append ranges rows lits more zero place h = refl
edge_after-append ranges rows lits more (suc count) place h =
    let same = get_or_append_left lits more blank_lit count (omega arith) in
    let rest = edge_after-append ranges rows lits more count place (omega arith) in
    rw (same, rest) refl

pub edge_after-take : (ranges : List (ℤ × ℤ)) (rows : ℕ) (lits : List Lit) (n count place : ℕ) → count ≤ n → n ≤ length lits → edge_after ranges rows (take n lits) count place ≡ edge_after ranges rows lits count place
edge_after-take ranges rows lits n count place h k =
    let short : count ≤ length (take n lits) = omega (arith, length-take-le n lits k) in
    sym (edge_after-append ranges rows (take n lits) (drop n lits) count place short)
    ∙ ap (λ all. edge_after ranges rows all count place) (take-append-drop n lits)

-- a bound in force after one more literal
pub more_cases : (front lits : List Lit) (count : ℕ) (d lit : Lit) → count < length lits → IsIn (front ++ take (suc count) lits) lit → IsIn (front ++ take count lits) lit ⊎ Entails (get_or lits count d) lit
more_cases front lits count d lit h a =
    let P : Lit → Type 0 = λ bound. Entails bound lit in
    let next : suc count ≡ count + 1 = omega arith in
    let b = subst (λ n. IsIn (front ++ take n lits) lit) next a in
    ⊎_elim
    (λ c. inl (any_left P front (take count lits) c))
    (λ c. ⊎_elim (λ e. inl (any_right P front (take count lits) e)) (λ e. inr e) (any_take_cases P lits count d h c))
    (any_append_cases P front (take (count + 1) lits) b)

pub more_before : (front lits : List Lit) (count : ℕ) (d lit : Lit) → count < length lits → IsIn (front ++ take count lits) lit → IsIn (front ++ take (suc count) lits) lit
more_before front lits count d lit h a =
    let P : Lit → Type 0 = λ bound. Entails bound lit in
    let next : suc count ≡ count + 1 = omega arith in
    let whole : front ++ take (count + 1) lits ≡ (front ++ take count lits) ++ get_or lits count d ∷ [] = ap (λ xs. front ++ xs) (take_more lits count d h) ∙ sym (append_assoc front (take count lits) (get_or lits count d ∷ [])) in
    subst (λ n. IsIn (front ++ take n lits) lit) (sym next) (subst (λ xs. IsIn xs lit) (sym whole) (any_left P (front ++ take count lits) (get_or lits count d ∷ []) a))

pub more_last : (front lits : List Lit) (count : ℕ) (d lit : Lit) → count < length lits → Entails (get_or lits count d) lit → IsIn (front ++ take (suc count) lits) lit
more_last front lits count d lit h e =
    let P : Lit → Type 0 = λ bound. Entails bound lit in
    let next : suc count ≡ count + 1 = omega arith in
    let whole : front ++ take (count + 1) lits ≡ (front ++ take count lits) ++ get_or lits count d ∷ [] = ap (λ xs. front ++ xs) (take_more lits count d h) ∙ sym (append_assoc front (take count lits) (get_or lits count d ∷ [])) in
    subst (λ n. IsIn (front ++ take n lits) lit) (sym next) (subst (λ xs. IsIn xs lit) (sym whole) (any_right P (front ++ take count lits) (get_or lits count d ∷ []) (any_here P (get_or lits count d) [] e)))

-- the edges of the ranges name no literal
range_edges_entry : (ranges : List (ℤ × ℤ)) (place : ℕ) → (get_or (range_edges ranges) place no_edge).entry ≡ None
range_edges_entry [] place = refl
range_edges_entry (range ∷ ranges) zero = refl
range_edges_entry (range ∷ ranges) (suc zero) = refl
range_edges_entry (range ∷ ranges) (suc (suc place)) = range_edges_entry ranges place

all_blank : (n place : ℕ) → get_or (replicate n no_edge) place no_edge ≡ no_edge
all_blank zero place = refl
all_blank (suc n) zero = refl
all_blank (suc n) (suc place) = all_blank n place

joined_entry : (edges : List Edge) (n place : ℕ) → ((p : ℕ) → (get_or edges p no_edge).entry ≡ None) → (get_or (edges ++ replicate n no_edge) place no_edge).entry ≡ None
joined_entry [] n place h = ap (λ (edge : Edge). edge.entry) (all_blank n place)
joined_entry (edge ∷ edges) n zero h = h zero
joined_entry (edge ∷ edges) n (suc place) h = joined_entry edges n place (λ p. h (suc p))

-- what the entry of an edge says of the edge
abbrev pub EntryIs : List (ℤ × ℤ) → ℕ → List Lit → ℕ → ℕ → Option ℕ → Edge → Type 0
EntryIs ranges rows lits count place None edge = edge ≡ get_or (first_edges ranges rows) place no_edge
EntryIs ranges rows lits count place (Some at) edge =
    (at < count) × (place_of (length ranges) (get_or lits at blank_lit).term (get_or lits at blank_lit).side ≡ place) × (edge.bound ≡ Some (get_or lits at blank_lit).bound)

entry_more : (ranges : List (ℤ × ℤ)) (rows : ℕ) (lits : List Lit) (count place : ℕ) (entry : Option ℕ) (edge : Edge) → EntryIs ranges rows lits count place entry edge → EntryIs ranges rows lits (suc count) place entry edge
entry_more ranges rows lits count place None edge h = h
entry_more ranges rows lits count place (Some at) edge h = (omega (arith, h.0), h.1, h.2)

pub entry_is : (ranges : List (ℤ × ℤ)) (rows : ℕ) (lits : List Lit) (count place : ℕ) → EntryIs ranges rows lits count place (edge_after ranges rows lits count place).entry (edge_after ranges rows lits count place)
entry_is ranges rows lits zero place =
    let none = joined_entry (range_edges ranges) (2 * rows) place (range_edges_entry ranges) in
    subst (λ entry. EntryIs ranges rows lits 0 place entry (get_or (first_edges ranges rows) place no_edge)) (sym none) refl
entry_is ranges rows lits (suc count) place =
    let put = get_or lits count blank_lit in
    let p = place_of (length ranges) put.term put.side in
    let rest = edge_after ranges rows lits count place in
    let here : Edge = record { bound = Some put.bound; entry = Some count } in
    let by_test : (b : Bool) → eqb p place ≡ b → EntryIs ranges rows lits (suc count) place (cond b here rest).entry (cond b here rest) =
    λ b e. elim b as (λ b. eqb p place ≡ b → EntryIs ranges rows lits (suc count) place (cond b here rest).entry (cond b here rest)) [
      | true ↦ λ t. (omega arith, grind (arith, nat_tests), refl)
      | false ↦ λ f. entry_more ranges rows lits count place rest.entry rest (entry_is ranges rows lits count place)
    ] e in
    by_test (eqb p place) refl

module _ (ranges : List (ℤ × ℤ)) (rows : ℕ) (lits : List Lit)
    (terms : All (λ lit. Exists (length ranges) rows lit.term) lits)
    (newer : (at : ℕ) → at < length lits → HoldsAt (λ put. ¬ IsIn (range_bounds ranges ++ take at lits) put) lits at) where
  abbrev place : Lit → ℕ
  place lit = place_of (length ranges) lit.term lit.side

  -- where a bound is in force, the edge reaches it
  at_put : (count : ℕ) (lit : Lit) → count < length lits → Exists (length ranges) rows lit.term → place (get_or lits count blank_lit) ≡ place lit → IsIn (range_bounds ranges ++ take count lits) lit ⊎ Entails (get_or lits count blank_lit) lit → IsWithin lit.side lit.bound (get_or lits count blank_lit).bound
  at_put count lit h known same cases =
      let put = get_or lits count blank_lit in
      let here = same_place (length ranges) rows put.term lit.term put.side lit.side (terms count blank_lit h) known same in
      ⊎_elim
      (λ a. let old = a.1 in
      (entails_where_newer old put lit here.0 here.1 a.4 (λ e. newer count h blank_lit (a.0, a.1, a.2, a.3, e))).as_strong)
      (λ e. e.as_strong)
      cases

  pub reaches_where_in : (count : ℕ) (lit : Lit) → count ≤ length lits → Exists (length ranges) rows lit.term → IsIn (range_bounds ranges ++ take count lits) lit → Reaches (edge_after ranges rows lits count (place lit)).bound lit
  reaches_where_in zero lit h known a =
      edge_of_range ranges rows lit known (subst (λ xs. IsIn xs lit) (append-nil (range_bounds ranges)) a)
  reaches_where_in (suc count) lit h known a =
      let put = get_or lits count blank_lit in
      let cases = more_cases (range_bounds ranges) lits count blank_lit lit (omega arith) a in
      let by_test : (b : Bool) → eqb (place put) (place lit) ≡ b → Reaches (cond b (record { bound = Some put.bound; entry = Some count }) (edge_after ranges rows lits count (place lit))).bound lit =
      λ b e. elim b as (λ b. eqb (place put) (place lit) ≡ b → Reaches (cond b (record { bound = Some put.bound; entry = Some count }) (edge_after ranges rows lits count (place lit))).bound lit) [
        | true ↦ λ t. at_put count lit (omega arith) known (grind (arith, nat_tests)) cases
        | false ↦ λ f. ⊎_elim
            (λ before. reaches_where_in count lit (omega arith) known before)
            (λ e. absurd (let same : place put ≡ place lit = cc (e.same_term, e.same_side) in let unlike : eqb (place put) (place lit) ≡ false = f in grind (arith, nat_tests)))
            cases
      ] e in
      by_test (eqb (place put) (place lit)) refl

  -- and what the edge reaches is in force
  pub in_where_reaches : (count : ℕ) (lit : Lit) → count ≤ length lits → Exists (length ranges) rows lit.term → Reaches (edge_after ranges rows lits count (place lit)).bound lit → IsIn (range_bounds ranges ++ take count lits) lit
  in_where_reaches zero lit h known r =
      subst (λ xs. IsIn xs lit) (sym (append-nil (range_bounds ranges))) (range_of_edge ranges rows lit known r)
  in_where_reaches (suc count) lit h known r =
      let put = get_or lits count blank_lit in
      let by_test : (b : Bool) → eqb (place put) (place lit) ≡ b → Reaches (cond b (record { bound = Some put.bound; entry = Some count }) (edge_after ranges rows lits count (place lit))).bound lit → IsIn (range_bounds ranges ++ take (suc count) lits) lit =
      λ b e. elim b as (λ b. eqb (place put) (place lit) ≡ b → Reaches (cond b (record { bound = Some put.bound; entry = Some count }) (edge_after ranges rows lits count (place lit))).bound lit → IsIn (range_bounds ranges ++ take (suc count) lits) lit) [
        | true ↦ λ t reached. let same : place put ≡ place lit = grind (arith, nat_tests) in
            let here = same_place (length ranges) rows put.term lit.term put.side lit.side (terms count blank_lit (omega arith)) known same in
            more_last (range_bounds ranges) lits count blank_lit lit (omega arith) (record { same_term = here.0; same_side = here.1; as_strong = reached })
        | false ↦ λ f reached. more_before (range_bounds ranges) lits count blank_lit lit (omega arith) (in_where_reaches count lit (omega arith) known reached)
      ] e in
      by_test (eqb (place put) (place lit)) refl r
