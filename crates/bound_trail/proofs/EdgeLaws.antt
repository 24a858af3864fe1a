-- The edge at a place is the strongest bound in force there.
use Rattle.std.proofs.Common.{◌≡◌, ◌⊎◌, ℕ, zero, suc, ◌+◌, ◌-◌, ◌*◌, ◌<◌, ◌≤◌, List, [], ◌∷◌, length, get_or, replicate, ℤ, refl, sym, ap, ◌∙◌, subst, inl, inr, ⊎_elim, arith}
use Rattle.std.proofs.lemmas.List.{get_or_append_left, get_or-append_right, get_or-replicate}
use Rattle.mix_system.specs.declared.literal.Term.{Term}
use Rattle.mix_system.specs.declared.literal.Term.TheVariants.{Var, Row}
use Rattle.mix_system.specs.declared.literal.Side.{Side}
use Rattle.mix_system.specs.declared.literal.Side.TheVariants.{Le, Ge}
use Rattle.mix_system.specs.declared.literal.Lit.{Lit}
use Rattle.mix_system.specs.Lit.{IsWithin}
use Rattle.mix_system.specs.System.{Exists}
use Rattle.mix_system.specs.Bounds.{Entails, IsIn, range_bounds, range_bounds_from}
use Rattle.bound_trail.specs.declared.edge.Edge.{Edge}
use Rattle.bound_trail.specs.Edges.{term_number, side_number, place_of, no_edge, range_edges, first_edges}
use Rattle.bound_trail.specs.Reach.{Reaches}
use Rattle.bound_trail.proofs.AnywhereLaws.{any_none, any_cons_cases, any_here, any_there}

-- a place tells the term and the side
side_small : (side : Side) → side_number side < 2
side_small Le = omega arith
side_small Ge = omega arith

same_side_number : (s t : Side) → side_number s ≡ side_number t → s ≡ t
same_side_number Le Le e = refl
same_side_number Le Ge e = absurd (omega arith)
same_side_number Ge Le e = absurd (omega arith)
same_side_number Ge Ge e = refl

same_term_number : (vars rows : ℕ) (s t : Term) → Exists vars rows s → Exists vars rows t → term_number vars s ≡ term_number vars t → s ≡ t
same_term_number vars rows (Var a) (Var b) h k e = ap Var e
same_term_number vars rows (Var a) (Row b) h k e = absurd (omega arith)
same_term_number vars rows (Row a) (Var b) h k e = absurd (omega arith)
same_term_number vars rows (Row a) (Row b) h k e = ap Row (omega arith)

pub same_place : (vars rows : ℕ) (s t : Term) (a b : Side) → Exists vars rows s → Exists vars rows t → place_of vars s a ≡ place_of vars t b → (s ≡ t) × (a ≡ b)
same_place vars rows s t a b h k e =
    let p = side_small a in let q = side_small b in
    let halves : term_number vars s ≡ term_number vars t = omega arith in
    let rest : side_number a ≡ side_number b = omega arith in
    (same_term_number vars rows s t h k halves, same_side_number a b rest)

term_small : (vars rows : ℕ) (t : Term) → Exists vars rows t → term_number vars t < vars + rows
term_small vars rows (Var a) h = omega arith
term_small vars rows (Row a) h = omega arith

pub place_within : (vars rows : ℕ) (t : Term) (side : Side) → Exists vars rows t → place_of vars t side < 2 * (vars + rows)
place_within vars rows t side h =
    let p = side_small side in let q = term_small vars rows t h in omega arith

-- the edges of the ranges
pub length-range_edges : (ranges : List (ℤ × ℤ)) → length (range_edges ranges) ≡ 2 * length ranges
length-range_edges [] = refl
length-range_edges (range ∷ ranges) = omega (arith, length-range_edges ranges)

abbrev IsRangeEdge : List (ℤ × ℤ) → ℕ → Term → Side → ℤ → Type 0
IsRangeEdge ranges from term side bound =
    (var : ℕ) × (term ≡ Var (from + var)) × (var < length ranges) × Reaches (get_or (range_edges ranges) (2 * var + side_number side) no_edge).bound (record { term = term; side = side; bound = bound })

at_lower_end : (range : ℤ × ℤ) (ranges : List (ℤ × ℤ)) (term : Term) (side : Side) (bound : ℤ) → Ge ≡ side → IsWithin side bound range.0 → Reaches (get_or (range_edges (range ∷ ranges)) (2 * 0 + side_number side) no_edge).bound (record { term = term; side = side; bound = bound })
at_lower_end range ranges term Le bound e w = cc
at_lower_end range ranges term Ge bound e w = w

at_upper_end : (range : ℤ × ℤ) (ranges : List (ℤ × ℤ)) (term : Term) (side : Side) (bound : ℤ) → Le ≡ side → IsWithin side bound range.1 → Reaches (get_or (range_edges (range ∷ ranges)) (2 * 0 + side_number side) no_edge).bound (record { term = term; side = side; bound = bound })
at_upper_end range ranges term Le bound e w = w
at_upper_end range ranges term Ge bound e w = cc

range_edge_next : (range : ℤ × ℤ) (ranges : List (ℤ × ℤ)) (from : ℕ) (term : Term) (side : Side) (bound : ℤ) → IsRangeEdge ranges (from + 1) term side bound → IsRangeEdge (range ∷ ranges) from term side bound
range_edge_next range ranges from term side bound h =
    let index : 2 * suc h.0 + side_number side ≡ suc (suc (2 * h.0 + side_number side)) = omega arith in
    let number : from + 1 + h.0 ≡ from + suc h.0 = omega arith in
    (suc h.0, h.1 ∙ ap Var number, omega (arith, h.2), rw index h.3)

abbrev pub low_end : ℕ → ℤ × ℤ → Lit
low_end var range = record { term = Var var; side = Ge; bound = range.0 }

abbrev pub high_end : ℕ → ℤ × ℤ → Lit
high_end var range = record { term = Var var; side = Le; bound = range.1 }

abbrev pub says : Lit → Lit → Type 0
says lit bound = Entails bound lit

pub in_range_cases : (from : ℕ) (range : ℤ × ℤ) (ranges : List (ℤ × ℤ)) (lit : Lit) → IsIn (range_bounds_from from (range ∷ ranges)) lit → Entails (low_end from range) lit ⊎ (Entails (high_end from range) lit ⊎ IsIn (range_bounds_from (from + 1) ranges) lit)
in_range_cases from range ranges lit a =
    let rest = range_bounds_from (from + 1) ranges in
    ⊎_elim (λ e. inl e) (λ b. inr (any_cons_cases (says lit) (high_end from range) rest b)) (any_cons_cases (says lit) (low_end from range) (high_end from range ∷ rest) a)

in_range_low : (from : ℕ) (range : ℤ × ℤ) (ranges : List (ℤ × ℤ)) (lit : Lit) → Entails (low_end from range) lit → IsIn (range_bounds_from from (range ∷ ranges)) lit
in_range_low from range ranges lit e =
    any_here (says lit) (low_end from range) (high_end from range ∷ range_bounds_from (from + 1) ranges) e

in_range_high : (from : ℕ) (range : ℤ × ℤ) (ranges : List (ℤ × ℤ)) (lit : Lit) → Entails (high_end from range) lit → IsIn (range_bounds_from from (range ∷ ranges)) lit
in_range_high from range ranges lit e =
    let rest = range_bounds_from (from + 1) ranges in
    any_there (says lit) (low_end from range) (high_end from range ∷ rest) (any_here (says lit) (high_end from range) rest e)

in_range_rest : (from : ℕ) (range : ℤ × ℤ) (ranges : List (ℤ × ℤ)) (lit : Lit) → IsIn (range_bounds_from (from + 1) ranges) lit → IsIn (range_bounds_from from (range ∷ ranges)) lit
in_range_rest from range ranges lit a =
    let rest = range_bounds_from (from + 1) ranges in
    any_there (says lit) (low_end from range) (high_end from range ∷ rest) (any_there (says lit) (high_end from range) rest a)

edge_from_range : (ranges : List (ℤ × ℤ)) (from : ℕ) (lit : Lit) → IsIn (range_bounds_from from ranges) lit → IsRangeEdge ranges from lit.term lit.side lit.bound
edge_from_range [] from lit a = absurd (any_none (says lit) a)
edge_from_range (range ∷ ranges) from lit a =
    let start : from ≡ from + 0 = omega arith in
    ⊎_elim
    (λ e. (0, sym e.same_term ∙ ap Var start, omega arith, at_lower_end range ranges lit.term lit.side lit.bound e.same_side e.as_strong))
    (λ b. ⊎_elim
    (λ e. (0, sym e.same_term ∙ ap Var start, omega arith, at_upper_end range ranges lit.term lit.side lit.bound e.same_side e.as_strong))
    (λ rest. range_edge_next range ranges from lit.term lit.side lit.bound (edge_from_range ranges (from + 1) lit rest))
    b)
    (in_range_cases from range ranges lit a)

range_from_edge : (ranges : List (ℤ × ℤ)) (from var : ℕ) (side : Side) (bound : ℤ) → var < length ranges → Reaches (get_or (range_edges ranges) (2 * var + side_number side) no_edge).bound (record { term = Var (from + var); side = side; bound = bound }) → IsIn (range_bounds_from from ranges) (record { term = Var (from + var); side = side; bound = bound })
range_from_edge [] from var side bound h r = absurd (omega arith)
range_from_edge (range ∷ ranges) from zero Le bound h r =
    let start : from ≡ from + 0 = omega arith in
    in_range_high from range ranges _ (record { same_term = ap Var start; same_side = refl; as_strong = r })
range_from_edge (range ∷ ranges) from zero Ge bound h r =
    let start : from ≡ from + 0 = omega arith in
    in_range_low from range ranges _ (record { same_term = ap Var start; same_side = refl; as_strong = r })
range_from_edge (range ∷ ranges) from (suc var) side bound h r =
    let index : 2 * suc var + side_number side ≡ suc (suc (2 * var + side_number side)) = omega arith in
    let number : from + suc var ≡ from + 1 + var = omega arith in
    let lit : ℕ → Lit = λ n. record { term = Var n; side = side; bound = bound } in
    let reached : Reaches (get_or (range_edges ranges) (2 * var + side_number side) no_edge).bound (lit (from + suc var)) = rw index at r in
    let there = subst (λ n. Reaches (get_or (range_edges ranges) (2 * var + side_number side) no_edge).bound (lit n)) number reached in
    subst (λ n. IsIn (range_bounds_from from (range ∷ ranges)) (lit n)) (sym number) (in_range_rest from range ranges _ (range_from_edge ranges (from + 1) var side bound (omega arith) there))

-- an edge of the ranges says just what the ranges say
pub edge_of_range : (ranges : List (ℤ × ℤ)) (rows : ℕ) (lit : Lit) → Exists (length ranges) rows lit.term → IsIn (range_bounds ranges) lit → Reaches (get_or (first_edges ranges rows) (place_of (length ranges) lit.term lit.side) no_edge).bound lit
edge_of_range ranges rows lit h a =
    let e = edge_from_range ranges 0 lit a in
    let number : 0 + e.0 ≡ e.0 = omega arith in
    let term : lit.term ≡ Var e.0 = e.1 ∙ ap Var number in
    let small = side_small lit.side in
    let within : 2 * e.0 + side_number lit.side < length (range_edges ranges) = omega (arith, length-range_edges ranges, e.2) in
    let left = get_or_append_left (range_edges ranges) (replicate (2 * rows) no_edge) no_edge (2 * e.0 + side_number lit.side) within in
    let place : place_of (length ranges) lit.term lit.side ≡ 2 * e.0 + side_number lit.side = ap (λ t. place_of (length ranges) t lit.side) term in
    subst (λ (p : ℕ). Reaches (get_or (first_edges ranges rows) p no_edge).bound lit) (sym place) (subst (λ (edge : Edge). Reaches edge.bound lit) (sym left) e.3)

no_row_edge : (ranges : List (ℤ × ℤ)) (rows row : ℕ) (side : Side) → row < rows → get_or (first_edges ranges rows) (2 * (length ranges + row) + side_number side) no_edge ≡ no_edge
no_row_edge ranges rows row side h =
    let small = side_small side in
    let past : length (range_edges ranges) ≤ 2 * (length ranges + row) + side_number side = omega (arith, length-range_edges ranges) in
    get_or-append_right (range_edges ranges) (replicate (2 * rows) no_edge) (length (range_edges ranges)) (2 * (length ranges + row) + side_number side) no_edge refl past
    ∙ get_or-replicate (2 * rows) (2 * (length ranges + row) + side_number side - length (range_edges ranges)) no_edge no_edge (omega (arith, length-range_edges ranges))

range_of_edge_at : (ranges : List (ℤ × ℤ)) (rows : ℕ) (term : Term) (side : Side) (bound : ℤ) → Exists (length ranges) rows term → Reaches (get_or (first_edges ranges rows) (place_of (length ranges) term side) no_edge).bound (record { term = term; side = side; bound = bound }) → IsIn (range_bounds ranges) (record { term = term; side = side; bound = bound })
range_of_edge_at ranges rows (Var var) side bound h r =
    let small = side_small side in
    let within : 2 * var + side_number side < length (range_edges ranges) = omega (arith, length-range_edges ranges) in
    let left = get_or_append_left (range_edges ranges) (replicate (2 * rows) no_edge) no_edge (2 * var + side_number side) within in
    let number : 0 + var ≡ var = omega arith in
    let lit : ℕ → Lit = λ n. record { term = Var n; side = side; bound = bound } in
    let there : Reaches (get_or (range_edges ranges) (2 * var + side_number side) no_edge).bound (lit var) = subst (λ (edge : Edge). Reaches edge.bound (lit var)) left r in
    let moved = subst (λ n. Reaches (get_or (range_edges ranges) (2 * var + side_number side) no_edge).bound (lit n)) (sym number) there in
    subst (λ n. IsIn (range_bounds ranges) (lit n)) number (range_from_edge ranges 0 var side bound h moved)
range_of_edge_at ranges rows (Row row) side bound h r =
    absurd (subst (λ (edge : Edge). Reaches edge.bound (record { term = Row row; side = side; bound = bound })) (no_row_edge ranges rows row side h) r)

pub range_of_edge : (ranges : List (ℤ × ℤ)) (rows : ℕ) (lit : Lit) → Exists (length ranges) rows lit.term → Reaches (get_or (first_edges ranges rows) (place_of (length ranges) lit.term lit.side) no_edge).bound lit → IsIn (range_bounds ranges) lit
range_of_edge ranges rows lit h r = range_of_edge_at ranges rows lit.term lit.side lit.bound h r
