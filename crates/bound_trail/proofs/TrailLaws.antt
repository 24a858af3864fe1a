-- What a trail keeps when a literal is put, when literals are cut off, and when a level is opened or given up.
use Rattle.std.proofs.Common.{◌≡◌, ◌↔◌, ℕ, suc, ◌+◌, ◌*◌, ◌^◌, ◌<◌, ◌≤◌, true, false, cond, eqb, List, [], ◌∷◌, ◌++◌, length, length-append, get_or, set, take, replicate, ℤ, Option, Some, None, All, refl, sym, ap, ◌∙◌, subst, ⊎_elim, arith}
use Rattle.std.proofs.lemmas.List.{get_or_append_left, get_or_push, get_or-take, get_or-set_same, get_or-set_other, length-set, take-append-le, take-take, take_all, take_at, length_push, get_or_default, length-take-le, length-replicate}
use Rattle.std.proofs.lemmas.List.Elements.{All-push, All-take, All-weaker}
use Rattle.std.proofs.lemmas.List.Quantifiers.{all_pairs_push}
use Rattle.std.proofs.lemmas.Bool.{cases_lt, cases_eq}
use Rattle.std.proofs.lemmas.Bool.Decides.{nat_tests}
use Rattle.mix_system.specs.declared.literal.Lit.{Lit}
use Rattle.mix_system.specs.Lit.{IsWithin, other_side, negation}
use Rattle.mix_system.specs.System.{IsInner, IsRange, Exists}
use Rattle.mix_system.specs.Bounds.{Entails, IsIn, IsFalseIn, range_bounds}
use Rattle.bound_trail.specs.declared.edge.Edge.{Edge}
use Rattle.bound_trail.specs.Edges.{place_of, blank_lit, no_edge, range_edges, first_edges, edge_after}
use Rattle.bound_trail.specs.Reach.{Reaches}
use Rattle.bound_trail.specs.Trail.{Trail, box, box_with, IsOpen, IsCause, WasOpen, IsTrail}
use Rattle.bound_trail.specs.Falsified.{IsDownTo}
use Rattle.bound_trail.specs.Stored.{AreEdges, AreLinks}
use Rattle.bound_trail.proofs.EdgeLaws.{same_place, length-range_edges, place_within, range_of_edge}
use Rattle.bound_trail.proofs.TrailEdgeLaws.{EntryIs, entry_is, edge_after-append, edge_after-take, reaches_where_in, in_where_reaches}

by_lt : {P : Type 0} (a b : ℕ) → (a < b → P) → (b ≤ a → P) → P
by_lt a b f g = ⊎_elim f g (cases_lt a b)

pub box_is : (trail : Trail) → box_with trail (length trail.lits) ≡ box trail
box_is trail = ap (λ lits. range_bounds trail.ranges ++ lits) (take_all (length trail.lits) trail.lits (omega arith))

-- a literal is true just where the bound in force on its side reaches it
pub true_law : (trail : Trail) (lit : Lit) → IsTrail trail → Exists (length trail.ranges) trail.rows lit.term → Reaches (edge_after trail.ranges trail.rows trail.lits (length trail.lits) (place_of (length trail.ranges) lit.term lit.side)).bound lit ↔ IsIn (box trail) lit
true_law trail lit ok known =
    let newer = λ (at : ℕ) (h : at < length trail.lits) (d : Lit). (ok.opened at h d).not_true in
    let whole = box_is trail in (
      λ r. subst (λ xs. IsIn xs lit) whole (in_where_reaches trail.ranges trail.rows trail.lits ok.terms newer (length trail.lits) lit (omega arith) known r),
      λ a. reaches_where_in trail.ranges trail.rows trail.lits ok.terms newer (length trail.lits) lit (omega arith) known (subst (λ xs. IsIn xs lit) (sym whole) a),
    )

-- the literals before the last stay open where they were put, and the last is open behind them
opened_more : (trail : Trail) (lit : Lit) → IsTrail trail → IsOpen (box trail) lit → (at : ℕ) → at < length (trail.lits ++ lit ∷ []) → WasOpen (record trail { lits = trail.lits ++ lit ∷ [] }) at
opened_more trail lit ok last at h d =
    let count = length_push trail.lits lit in
    let front = range_bounds trail.ranges in
    by_lt at (length trail.lits)
    (λ before. let same = get_or_append_left trail.lits (lit ∷ []) d at before in
    let cut = take-append-le at trail.lits (lit ∷ []) (omega arith) in
    rw (same, cut) (ok.opened at before d))
    (λ past. let e : length trail.lits ≡ at = omega arith in
    let same = get_or_push trail.lits lit d at e in
    let cut = take_at trail.lits (lit ∷ []) at e in
    rw (same, cut) last)

-- one more literal
pub IsTrail-push : (trail : Trail) (lit : Lit) → IsTrail trail → Exists (length trail.ranges) trail.rows lit.term → IsInner lit.bound → IsOpen (box trail) lit → length trail.lits + 1 < 2 ^ 32 → IsTrail (record trail { lits = trail.lits ++ lit ∷ [] })
IsTrail-push trail lit ok known inner open_ few =
    let count = length_push trail.lits lit in
    record {
      ranges = ok.ranges;
      few_vars = ok.few_vars;
      few_rows = ok.few_rows;
      few_lits = omega arith;
      terms = All-push (λ l. Exists (length trail.ranges) trail.rows l.term) trail.lits lit ok.terms known;
      inner = All-push (λ l. IsInner l.bound) trail.lits lit ok.inner inner;
      opened = λ at h d. opened_more trail lit ok open_ at h d;
      rising = ok.rising;
      places = All-weaker (λ place. place ≤ length trail.lits) (λ place. place ≤ length (trail.lits ++ lit ∷ [])) (λ place h. omega arith) trail.levels ok.places;
    }

-- fewer literals, where no level begins behind them
pub IsTrail-cut : (trail : Trail) (count : ℕ) → IsTrail trail → count ≤ length trail.lits → All (λ place. place ≤ count) trail.levels → IsTrail (record trail { lits = take count trail.lits })
IsTrail-cut trail count ok h levels =
    let short = length-take-le count trail.lits h in
    record {
      ranges = ok.ranges;
      few_vars = ok.few_vars;
      few_rows = ok.few_rows;
      few_lits = omega (arith, ok.few_lits);
      terms = All-take (λ l. Exists (length trail.ranges) trail.rows l.term) count trail.lits ok.terms;
      inner = All-take (λ l. IsInner l.bound) count trail.lits ok.inner;
      opened = λ at within d. let below : at < count = omega arith in
          let same = get_or-take count trail.lits at d below in
          let cut = take-take at count trail.lits (omega arith) in
          rw (same, cut) (ok.opened at (omega arith) d);
      rising = ok.rising;
      places = All-weaker (λ place. place ≤ count) (λ place. place ≤ length (take count trail.lits)) (λ place k. omega arith) trail.levels levels;
    }

-- one more level
pub IsTrail-open : (trail : Trail) → IsTrail trail → IsTrail (record trail { levels = trail.levels ++ length trail.lits ∷ [] })
IsTrail-open trail ok = record {
  ranges = ok.ranges;
  few_vars = ok.few_vars;
  few_rows = ok.few_rows;
  few_lits = ok.few_lits;
  terms = ok.terms;
  inner = ok.inner;
  opened = ok.opened;
  rising = all_pairs_push (λ place later. place ≤ later) trail.levels (length trail.lits) ok.rising (λ k d h. ok.places k d h);
  places = All-push (λ place. place ≤ length trail.lits) trail.levels (length trail.lits) ok.places (omega arith);
}

-- fewer levels
pub IsTrail-lower : (trail : Trail) (level : ℕ) → IsTrail trail → level ≤ length trail.levels → IsTrail (record trail { levels = take level trail.levels })
IsTrail-lower trail level ok h =
    let short = length-take-le level trail.levels h in
    record {
      ranges = ok.ranges;
      few_vars = ok.few_vars;
      few_rows = ok.few_rows;
      few_lits = ok.few_lits;
      terms = ok.terms;
      inner = ok.inner;
      opened = ok.opened;
      rising = λ i j d below within. let k : j < level = omega arith in
          rw (get_or-take level trail.levels i d (omega arith), get_or-take level trail.levels j d k) (ok.rising i j d below (omega arith));
      places = All-take (λ place. place ≤ length trail.lits) level trail.levels ok.places;
    }

-- the levels that begin before one begin no later than it
pub levels_below : (trail : Trail) (level place : ℕ) → IsTrail trail → level < length trail.levels → get_or trail.levels level place ≡ place → All (λ earlier. earlier ≤ place) (take level trail.levels)
levels_below trail level place ok h is k d within =
    let short = length-take-le level trail.levels (omega arith) in
    let below : k < level = omega arith in
    let pair = ok.rising k level place below h in
    rw (get_or-take level trail.levels k d below, get_or_default trail.levels k d place (omega arith)) (rw is at pair)

-- the edge at the end of a longer list, by its last literal
last_edge : (ranges : List (ℤ × ℤ)) (rows : ℕ) (lits : List Lit) (lit : Lit) (place : ℕ) → edge_after ranges rows (lits ++ lit ∷ []) (length (lits ++ lit ∷ [])) place ≡ cond (eqb (place_of (length ranges) lit.term lit.side) place) (record { bound = Some lit.bound; entry = Some (length lits) }) (edge_after ranges rows lits (length lits) place)
last_edge ranges rows lits lit place =
    let count : length (lits ++ lit ∷ []) ≡ suc (length lits) = omega (arith, length_push lits lit) in
    let last = get_or_push lits lit blank_lit (length lits) refl in
    let rest = edge_after-append ranges rows lits (lit ∷ []) (length lits) place (omega arith) in
    rw (count, last, rest) refl

pushed_edge : (ranges : List (ℤ × ℤ)) (rows : ℕ) (lits : List Lit) (edges : List Edge) (lit : Lit) (place here : ℕ) (fresh : Edge) → here ≡ place_of (length ranges) lit.term lit.side → fresh ≡ record { bound = Some lit.bound; entry = Some (length lits) } → here < 2 * (length ranges + rows) → place < 2 * (length ranges + rows) → AreEdges ranges rows lits edges → get_or (set edges here fresh) place no_edge ≡ edge_after ranges rows (lits ++ lit ∷ []) (length (lits ++ lit ∷ [])) place
pushed_edge ranges rows lits edges lit place here fresh is_here is_fresh within h are =
    let last = last_edge ranges rows lits lit place in
    let newest : Edge = record { bound = Some lit.bound; entry = Some (length lits) } in
    let here_in : here < length edges = omega (arith, are.one_each) in
    ⊎_elim
    (λ (e : place ≡ here). let test : eqb (place_of (length ranges) lit.term lit.side) place ≡ true = grind (arith, nat_tests) in
    ap (λ p. get_or (set edges here fresh) p no_edge) e ∙ get_or-set_same edges here fresh no_edge here_in ∙ is_fresh ∙ sym (last ∙ ap (λ b. cond b newest (edge_after ranges rows lits (length lits) place)) test))
    (λ (e : place ≡ here → ⊥). let test : eqb (place_of (length ranges) lit.term lit.side) place ≡ false = grind (arith, nat_tests) in
    get_or-set_other edges here place fresh no_edge e ∙ are.each place h ∙ sym (last ∙ ap (λ b. cond b newest (edge_after ranges rows lits (length lits) place)) test))
    (cases_eq place here)

-- the edges with one more literal
pub AreEdges-push : (ranges : List (ℤ × ℤ)) (rows : ℕ) (lits : List Lit) (edges : List Edge) (lit : Lit) → Exists (length ranges) rows lit.term → AreEdges ranges rows lits edges → AreEdges ranges rows (lits ++ lit ∷ []) (set edges (place_of (length ranges) lit.term lit.side) (record { bound = Some lit.bound; entry = Some (length lits) }))
AreEdges-push ranges rows lits edges lit known are =
    let here = place_of (length ranges) lit.term lit.side in
    let fresh : Edge = record { bound = Some lit.bound; entry = Some (length lits) } in
    let within = place_within (length ranges) rows lit.term lit.side known in
    record {
      one_each = length-set edges here fresh ∙ are.one_each;
      each = λ place h. pushed_edge ranges rows lits edges lit place here fresh refl refl within h are;
    }

-- the edges with the last literal given up, whose link is put back
dropped_edge : (ranges : List (ℤ × ℤ)) (rows : ℕ) (lits : List Lit) (edges : List Edge) (lit : Lit) (link : Edge) (place here : ℕ) → here ≡ place_of (length ranges) lit.term lit.side → link ≡ edge_after ranges rows (lits ++ lit ∷ []) (length lits) here → here < 2 * (length ranges + rows) → place < 2 * (length ranges + rows) → AreEdges ranges rows (lits ++ lit ∷ []) edges → get_or (set edges here link) place no_edge ≡ edge_after ranges rows lits (length lits) place
dropped_edge ranges rows lits edges lit link place here is_here is_link within h are =
    let newest : Edge = record { bound = Some lit.bound; entry = Some (length lits) } in
    let here_in : here < length edges = omega (arith, are.one_each) in
    ⊎_elim
    (λ (e : place ≡ here). ap (λ p. get_or (set edges here link) p no_edge) e ∙ get_or-set_same edges here link no_edge here_in ∙ is_link ∙ edge_after-append ranges rows lits (lit ∷ []) (length lits) here (omega arith) ∙ ap (edge_after ranges rows lits (length lits)) (sym e))
    (λ (e : place ≡ here → ⊥). let test : eqb (place_of (length ranges) lit.term lit.side) place ≡ false = grind (arith, nat_tests) in
    get_or-set_other edges here place link no_edge e ∙ are.each place h ∙ last_edge ranges rows lits lit place ∙ ap (λ b. cond b newest (edge_after ranges rows lits (length lits) place)) test)
    (cases_eq place here)

pub AreEdges-drop : (ranges : List (ℤ × ℤ)) (rows : ℕ) (lits : List Lit) (edges : List Edge) (lit : Lit) (link : Edge) → Exists (length ranges) rows lit.term → link ≡ edge_after ranges rows (lits ++ lit ∷ []) (length lits) (place_of (length ranges) lit.term lit.side) → AreEdges ranges rows (lits ++ lit ∷ []) edges → AreEdges ranges rows lits (set edges (place_of (length ranges) lit.term lit.side) link)
AreEdges-drop ranges rows lits edges lit link known is_link are =
    let here = place_of (length ranges) lit.term lit.side in
    let within = place_within (length ranges) rows lit.term lit.side known in
    record {
      one_each = length-set edges here link ∙ are.one_each;
      each = λ place h. dropped_edge ranges rows lits edges lit link place here refl is_link within h are;
    }

-- the links with one more literal, and with fewer
pub AreLinks-push : (ranges : List (ℤ × ℤ)) (rows : ℕ) (lits : List Lit) (links : List Edge) (lit : Lit) (link : Edge) → link ≡ edge_after ranges rows lits (length lits) (place_of (length ranges) lit.term lit.side) → AreLinks ranges rows lits links → AreLinks ranges rows (lits ++ lit ∷ []) (links ++ link ∷ [])
AreLinks-push ranges rows lits links lit link is_link are =
    let count = length_push lits lit in
    let links_count = length_push links link in
    record {
      one_each = omega (arith, are.one_each);
      each = λ at h. by_lt at (length lits)
          (λ before. let same = get_or_append_left lits (lit ∷ []) blank_lit at before in
          let same_link = get_or_append_left links (link ∷ []) no_edge at (omega (arith, are.one_each)) in
          let p = place_of (length ranges) (get_or lits at blank_lit).term (get_or lits at blank_lit).side in
          let rest = edge_after-append ranges rows lits (lit ∷ []) at p (omega arith) in
          rw (same, same_link, rest) (are.each at before))
          (λ past. let e : length lits ≡ at = omega arith in
          let same = get_or_push lits lit blank_lit at e in
          let same_link = get_or_push links link no_edge at (are.one_each ∙ e) in
          let p = place_of (length ranges) lit.term lit.side in
          let rest = edge_after-append ranges rows lits (lit ∷ []) at p (omega arith) in
          rw (same, same_link, rest) (subst (λ n. link ≡ edge_after ranges rows lits n p) e is_link));
    }

pub AreLinks-cut : (ranges : List (ℤ × ℤ)) (rows : ℕ) (lits : List Lit) (links : List Edge) (count : ℕ) → count ≤ length lits → AreLinks ranges rows lits links → AreLinks ranges rows (take count lits) (take count links)
AreLinks-cut ranges rows lits links count h are =
    let short = length-take-le count lits h in
    let links_short = length-take-le count links (omega (arith, are.one_each)) in
    record {
      one_each = omega arith;
      each = λ at within. let below : at < count = omega arith in
          let same = get_or-take count lits at blank_lit below in
          let same_link = get_or-take count links at no_edge below in
          let p = place_of (length ranges) (get_or lits at blank_lit).term (get_or lits at blank_lit).side in
          let rest = edge_after-take ranges rows lits count at p (omega arith) h in
          rw (same, same_link, rest) (are.each at (omega arith));
    }

-- the walk down the edges of one place
cause_from : (trail : Trail) (lit : Lit) (at : ℕ) (edge : Edge) → IsDownTo trail lit at edge → Exists (length trail.ranges) trail.rows lit.term → (¬ Reaches edge.bound (negation lit)) → ¬ IsFalseIn (box_with trail at) lit
cause_from trail lit at edge down known stop a =
    let ok = down.ok in
    let newer = λ (k : ℕ) (h : k < length trail.lits) (d : Lit). (ok.opened k h d).not_true in
    let r = reaches_where_in trail.ranges trail.rows trail.lits ok.terms newer at (negation lit) down.within known a in
    stop (subst (λ (e : Edge). Reaches e.bound (negation lit)) (sym down.edge_is) r)

pub cause_found : (trail : Trail) (lit : Lit) (at : ℕ) (edge : Edge) → IsDownTo trail lit at edge → Exists (length trail.ranges) trail.rows lit.term → (¬ Reaches edge.bound (negation lit)) → IsFalseIn (box trail) lit → IsCause trail lit at
cause_found trail lit at edge down known stop is_false =
    let first = cause_from trail lit at edge down known stop in
    let within : at < length trail.lits = by_lt at (length trail.lits) (λ h. h) (λ past. absurd (let all : at ≡ length trail.lits = omega (arith, down.within) in first (subst (λ n. IsFalseIn (box_with trail n) lit) (sym all) (subst (λ xs. IsFalseIn xs lit) (sym (box_is trail)) is_false)))) in
    record { within = within; falsifies = down.falsifies within; first = first }

-- what an edge's entry says where the edge makes the literal false
entry_cases : (trail : Trail) (lit : Lit) (at : ℕ) (edge : Edge) (entry : Option ℕ) → IsDownTo trail lit at edge → edge.entry ≡ entry → EntryIs trail.ranges trail.rows trail.lits at (place_of (length trail.ranges) lit.term (other_side lit.side)) entry edge
entry_cases trail lit at edge entry down is =
    let place = place_of (length trail.ranges) lit.term (other_side lit.side) in
    let E = λ (o : Option ℕ) (e : Edge). EntryIs trail.ranges trail.rows trail.lits at place o e in
    let law = entry_is trail.ranges trail.rows trail.lits at place in
    subst (λ o. E o edge) is (subst (λ (e : Edge). E e.entry e) (sym down.edge_is) law)

pub false_by_range : (trail : Trail) (lit : Lit) (at : ℕ) (edge : Edge) → IsDownTo trail lit at edge → Exists (length trail.ranges) trail.rows lit.term → Reaches edge.bound (negation lit) → edge.entry ≡ None → IsFalseIn (range_bounds trail.ranges) lit
false_by_range trail lit at edge down known reached is =
    let first = entry_cases trail lit at edge None down is in
    range_of_edge trail.ranges trail.rows (negation lit) known (subst (λ (e : Edge). Reaches e.bound (negation lit)) first reached)

pub down_one : (trail : Trail) (lit : Lit) (at : ℕ) (edge : Edge) (entry : ℕ) (link : Edge) → IsDownTo trail lit at edge → Exists (length trail.ranges) trail.rows lit.term → Reaches edge.bound (negation lit) → edge.entry ≡ Some entry → link ≡ edge_after trail.ranges trail.rows trail.lits entry (place_of (length trail.ranges) (get_or trail.lits entry blank_lit).term (get_or trail.lits entry blank_lit).side) → IsDownTo trail lit entry link
down_one trail lit at edge entry link down known reached is is_link =
    let here = entry_cases trail lit at edge (Some entry) down is in
    let put = get_or trail.lits entry blank_lit in
    let within : entry < length trail.lits = omega (arith, here.0, down.within) in
    let same = same_place (length trail.ranges) trail.rows put.term lit.term put.side (other_side lit.side) (down.ok.terms entry blank_lit within) known here.1 in
    let strong : IsWithin (other_side lit.side) (negation lit).bound put.bound = subst (λ (b : Option ℤ). Reaches b (negation lit)) here.2 reached in
    record {
      ok = down.ok;
      within = omega arith;
      edge_is = is_link ∙ ap (edge_after trail.ranges trail.rows trail.lits entry) here.1;
      falsifies = λ h d. subst (λ (l : Lit). Entails l (negation lit)) (get_or_default trail.lits entry blank_lit d within) (record { same_term = same.0; same_side = same.1; as_strong = strong });
    }

pub down_falls : (trail : Trail) (lit : Lit) (at : ℕ) (edge : Edge) (entry : ℕ) → IsDownTo trail lit at edge → edge.entry ≡ Some entry → entry < at
down_falls trail lit at edge entry down is = (entry_cases trail lit at edge (Some entry) down is).0

-- an empty trail
pub IsTrail-new : (ranges : List (ℤ × ℤ)) (rows : ℕ) → All IsRange ranges → length ranges < 2 ^ 31 → rows < 2 ^ 31 → IsTrail (record { ranges = ranges; rows = rows; lits = []; levels = [] })
IsTrail-new ranges rows ok few_vars few_rows = record {
  ranges = ok;
  few_vars = few_vars;
  few_rows = few_rows;
  few_lits = omega arith;
  terms = λ k d h. absurd (omega arith);
  inner = λ k d h. absurd (omega arith);
  opened = λ at h. absurd (omega arith);
  rising = λ i j d h k. absurd (omega arith);
  places = λ k d h. absurd (omega arith);
}

pub AreEdges-new : (ranges : List (ℤ × ℤ)) (rows : ℕ) → AreEdges ranges rows [] (first_edges ranges rows)
AreEdges-new ranges rows = record {
  one_each = omega (arith, length-append (range_edges ranges) (replicate (2 * rows) no_edge), length-range_edges ranges, length-replicate (2 * rows) no_edge);
  each = λ place h. refl;
}
