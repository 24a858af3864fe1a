-- Why what is learnt is new, and on which levels its literals became false.
use Rattle.std.proofs.Common.{◌≡◌, ◌⊎◌, ℕ, zero, suc, ◌+◌, ◌-◌, ◌<◌, ◌≤◌, List, [], ◌∷◌, ◌++◌, length, get_or, map, take, All, Any, AllPairs, refl, sym, ap, ◌∙◌, subst, inl, inr, ⊎_elim, arith}
use Rattle.std.specs.Prelude.{Contains}
use Rattle.std.proofs.lemmas.Bool.{cases_lt}
use Rattle.std.proofs.lemmas.List.{get_or_default, get_or_past, get_or-map, get_or-take, length-map, length-take-le, take_more, take_all, map-append, append-nil}
use Rattle.std.proofs.lemmas.List.Elements.{All-contains, All-contains_itself, All-map, Contains-append_left, Contains-append_right, Contains-push_cases}
use Rattle.mix_system.specs.declared.literal.Lit.{Lit}
use Rattle.mix_system.specs.Lit.{negation}
use Rattle.mix_system.specs.System.{IsClause, IsInner, Exists}
use Rattle.mix_system.specs.Bounds.{Entails, IsIn, IsFalseIn, range_bounds, unit_bounds}
use Rattle.mix_system.specs.Follows.{LeavesNone}
use Rattle.mix_system.proofs.AnyLaws.{Any-one_holds}
use Rattle.mix_system.proofs.BoundLaws.{IsIn-none, IsIn-cons_cases, IsIn-entailed, negation-twice, atom-negation}
use Rattle.bound_trail.specs.Edges.{blank_lit}
use Rattle.bound_trail.specs.Trail.{Trail, box, box_with, box_at, level_end, BecameFalse, IsCause, IsTrail}
use Rattle.bound_trail.proofs.EntailmentLaws.{entails_itself}
use Rattle.bound_trail.proofs.BoxLaws.{in_more, in_box, in_put, in_ranges, consistent_box}
use Rattle.clause_search.specs.Settled.{HasTrue, IsSettled}
use Rattle.clause_search.specs.Search.{Search, WasQuiet, present_level}
use Rattle.clause_search.specs.Stored.{AreClauses}
use Rattle.clause_search.specs.Marks.{lit_at, AreMarks, IsSeen, IsMarked, AreCovered, IsLowest, IsPoint}
use Rattle.clause_search.specs.Runs.{IsLevelOf, IsBackLevel, AreKept}
use Rattle.clause_search.specs.Learnt.{HasKnownAtom, BecameFalseBy, IsAsserting}
use Rattle.clause_search.specs.declared.marks.Mark.{Mark}
use Rattle.clause_search.proofs.MarkLaws.{seen_is_marked, trail_true}

-- levels

-- the levels' ends rise
pub ends_rise : (trail : Trail) (k l : ℕ) → IsTrail trail → k ≤ l → level_end trail k ≤ level_end trail l
ends_rise trail k l ok h =
    let len = length trail.lits in
    ⊎_elim
    (λ inside. ⊎_elim
    (λ less. ok.rising k l len less inside)
    (λ same. let e : k ≡ l = omega arith in subst (λ n. level_end trail k ≤ level_end trail n) e (omega arith))
    (cases_lt k l))
    (λ past. let e = get_or_past trail.levels l len past in
    ⊎_elim
    (λ first. let within = ok.places k len first in omega (arith, e, within))
    (λ also. omega (arith, e, get_or_past trail.levels k len also))
    (cases_lt k (length trail.levels)))
    (cases_lt l (length trail.levels))

-- the negation of a literal of the trail became false on the level of its place
pub level_became_false : (trail : Trail) (at level : ℕ) → IsTrail trail → at < length trail.lits → IsLevelOf trail at level → BecameFalse trail (negation (lit_at trail at)) level
level_became_false trail at level ok h is =
    let lit = lit_at trail at in
    let twice = negation-twice lit in
    let put : IsIn (box_with trail (suc at)) lit = in_put trail at lit h (λ d. subst (λ put. Entails put lit) (get_or_default trail.lits at blank_lit d h) (entails_itself lit)) in
    record {
      present = is.present;
      there = subst (IsIn (box_at trail level)) (sym twice) (in_more trail (suc at) (level_end trail level) lit (omega (arith, is.ends)) put);
      before = λ earlier below is_false. (ok.opened at h blank_lit).not_true
          (in_more trail (level_end trail earlier) at lit (is.begins earlier below) (subst (IsIn (box_at trail earlier)) twice is_false));
    }

-- a false literal became false on the level of the place that first made it false
pub cause_became_false : (trail : Trail) (lit : Lit) (at level : ℕ) → IsTrail trail → IsCause trail lit at → IsLevelOf trail at level → BecameFalse trail lit level
cause_became_false trail lit at level ok cause is =
    let put : IsIn (box_with trail (suc at)) (negation lit) = in_put trail at (negation lit) cause.within cause.falsifies in
    record {
      present = is.present;
      there = in_more trail (suc at) (level_end trail level) (negation lit) (omega (arith, is.ends)) put;
      before = λ earlier below is_false. cause.first (in_more trail (level_end trail earlier) at (negation lit) (is.begins earlier below) is_false);
    }

pub range_became_false : (trail : Trail) (lit : Lit) → IsFalseIn (range_bounds trail.ranges) lit → BecameFalse trail lit 0
range_became_false trail lit is_false = record {
  present = omega arith;
  there = in_ranges trail (level_end trail 0) (negation lit) is_false;
  before = λ earlier below. absurd (omega arith);
}

-- some level has ended behind the place, of the first so many, or none
abbrev FindsLevel : Trail → ℕ → ℕ → Type 0
FindsLevel trail at count =
    ((earlier : ℕ) → earlier < count → level_end trail earlier ≤ at) ⊎ ((level : ℕ) × (level < count) × (at < level_end trail level) × ((earlier : ℕ) → earlier < level → level_end trail earlier ≤ at))

find_level : (trail : Trail) (at count : ℕ) → FindsLevel trail at count
find_level trail at zero = inl (λ earlier h. absurd (omega arith))
find_level trail at (suc count) =
    ⊎_elim
    (λ none. ⊎_elim
    (λ here. inr (count, omega arith, here, none))
    (λ past. inl (λ earlier h. ⊎_elim (λ before. none earlier before) (λ last. let e : count ≡ earlier = omega arith in subst (λ n. level_end trail n ≤ at) e past) (cases_lt earlier count)))
    (cases_lt at (level_end trail count)))
    (λ found. inr (found.0, omega (arith, found.1), found.2, found.3))
    (find_level trail at count)

-- each place has a level
pub has_level : (trail : Trail) (at : ℕ) → at < length trail.lits → (level : ℕ) × IsLevelOf trail at level
has_level trail at h =
    let count = length trail.levels in
    ⊎_elim
    (λ none. (
      count,
      record {
        present = omega arith;
        ends = omega (arith, get_or_past trail.levels count (length trail.lits) (omega arith));
        begins = none;
      },
    ))
    (λ found. (found.0, record { present = omega (arith, found.1); ends = found.2; begins = found.3 }))
    (find_level trail at count)

-- places from the last level's begin on are on it, and places before it aren't
pub last_level : (trail : Trail) (start at : ℕ) → IsTrail trail → 0 < length trail.levels → level_end trail (length trail.levels - 1) ≡ start → start ≤ at → at < length trail.lits → IsLevelOf trail at (length trail.levels)
last_level trail start at ok some e from h = record {
  present = omega arith;
  ends = omega (arith, get_or_past trail.levels (length trail.levels) (length trail.lits) (omega arith));
  begins = λ earlier below. let r = ends_rise trail earlier (length trail.levels - 1) ok (omega arith) in omega (arith, r, e);
}

pub before_last_level : (trail : Trail) (start at level : ℕ) → 0 < length trail.levels → level_end trail (length trail.levels - 1) ≡ start → at < start → IsLevelOf trail at level → level < length trail.levels
before_last_level trail start at level some e below is =
    ⊎_elim
    (λ h. h)
    (λ past. let b = is.begins (length trail.levels - 1) (omega arith) in absurd (omega (arith, b, e)))
    (cases_lt level (length trail.levels))

-- a place behind level 0 is on a higher level
pub above_level_0 : (trail : Trail) (at level : ℕ) → level_end trail 0 ≤ at → IsLevelOf trail at level → 0 < level
above_level_0 trail at zero from is = absurd (omega (arith, is.ends))
above_level_0 trail at (suc level) from is = omega arith

-- a place before another is on no higher level
pub levels_rise : (trail : Trail) (at later level above : ℕ) → at ≤ later → IsLevelOf trail at level → IsLevelOf trail later above → level ≤ above
levels_rise trail at later level above h is other =
    ⊎_elim
    (λ higher. let b = is.begins above higher in absurd (omega (arith, b, other.ends)))
    (λ fine. fine)
    (cases_lt above level)

-- what was settled below the present level

quiet_below : (state : Search) → WasQuiet state → 0 < present_level state → (clause : List Lit) → Contains state.store clause → IsSettled (box_at state.trail (present_level state - 1)) clause
quiet_below state quiet some clause among =
    All-contains (IsSettled (box_at state.trail (present_level state - 1))) state.store clause (quiet (present_level state - 1) (omega arith)) among

contains_later : {X : Type 0} (x : X) (xs : List X) (y : X) → Contains xs y → Contains (x ∷ xs) y
contains_later x xs y among = Contains-append_right (x ∷ []) xs y among

single_true : (bounds : List Lit) (lit : Lit) → HasTrue bounds (lit ∷ []) → IsIn bounds lit
single_true bounds lit any = Any-one_holds (IsIn bounds) lit any

-- the clauses of one literal are true once a level was opened
pub single_of : (store : List (List Lit)) (lit : Lit) → IsIn (unit_bounds store) lit → (only : Lit) × Contains store (only ∷ []) × Entails only lit
single_of [] lit a = absurd (IsIn-none lit a)
single_of ([] ∷ store) lit a =
    let found = single_of store lit a in (found.0, contains_later [] store (found.0 ∷ []) found.1, found.2)
single_of ((only ∷ []) ∷ store) lit a =
    ⊎_elim
    (λ here. (only, (0, omega arith, refl), here))
    (λ there. let found = single_of store lit there in (found.0, contains_later (only ∷ []) store (found.0 ∷ []) found.1, found.2))
    (IsIn-cons_cases only (unit_bounds store) lit a)
single_of ((one ∷ other ∷ clause) ∷ store) lit a =
    let found = single_of store lit a in (found.0, contains_later (one ∷ other ∷ clause) store (found.0 ∷ []) found.1, found.2)

-- a clause of one literal that is settled is true
single_settled : (bounds : List Lit) (lit : Lit) → IsSettled bounds (lit ∷ []) → IsIn bounds lit
single_settled bounds lit settled =
    ⊎_elim
    (λ any. single_true bounds lit any)
    (λ two. absurd (omega (arith, two.apart, two.other.within)))
    settled

pub singles_true : (state : Search) → WasQuiet state → 0 < present_level state → (lit : Lit) → IsIn (unit_bounds state.store) lit → IsIn (box state.trail) lit
singles_true state quiet some lit a =
    let found = single_of state.store lit a in
    let settled = All-contains (IsSettled (box_at state.trail 0)) state.store (found.0 ∷ []) (quiet 0 some) found.1 in
    IsIn-entailed (box state.trail) found.0 lit (in_box state.trail (level_end state.trail 0) found.0 (single_settled (box_at state.trail 0) found.0 settled)) found.2

-- why what is learnt is new

-- a kept literal is the negation of a seen literal of the trail
pub record IsKeptFrom (trail : Trail) (marks : List Mark) (lit : Lit) : Type 0 where
  pub place : ℕ
  pub seen : IsSeen marks place
  pub within : place < length trail.lits
  pub is : lit ≡ negation (lit_at trail place)

pub kept_place : (trail : Trail) (marks : List Mark) (lits : List Lit) → AreKept trail marks (length trail.lits) lits → (lit : Lit) → Contains lits lit → IsKeptFrom trail marks lit
kept_place trail marks lits kept lit among =
    let f : ℕ → Lit = λ place. negation (lit_at trail place) in
    let found : Contains (map f kept.places) lit = subst (λ xs. Contains xs lit) kept.lits_are among in
    let within : found.0 < length kept.places = omega (arith, found.1, length-map kept.places f) in
    let here = kept.seen found.0 0 within in
    record {
      place = get_or kept.places found.0 0;
      seen = here.0;
      within = here.1;
      is = sym found.2 ∙ get_or-map f kept.places found.0 0 lit within;
    }

-- a literal of a kept one's negation is false before a start that its place stands before
kept_false : (trail : Trail) (start place : ℕ) → place < length trail.lits → place < start → IsFalseIn (box_with trail start) (negation (lit_at trail place))
kept_false trail start place h below =
    let lit = lit_at trail place in
    let put : IsIn (box_with trail (suc place)) lit = in_put trail place lit h (λ d. subst (λ put. Entails put lit) (get_or_default trail.lits place blank_lit d h) (entails_itself lit)) in
    subst (IsIn (box_with trail start)) (sym (negation-twice lit)) (in_more trail (suc place) start lit (omega arith) put)

pub kept_fresh : (state : Search) (marks : List Mark) (start point : ℕ) (lits : List Lit) → IsTrail state.trail → AreClauses state → WasQuiet state → 0 < present_level state → level_end state.trail (present_level state - 1) ≡ start → IsPoint start point marks → AreKept state.trail marks (length state.trail.lits) lits → (other : List Lit) → Contains state.store other → All (Contains lits) other → ⊥
kept_fresh state marks start point lits ok clauses quiet some e is kept other among all =
    let trail = state.trail in
    let settled : IsSettled (box_with trail start) other = subst (λ n. IsSettled (box_with trail n) other) e (quiet_below state quiet some other among) in
    let place_of : (lit : Lit) → Contains other lit → IsKeptFrom trail marks lit =
    λ lit within. kept_place trail marks lits kept lit (All-contains (Contains lits) other lit all within) in
    let is_point : (at : ℕ) → at < length other → (¬ IsFalseIn (box_with trail start) (get_or other at blank_lit)) → get_or other at blank_lit ≡ negation (lit_at trail point) =
    λ at h left. let lit = get_or other at blank_lit in
    let found = place_of lit (All-contains_itself other at blank_lit h) in
    let from : start ≤ found.place = ⊎_elim
    (λ below. absurd (left (subst (IsFalseIn (box_with trail start)) (sym found.is) (kept_false trail start found.place found.within below))))
    (λ h. h)
    (cases_lt found.place start) in
    found.is ∙ ap (λ n. negation (lit_at trail n)) (is.alone found.place from found.seen) in
    ⊎_elim
    (λ any. let lit = any.1 in
    let found = place_of lit (any.0, any.2, any.3) in
    let put = lit_at trail found.place in
    consistent_box trail ok put (trail_true trail found.place found.within) (in_box trail start (negation put) (subst (IsIn (box_with trail start)) found.is any.4)))
    (λ two. let one = is_point two.first two.one.within (two.one.left blank_lit) in
    let second = is_point two.second two.other.within (two.other.left blank_lit) in
    let clause = All-contains (IsClause (length trail.ranges) trail.rows) state.store other clauses.each among in
    clause.distinct two.first two.second blank_lit two.apart two.other.within (one ∙ sym second))
    settled

-- a false clause has a literal that became false at the present level
pub conflict_seen : (state : Search) (marks : List Mark) (clause : List Lit) (start lowest : ℕ) → IsTrail state.trail → WasQuiet state → 0 < present_level state → level_end state.trail (present_level state - 1) ≡ start → Contains state.store clause → LeavesNone (box state.trail) clause → AreCovered state.trail marks clause → ((at : ℕ) → IsMarked marks at → IsSeen marks at) → IsLowest start lowest marks → length marks ≡ length state.trail.lits → lowest < length marks
conflict_seen state marks clause start lowest ok quiet some e among none covered seen low count =
    let trail = state.trail in
    let settled : IsSettled (box_with trail start) clause = subst (λ n. IsSettled (box_with trail n) clause) e (quiet_below state quiet some clause among) in
    ⊎_elim
    (λ any. let lit = any.1 in
    absurd (consistent_box trail ok lit (in_box trail start lit any.4) (All-contains (IsFalseIn (box trail)) clause lit none (any.0, any.2, any.3))))
    (λ two. let at = two.first in
    let lit = get_or clause at blank_lit in
    let left = two.one.left blank_lit in
    ⊎_elim
    (λ range. absurd (left (in_ranges trail start (negation lit) range)))
    (λ p. let from : start ≤ p.0 = ⊎_elim
    (λ below. absurd (left (in_more trail (suc p.0) start (negation lit) (omega arith) (in_put trail p.0 (negation lit) p.2.within p.2.falsifies))))
    (λ h. h)
    (cases_lt p.0 start) in
    ⊎_elim
    (λ h. absurd (low.none_below p.0 from h (seen p.0 p.1)))
    (λ h. omega (arith, p.2.within, count))
    (cases_lt p.0 lowest))
    (covered at blank_lit two.one.within (none at blank_lit two.one.within)))
    settled

-- the learnt clause

kept_apart : (trail : Trail) (p q : ℕ) → IsTrail trail → p < q → q < length trail.lits → negation (lit_at trail p) ≡ negation (lit_at trail q) → ⊥
kept_apart trail p q ok below h e =
    let same : lit_at trail p ≡ lit_at trail q = sym (negation-twice (lit_at trail p)) ∙ ap negation e ∙ negation-twice (lit_at trail q) in
    let lit = lit_at trail p in
    let put : IsIn (box_with trail (suc p)) lit = in_put trail p lit (omega arith) (λ d. subst (λ put. Entails put lit) (get_or_default trail.lits p blank_lit d (omega arith)) (entails_itself lit)) in
    (ok.opened q h blank_lit).not_true (in_more trail (suc p) q (lit_at trail q) below (subst (IsIn (box_with trail (suc p))) same put))

pub kept_clause : (state : Search) (marks : List Mark) (lits : List Lit) → IsTrail state.trail → AreMarks state marks → AreKept state.trail marks (length state.trail.lits) lits → IsClause (length state.trail.ranges) state.trail.rows lits
kept_clause state marks lits ok are kept =
    let trail = state.trail in
    let f : ℕ → Lit = λ place. negation (lit_at trail place) in
    let count = length-map kept.places f in
    subst (IsClause (length trail.ranges) trail.rows) (sym kept.lits_are) (record {
      known = All-map (λ lit. Exists (length trail.ranges) trail.rows lit.term) f kept.places (λ k d h. ok.terms (get_or kept.places k d) blank_lit (kept.seen k d h).1);
      inner = All-map (λ lit. IsInner lit.bound) f kept.places (λ k d h. are.inner (get_or kept.places k d) (seen_is_marked marks (get_or kept.places k d) (kept.seen k d h).0));
      distinct = λ i j d less h e.
          let first : i < length kept.places = omega (arith, count) in
          let second : j < length kept.places = omega (arith, count) in
          kept_apart trail (get_or kept.places i 0) (get_or kept.places j 0) ok (kept.rising i j 0 less second) (kept.seen j 0 second).1
          (sym (get_or-map f kept.places i 0 d first) ∙ e ∙ get_or-map f kept.places j 0 d second);
    })

pub kept_atoms : (state : Search) (marks : List Mark) (lits : List Lit) → AreKept state.trail marks (length state.trail.lits) lits → All (HasKnownAtom state) lits
kept_atoms state marks lits kept =
    let trail = state.trail in
    let f : ℕ → Lit = λ place. negation (lit_at trail place) in
    subst (All (HasKnownAtom state)) (sym kept.lits_are) (All-map (HasKnownAtom state) f kept.places
    (λ k d h. let place = get_or kept.places k d in
    inl (place, lit_at trail place, (kept.seen k d h).1, get_or_default trail.lits place (lit_at trail place) blank_lit (kept.seen k d h).1, sym (atom-negation (lit_at trail place)))))

-- rising numbers whose greatest is among them end with it
rising_last : (xs : List ℕ) (x : ℕ) → AllPairs (λ a b. a < b) xs → Contains xs x → All (λ y. y ≤ x) xs → (front : List ℕ) × (xs ≡ front ++ x ∷ []) × All (λ y. y < x) front
rising_last xs x rising among all =
    let at = among.0 in
    let e : get_or xs at 0 ≡ x = get_or_default xs at 0 x among.1 ∙ among.2 in
    let end : at + 1 ≡ length xs = ⊎_elim
    (λ more. let later = rising at (at + 1) 0 (omega arith) more in let most = all (at + 1) 0 more in absurd (omega (arith, e, later, most)))
    (λ past. omega (arith, among.1))
    (cases_lt (at + 1) (length xs)) in
    let short = length-take-le at xs (omega (arith, among.1)) in (
      take at xs,
      sym (take_all (at + 1) xs (omega arith)) ∙ take_more xs at 0 among.1 ∙ ap (λ y. take at xs ++ y ∷ []) e,
      λ k d h. let below : k < at = omega arith in
          let less = rising k at d below among.1 in
          let here = get_or_default xs at d x among.1 ∙ among.2 in
          rw (get_or-take at xs k d below) (omega (arith, less, here)),
    )

no_items : (xs : List ℕ) → ((x : ℕ) → Contains xs x → ⊥) → xs ≡ []
no_items [] none = refl
no_items (x ∷ xs) none = absurd (none x (0, omega arith, refl))

any_map : (P : Lit → Type 0) (f : ℕ → Lit) (xs : List ℕ) (x : ℕ) → Contains xs x → P (f x) → Any P (map f xs)
any_map P f xs x among p =
    (among.0, f x, omega (arith, among.1, length-map xs f), get_or-map f xs among.0 x (f x) among.1 ∙ ap f among.2, p)

-- which literals became false on which level
module _ (state : Search) (marks : List Mark) (start point level : ℕ) (ok : IsTrail state.trail) (some : 0 < present_level state) (begin : level_end state.trail (present_level state - 1) ≡ start) (is : IsPoint start point marks) (none : (at : ℕ) → at < level_end state.trail 0 → ¬ IsSeen marks at) (back : IsBackLevel state.trail marks start level) where
  kept_by : (place : ℕ) → IsSeen marks place → place < length state.trail.lits → place < start → BecameFalseBy state level (negation (lit_at state.trail place))
  kept_by place seen h below =
      let trail = state.trail in
      let found = has_level trail place h in
      let from : level_end trail 0 ≤ place = ⊎_elim (λ before. absurd (none place before seen)) (λ from. from) (cases_lt place (level_end trail 0)) in
      record {
        own = found.0;
        became_false = level_became_false trail place found.0 ok h found.1;
        above = above_level_0 trail place found.0 from found.1;
        by = ⊎_elim
            (λ free. absurd (free.0 place below seen))
            (λ last. levels_rise trail place last.0 found.0 level (last.1.last place below seen) found.1 last.2)
            back;
        below = before_last_level trail start place found.0 some begin below found.1;
      }

  pub kept_asserts : (lits : List Lit) → length marks ≡ length state.trail.lits → AreKept state.trail marks (length state.trail.lits) lits → IsAsserting state lits level
  kept_asserts lits count kept =
      let trail = state.trail in
      let f : ℕ → Lit = λ place. negation (lit_at trail place) in
      let inside : point < length trail.lits = omega (arith, is.within) in
      let most : All (λ place. place ≤ point) kept.places = λ k d h.
      let place = get_or kept.places k d in
      ⊎_elim (λ below. omega (arith, is.above)) (λ from. let e = is.alone place from (kept.seen k d h).0 in omega (arith, e)) (cases_lt place start) in
      let last = rising_last kept.places point kept.rising (kept.all point inside is.seen) most in
      let front = last.0 in
      let is_map : lits ≡ map f front ++ f point ∷ [] = kept.lits_are ∙ ap (map f) last.1 ∙ map-append f front (point ∷ []) in
      let among : (place : ℕ) → Contains front place → Contains kept.places place = λ place h. subst (λ xs. Contains xs place) (sym last.1) (Contains-append_left front (point ∷ []) place h) in
      let old : (place : ℕ) → Contains front place → IsSeen marks place × (place < start) = λ place h.
      let seen = All-contains (λ p. IsSeen marks p × (p < length trail.lits)) kept.places place kept.seen (among place h) in
      let less = All-contains (λ p. p < point) front place last.2 h in (
        seen.0,
        ⊎_elim (λ below. below) (λ from. let e = is.alone place from seen.0 in absurd (omega (arith, e, less))) (cases_lt place start),
      ) in
      let before_is : map f front ++ [] ≡ map f front = append-nil (map f front) in
      record {
        before = map f front;
        point = f point;
        after = [];
        split = is_map;
        lower = ⊎_elim
            (λ free. omega (arith, free.1, some))
            (λ last. before_last_level trail start last.0 level some begin last.1.below last.2)
            back;
        at_present = level_became_false trail point (present_level state) ok inside (last_level trail start point ok some begin is.above inside);
        others = subst (All (BecameFalseBy state level)) (sym before_is) (All-map (BecameFalseBy state level) f front
            (λ k d h. let place = get_or front k d in
            let here = old place (All-contains_itself front k d h) in
            kept_by place here.0 (omega (arith, is.within, is.above, here.1)) here.1));
        greatest = ⊎_elim
            (λ free. inl (before_is ∙ ap (map f) (no_items front (λ place h. let here = old place h in free.0 place here.1 here.0)), free.1))
            (λ seen. let place = seen.0 in
            let within : place < length trail.lits = omega (arith, is.within, is.above, seen.1.below) in
            let of_front : Contains front place = ⊎_elim
            (λ h. h)
            (λ e. absurd (omega (arith, e, is.above, seen.1.below)))
            (Contains-push_cases front point place (subst (λ xs. Contains xs place) last.1 (kept.all place within seen.1.seen))) in
            let became = level_became_false trail place level ok within seen.2 in
            inr (subst (Any (λ lit. BecameFalse trail lit level)) (sym before_is) (any_map (λ lit. BecameFalse trail lit level) f front place of_front became)))
            back;
      }
