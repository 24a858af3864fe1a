-- The clause that hints end with, and what they are run from.
use Rattle.std.proofs.Common.{◌≡◌, ◌⊎◌, ℕ, zero, suc, ◌+◌, ◌<◌, ◌≤◌, List, [], ◌∷◌, length, get_or, map, Some, All, sym, ap, ◌∙◌, subst, inl, inr, ⊎_elim, arith}
use Rattle.std.specs.Prelude.{slice_get, Contains}
use Rattle.std.specs.List.{HoldsAt}
use Rattle.std.proofs.lemmas.Bool.{cases_lt}
use Rattle.std.proofs.lemmas.List.{get_or_default, get_or-map, length-map}
use Rattle.std.proofs.lemmas.List.Elements.{All-append, All-cons, All-weaker}
use Rattle.std.proofs.lemmas.Option.{slice_get-get_or, slice_get_within}
use Rattle.mix_system.specs.declared.literal.Lit.{Lit}
use Rattle.mix_system.specs.Lit.{negation}
use Rattle.mix_system.specs.Bounds.{Entails, IsIn, IsFalseIn, range_bounds, unit_bounds}
use Rattle.mix_system.specs.Follows.{LeavesOne}
use Rattle.mix_system.proofs.BoundLaws.{IsIn-none, IsIn-contained, IsIn-first, IsIn-there, IsIn-entailed, negation-twice}
use Rattle.bound_trail.specs.Edges.{blank_lit}
use Rattle.bound_trail.specs.Trail.{Trail, box, box_with, IsCause, IsTrail}
use Rattle.bound_trail.proofs.TrailLaws.{box_is}
use Rattle.bound_trail.proofs.EntailmentLaws.{falsifies_each_other}
use Rattle.bound_trail.proofs.BoxLaws.{in_more, in_box, in_put, in_ranges, consistent_box}
use Rattle.clause_search.specs.Search.{Search, WasQuiet, present_level}
use Rattle.clause_search.specs.Answers.{IsConflict}
use Rattle.clause_search.specs.declared.marks.Mark.{Mark}
use Rattle.clause_search.specs.Marks.{lit_at, IsSeen, AreCovered}
use Rattle.clause_search.specs.Runs.{IsAim, IsAimSoFar, IsReady, AreKept}
use Rattle.clause_search.proofs.MarkLaws.{some_same, same_clause, trail_true}
use Rattle.clause_search.proofs.LearntLaws.{single_of, singles_true, kept_place}

-- a literal of the trail that a bound makes false makes that bound false
broken_back : (trail : Trail) (only : Lit) (at : ℕ) → at < length trail.lits → Entails only (negation (lit_at trail at)) → IsFalseIn (box_with trail (suc at)) only
broken_back trail only at h e =
    let back = falsifies_each_other only (lit_at trail at) e in
    in_put trail at (negation only) h (λ d. subst (λ put. Entails put (negation only)) (get_or_default trail.lits at blank_lit d h) back)

pub aim_first : (state : Search) (conflict : ℕ) → IsConflict state conflict → IsAimSoFar state 0 (length state.trail.lits) conflict
aim_first state conflict is = record {
  within = omega arith;
  none_broken = λ number h only e at g. absurd (omega arith);
  clause = is.clause;
  among = is.among;
  broken = All-weaker (IsFalseIn (box state.trail)) (λ lit. IsFalseIn (box_with state.trail (length state.trail.lits)) lit ⊎ IsFalseIn (unit_bounds state.store) lit)
      (λ lit is_false. inl (subst (λ xs. IsFalseIn xs lit) (sym (box_is state.trail)) is_false)) is.clause is.none_left;
}

-- a clause that makes no literal before the end false
pub aim_skip : (state : Search) (count end last : ℕ) → ((only : Lit) → slice_get state.store count ≡ Some (only ∷ []) → (at : ℕ) → at < end → ¬ Entails only (negation (lit_at state.trail at))) → IsAimSoFar state count end last → IsAimSoFar state (count + 1) end last
aim_skip state count end last none aim = record {
  within = aim.within;
  none_broken = λ number h. ⊎_elim
      (λ before. aim.none_broken number before)
      (λ past. let e : count ≡ number = omega arith in
      subst (λ n. (only : Lit) → slice_get state.store n ≡ Some (only ∷ []) → (at : ℕ) → at < end → ¬ Entails only (negation (lit_at state.trail at))) e none)
      (cases_lt number count);
  clause = aim.clause;
  among = aim.among;
  broken = aim.broken;
}

head_same : (x y : Lit) → x ∷ [] ≡ y ∷ [] → x ≡ y
head_same x y e = ap (λ xs. get_or xs 0 x) e

-- which one that isn't false does
pub none_where_not_false : (state : Search) (count end : ℕ) (clause : List Lit) (lit : Lit) → slice_get state.store count ≡ Some clause → clause ≡ lit ∷ [] → end ≤ length state.trail.lits → (¬ IsFalseIn (box state.trail) lit) → (only : Lit) → slice_get state.store count ≡ Some (only ∷ []) → (at : ℕ) → at < end → ¬ Entails only (negation (lit_at state.trail at))
none_where_not_false state count end clause lit among is within left only e at h broken =
    let same = head_same only lit (same_clause state.store count (only ∷ []) clause e among ∙ is) in
    left (subst (IsFalseIn (box state.trail)) same (in_box state.trail (suc at) (negation only) (broken_back state.trail only at (omega arith) broken)))

-- nor one whose cause isn't before the end
pub none_before_cause : (state : Search) (count end place : ℕ) (clause : List Lit) (lit : Lit) → slice_get state.store count ≡ Some clause → clause ≡ lit ∷ [] → end ≤ length state.trail.lits → IsCause state.trail lit place → end ≤ place → (only : Lit) → slice_get state.store count ≡ Some (only ∷ []) → (at : ℕ) → at < end → ¬ Entails only (negation (lit_at state.trail at))
none_before_cause state count end place clause lit among is within cause below only e at h broken =
    let same = head_same only lit (same_clause state.store count (only ∷ []) clause e among ∙ is) in
    cause.first (in_more state.trail (suc at) place (negation lit) (omega arith) (subst (IsFalseIn (box_with state.trail (suc at))) same (broken_back state.trail only at (omega arith) broken)))

-- a clause of one literal is a bound of the box
singles_later : (clause : List Lit) (store : List (List Lit)) (lit : Lit) → IsIn (unit_bounds store) lit → IsIn (unit_bounds (clause ∷ store)) lit
singles_later [] store lit a = a
singles_later (one ∷ []) store lit a = IsIn-there one (unit_bounds store) lit a
singles_later (one ∷ other ∷ rest) store lit a = a

in_singles : (store : List (List Lit)) (number : ℕ) (only lit : Lit) → slice_get store number ≡ Some (only ∷ []) → Entails only lit → IsIn (unit_bounds store) lit
in_singles [] number only lit e h = absurd (omega (arith, slice_get_within [] number (only ∷ []) e))
in_singles (clause ∷ store) zero only lit e h =
    subst (λ c. IsIn (unit_bounds (c ∷ store)) lit) (sym (some_same clause (only ∷ []) e)) (IsIn-first only (unit_bounds store) lit h)
in_singles (clause ∷ store) (suc number) only lit e h =
    singles_later clause store lit (in_singles store number only lit e h)

-- one whose cause is before the end lowers it to the cause
pub aim_lower : (state : Search) (count end last place reason : ℕ) (clause why : List Lit) (lit : Lit) → slice_get state.store count ≡ Some clause → clause ≡ lit ∷ [] → IsCause state.trail lit place → place < end → slice_get state.store reason ≡ Some why → HoldsAt (LeavesOne (box_with state.trail place) why) state.trail.lits place → IsAimSoFar state count end last → IsAimSoFar state (count + 1) place reason
aim_lower state count end last place reason clause why lit among is cause below given implied aim =
    let trail = state.trail in
    let put = lit_at trail place in
    let one = implied blank_lit in
    let Broken : Lit → Type 0 = λ x. IsFalseIn (box_with trail place) x ⊎ IsFalseIn (unit_bounds state.store) x in
    let single : IsFalseIn (unit_bounds state.store) put = in_singles state.store count lit (negation put) (among ∙ ap Some is) (falsifies_each_other put lit (cause.falsifies blank_lit)) in
    let before = All-weaker (IsFalseIn (box_with trail place)) Broken (λ x h. inl h) one.before one.before_false in
    let after = All-weaker (IsFalseIn (box_with trail place)) Broken (λ x h. inl h) one.after one.after_false in
    aim_skip state count place reason
    (none_before_cause state count place place clause lit among is (omega (arith, cause.within)) cause (omega arith))
    (record {
      within = omega (arith, cause.within);
      none_broken = λ number h only e at g. aim.none_broken number h only e at (omega arith);
      clause = why;
      among = given;
      broken = subst (All Broken) (sym one.split) (All-append Broken one.before (put ∷ one.after) before (All-cons Broken put one.after (inr single) after));
    })

-- a clause that the ranges make false ends all
pub aim_at_once : (state : Search) (number : ℕ) (clause : List Lit) (lit : Lit) → slice_get state.store number ≡ Some clause → clause ≡ lit ∷ [] → IsFalseIn (range_bounds state.trail.ranges) lit → IsAim state 0 number
aim_at_once state number clause lit among is range =
    let Broken : Lit → Type 0 = λ x. IsFalseIn (box_with state.trail 0) x ⊎ IsFalseIn (unit_bounds state.store) x in
    record {
      within = omega arith;
      none_broken = λ at h. absurd (omega arith);
      clause = lit ∷ [];
      among = among ∙ ap Some is;
      broken = All-cons Broken lit [] (inl (in_ranges state.trail 0 (negation lit) range)) (λ k d h. absurd (omega arith));
    }

pub aim_not_false : (state : Search) (count end last : ℕ) (clause : List Lit) (lit : Lit) → slice_get state.store count ≡ Some clause → clause ≡ lit ∷ [] → (¬ IsFalseIn (box state.trail) lit) → IsAimSoFar state count end last → IsAimSoFar state (count + 1) end last
aim_not_false state count end last clause lit among is left aim =
    aim_skip state count end last (none_where_not_false state count end clause lit among is aim.within left) aim

pub aim_later : (state : Search) (count end last place : ℕ) (clause : List Lit) (lit : Lit) → slice_get state.store count ≡ Some clause → clause ≡ lit ∷ [] → IsCause state.trail lit place → end ≤ place → IsAimSoFar state count end last → IsAimSoFar state (count + 1) end last
aim_later state count end last place clause lit among is cause below aim =
    aim_skip state count end last (none_before_cause state count end place clause lit among is aim.within cause below) aim

-- a clause that hasn't one literal
pub aim_long : (state : Search) (count end last : ℕ) (clause : List Lit) → slice_get state.store count ≡ Some clause → (length clause ≡ 1 → ⊥) → IsAimSoFar state count end last → IsAimSoFar state (count + 1) end last
aim_long state count end last clause among long aim =
    aim_skip state count end last (λ only e at h broken. long (ap length (same_clause state.store count clause (only ∷ []) among e))) aim

pub single_is : (clause : List Lit) (lit : Lit) → length clause ≡ 1 → get_or clause 0 lit ≡ lit → clause ≡ lit ∷ []
single_is [] lit h e = absurd (omega (arith, h))
single_is (one ∷ []) lit h e = ap (λ x. x ∷ []) e
single_is (one ∷ other ∷ rest) lit h e = absurd (omega (arith, h))

pub one_is : (clause : List Lit) → length clause ≡ 1 → clause ≡ get_or clause 0 blank_lit ∷ []
one_is clause h = single_is clause (get_or clause 0 blank_lit) h (get_or_default clause 0 (get_or clause 0 blank_lit) blank_lit (omega arith))

pub aim_end : (state : Search) (end last : ℕ) → IsAimSoFar state (length state.store) end last → IsAim state end last
aim_end state end last aim = record {
  within = aim.within;
  none_broken = λ at h single.
      let found = single_of state.store (negation (lit_at state.trail at)) single in
      let among = found.1 in
      let number = among.0 in
      aim.none_broken number among.1 found.0 (slice_get-get_or state.store number (found.0 ∷ []) among.1 ∙ ap Some among.2) at h found.2;
  clause = aim.clause;
  among = aim.among;
  broken = aim.broken;
}

-- above level 0 the hints end with the false clause
pub aim_above : (state : Search) (conflict : ℕ) → IsTrail state.trail → WasQuiet state → 0 < present_level state → IsConflict state conflict → IsAim state (length state.trail.lits) conflict
aim_above state conflict ok quiet some is =
    let first = aim_first state conflict is in
    record {
      within = omega arith;
      none_broken = λ at h single. let put = lit_at state.trail at in
          consistent_box state.trail ok put (trail_true state.trail at h) (singles_true state quiet some (negation put) single);
      clause = first.clause;
      among = first.among;
      broken = first.broken;
    }

-- ready where all that is seen is kept

contains_map : {X Y : Type 0} (f : X → Y) (xs : List X) (x : X) → Contains xs x → Contains (map f xs) (f x)
contains_map f xs x among =
    (among.0, omega (arith, among.1, length-map xs f), get_or-map f xs among.0 x (f x) among.1 ∙ ap f among.2)

contained_in_map : {X Y : Type 0} (f : X → Y) (xs : List X) (d : X) (y : Y) → Contains (map f xs) y → (x : X) × Contains xs x × (f x ≡ y)
contained_in_map f xs d y among =
    let within : among.0 < length xs = omega (arith, among.1, length-map xs f) in
    let x = get_or xs among.0 d in
    (x, (among.0, within, get_or_default xs among.0 x d within), sym (get_or-map f xs among.0 d y within) ∙ among.2)

pub ready_where_kept : (state : Search) (marks : List Mark) (lits : List Lit) (end last : ℕ) (clause : List Lit) → end ≤ length state.trail.lits → slice_get state.store last ≡ Some clause → AreCovered state.trail marks clause → AreKept state.trail marks (length state.trail.lits) lits → IsReady state marks lits end last
ready_where_kept state marks lits end last clause within among covered kept =
    let trail = state.trail in
    let f : ℕ → Lit = λ place. negation (lit_at trail place) in
    record {
      covered = λ other e. subst (AreCovered trail marks) (same_clause state.store last clause other among e) covered;
      seen = λ at h is. let put = lit_at trail at in
          let one = contains_map f kept.places at (kept.all at (omega arith) is) in
          let two = contains_map negation lits (negation put) (subst (λ xs. Contains xs (negation put)) (sym kept.lits_are) one) in
          IsIn-contained (map negation lits) put (subst (Contains (map negation lits)) (negation-twice put) two);
      only = λ lit any.
          let found = contained_in_map negation lits blank_lit any.1 (any.0, any.2, any.3) in
          let place = kept_place trail marks lits kept found.0 found.1 in
          let put = lit_at trail place.place in
          let e : put ≡ any.1 = sym (negation-twice put) ∙ ap negation (sym place.is) ∙ found.2 in
          IsIn-entailed (box trail) put lit (trail_true trail place.place place.within) (subst (λ x. Entails x lit) (sym e) any.4);
    }

-- or where nothing is seen
pub ready_where_none : (state : Search) (marks : List Mark) (end last : ℕ) (clause : List Lit) → slice_get state.store last ≡ Some clause → AreCovered state.trail marks clause → ((at : ℕ) → at < end → ¬ IsSeen marks at) → IsReady state marks [] end last
ready_where_none state marks end last clause among covered none = record {
  covered = λ other e. subst (AreCovered state.trail marks) (same_clause state.store last clause other among e) covered;
  seen = λ at h is. absurd (none at h is);
  only = λ lit a. absurd (IsIn-none lit a);
}
