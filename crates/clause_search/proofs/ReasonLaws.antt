-- What the reasons of a trail's literals keep when the trail or the store changes.
use Rattle.std.proofs.Common.{◌≡◌, ℕ, ◌<◌, ◌≤◌, List, [], ◌∷◌, ◌++◌, length, length-append, get_or, take, Option, Some, None, ap, ◌∙◌, subst, ⊎_elim, arith}
use Rattle.std.specs.Prelude.{slice_get, Contains}
use Rattle.std.proofs.lemmas.Bool.{cases_lt}
use Rattle.std.proofs.lemmas.List.{get_or_append_left, get_or_push, get_or-take, take-append-le, take-take, length_push, length-take-le, get_or_default, get_or_past}
use Rattle.std.proofs.lemmas.List.Elements.{Contains-append_left}
use Rattle.std.proofs.lemmas.Option.{slice_get_within, slice_get-get_or, get_or_from_slice_get}
use Rattle.mix_system.specs.declared.literal.Lit.{Lit}
use Rattle.bound_trail.specs.Trail.{Trail, level_end, IsTrail}
use Rattle.clause_search.specs.Search.{Search}
use Rattle.clause_search.specs.Stored.{IsReason, AreReasons}

-- a clause keeps its number when another one is added
pub slice_get_more : {X : Type 0} (xs ys : List X) (at : ℕ) (x : X) → slice_get xs at ≡ Some x → slice_get (xs ++ ys) at ≡ Some x
slice_get_more xs ys at x e =
    let h = slice_get_within xs at x e in
    slice_get-get_or (xs ++ ys) at x (omega (arith, length-append xs ys)) ∙ ap Some (get_or_append_left xs ys x at h ∙ get_or_from_slice_get xs at x x e)

-- one more clause
IsReason-add : (state : Search) (clause : List Lit) (at : ℕ) (reason : Option ℕ) → IsReason state at reason → IsReason (record state { store = state.store ++ clause ∷ [] }) at reason
IsReason-add state clause at None h = h
IsReason-add state clause at (Some number) h =
    (h.0, slice_get_more state.store (clause ∷ []) number h.0 h.1, h.2)

pub AreReasons-add : (state : Search) (clause : List Lit) (reasons : List (Option ℕ)) → AreReasons state reasons → AreReasons (record state { store = state.store ++ clause ∷ [] }) reasons
AreReasons-add state clause reasons are = record {
  one_each = are.one_each;
  each = λ at h. IsReason-add state clause at (get_or reasons at None) (are.each at h);
}

-- one more level
IsReason-open : (state : Search) (place : ℕ) (at : ℕ) (reason : Option ℕ) → IsReason state at reason → IsReason (record state { trail = record state.trail { levels = state.trail.levels ++ place ∷ [] } }) at reason
IsReason-open state place at None h = Contains-append_left state.trail.levels (place ∷ []) at h
IsReason-open state place at (Some number) h = h

pub AreReasons-open : (state : Search) (place : ℕ) (reasons : List (Option ℕ)) → AreReasons state reasons → AreReasons (record state { trail = record state.trail { levels = state.trail.levels ++ place ∷ [] } }) reasons
AreReasons-open state place reasons are = record {
  one_each = are.one_each;
  each = λ at h. IsReason-open state place at (get_or reasons at None) (are.each at h);
}

-- one more literal
abbrev pub with_lit : Search → Lit → Search
with_lit state lit = record state { trail = record state.trail { lits = state.trail.lits ++ lit ∷ [] } }

IsReason-push : (state : Search) (lit : Lit) (at : ℕ) (reason : Option ℕ) → at < length state.trail.lits → IsReason state at reason → IsReason (with_lit state lit) at reason
IsReason-push state lit at None below h = h
IsReason-push state lit at (Some number) below h =
    (h.0, h.1, λ d. rw (get_or_append_left state.trail.lits (lit ∷ []) d at below, take-append-le at state.trail.lits (lit ∷ []) (omega arith)) (h.2 d))

pub AreReasons-push : (state : Search) (lit : Lit) (reasons : List (Option ℕ)) (reason : Option ℕ) → IsReason (with_lit state lit) (length state.trail.lits) reason → AreReasons state reasons → AreReasons (with_lit state lit) (reasons ++ reason ∷ [])
AreReasons-push state lit reasons reason last are =
    let count = length_push state.trail.lits lit in
    let reasons_count = length_push reasons reason in
    record {
      one_each = omega (arith, are.one_each);
      each = λ at h. ⊎_elim
          (λ below. rw (get_or_append_left reasons (reason ∷ []) None at (omega (arith, are.one_each))) (IsReason-push state lit at (get_or reasons at None) below (are.each at below)))
          (λ past. let e : length state.trail.lits ≡ at = omega arith in
          rw (get_or_push reasons reason None at (are.one_each ∙ e)) (subst (λ n. IsReason (with_lit state lit) n reason) e last))
          (cases_lt at (length state.trail.lits));
    }

-- fewer literals and levels
IsReason-cut : (state : Search) (count : ℕ) (levels : List ℕ) (at : ℕ) (reason : Option ℕ) → at < count → (Contains state.trail.levels at → Contains levels at) → IsReason state at reason → IsReason (record state { trail = record state.trail { lits = take count state.trail.lits; levels = levels } }) at reason
IsReason-cut state count levels at None below keeps h = keeps h
IsReason-cut state count levels at (Some number) below keeps h =
    (h.0, h.1, λ d. rw (get_or-take count state.trail.lits at d below, take-take at count state.trail.lits (omega arith)) (h.2 d))

-- no level from one on begins before that one's end
not_before_end : (trail : Trail) (level k at : ℕ) → IsTrail trail → level ≤ k → k < length trail.levels → get_or trail.levels k at ≡ at → at < level_end trail level → ⊥
not_before_end trail level k at ok h within is below =
    let end = level_end trail level in
    let is_end : get_or trail.levels level at ≡ end = get_or_default trail.levels level at (length trail.lits) (omega arith) in
    ⊎_elim
    (λ later. let pair = ok.rising level k at later within in omega arith)
    (λ same. let e : k ≡ level = omega arith in let here = subst (λ n. get_or trail.levels n at ≡ at) e is in omega arith)
    (cases_lt level k)

-- a level that begins before the end of one is among the levels up to it
kept_level : (trail : Trail) (level at : ℕ) → IsTrail trail → level ≤ length trail.levels → at < level_end trail level → Contains trail.levels at → Contains (take level trail.levels) at
kept_level trail level at ok h below has =
    let short = length-take-le level trail.levels h in
    ⊎_elim
    (λ first. (has.0, omega arith, get_or-take level trail.levels has.0 at first ∙ has.2))
    (λ past. absurd (not_before_end trail level has.0 at ok past has.1 has.2 below))
    (cases_lt has.0 level)

pub level_end_within : (trail : Trail) (level : ℕ) → IsTrail trail → level_end trail level ≤ length trail.lits
level_end_within trail level ok =
    ⊎_elim
    (λ h. ok.places level (length trail.lits) h)
    (λ past. omega (arith, get_or_past trail.levels level (length trail.lits) past))
    (cases_lt level (length trail.levels))

pub AreReasons-cut : (state : Search) (level : ℕ) (reasons : List (Option ℕ)) → IsTrail state.trail → level ≤ length state.trail.levels → AreReasons state reasons → AreReasons (record state { trail = record state.trail { lits = take (level_end state.trail level) state.trail.lits; levels = take level state.trail.levels } }) (take (level_end state.trail level) reasons)
AreReasons-cut state level reasons ok h are =
    let end = level_end state.trail level in
    let within = level_end_within state.trail level ok in
    let short = length-take-le end state.trail.lits within in
    let reasons_short = length-take-le end reasons (omega (arith, are.one_each)) in
    record {
      one_each = omega arith;
      each = λ at k. let below : at < end = omega arith in
          rw (get_or-take end reasons at None below) (IsReason-cut state end (take level state.trail.levels) at (get_or reasons at None) below (kept_level state.trail level at ok h below) (are.each at (omega arith)));
    }
