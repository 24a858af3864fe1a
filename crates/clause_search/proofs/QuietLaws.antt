-- What was settled at the ends of lower levels stays so while the search goes on.
use Rattle.std.proofs.Common.{◌≡◌, ℕ, suc, ◌+◌, ◌-◌, ◌<◌, ◌≤◌, List, [], ◌∷◌, ◌++◌, length, length-append, get_or, take, All, refl, sym, ap, ◌∙◌, subst, inr, ⊎_elim, arith}
use Rattle.std.proofs.lemmas.Bool.{cases_lt}
use Rattle.std.proofs.lemmas.List.{get_or_append_left, get_or-append_right, get_or_push, get_or_at, get_or_default, get_or-take, take-append-le, take-take, take_at, length_push, length-take-le}
use Rattle.std.proofs.lemmas.List.Elements.{All-push}
use Rattle.mix_system.specs.declared.literal.Lit.{Lit}
use Rattle.mix_system.specs.declared.tally.Tally.{Tally}
use Rattle.mix_system.specs.Bounds.{IsFalseIn, range_bounds}
use Rattle.bound_trail.specs.Trail.{Trail, box, box_at, level_end, BecameFalse, IsTrail}
use Rattle.clause_search.specs.Settled.{IsLeftAt, IsSettled}
use Rattle.clause_search.specs.Search.{Search, WasQuiet, present_level, Propagated}
use Rattle.clause_search.specs.Decided.{OpensLevel}
use Rattle.clause_search.specs.Learnt.{IsAsserting}
use Rattle.clause_search.proofs.LearntLaws.{ends_rise}

-- the same bounds at the end of a level, after more literals and levels
pub same_end : (trail : Trail) (more : List Lit) (levels : List ℕ) (level : ℕ) → IsTrail trail → level < length trail.levels → box_at (record trail { lits = trail.lits ++ more; levels = trail.levels ++ levels }) level ≡ box_at trail level
same_end trail more levels level ok h =
    let lits = trail.lits ++ more in
    let end = level_end trail level in
    let within : end ≤ length trail.lits = ok.places level (length trail.lits) h in
    let same : get_or (trail.levels ++ levels) level (length lits) ≡ end =
    get_or_append_left trail.levels levels (length lits) level h ∙ get_or_default trail.levels level (length lits) (length trail.lits) h in
    ap (λ n. range_bounds trail.ranges ++ take n lits) same ∙ ap (λ xs. range_bounds trail.ranges ++ xs) (take-append-le end trail.lits more within)

pub same_end_only : (trail : Trail) (more : List Lit) (level : ℕ) → IsTrail trail → level < length trail.levels → box_at (record trail { lits = trail.lits ++ more }) level ≡ box_at trail level
same_end_only trail more level ok h =
    let lits = trail.lits ++ more in
    let end = level_end trail level in
    let within : end ≤ length trail.lits = ok.places level (length trail.lits) h in
    let same : get_or trail.levels level (length lits) ≡ end = get_or_default trail.levels level (length lits) (length trail.lits) h in
    ap (λ n. range_bounds trail.ranges ++ take n lits) same ∙ ap (λ xs. range_bounds trail.ranges ++ xs) (take-append-le end trail.lits more within)

pub quiet_propagated : (old new : Search) (before after : Tally) → IsTrail old.trail → WasQuiet old → Propagated old new before after → WasQuiet new
quiet_propagated old new before after ok quiet p =
    subst WasQuiet (sym p.grown.lits) (λ level h.
    let same = same_end_only old.trail p.grown.added level ok h in
    subst (λ bounds. All (IsSettled bounds) old.store) (sym same) (quiet level h))

pub quiet_decided : (old new : Search) (lit : Lit) (before after : Tally) → IsTrail old.trail → WasQuiet old → All (IsSettled (box old.trail)) old.store → OpensLevel lit old new before after → WasQuiet new
quiet_decided old new lit before after ok quiet settled opens =
    let trail = old.trail in
    let count = length trail.lits in
    let lits = trail.lits ++ lit ∷ [] in
    subst WasQuiet (sym opens.level) (λ level h. ⊎_elim
    (λ below. subst (λ bounds. All (IsSettled bounds) old.store) (sym (same_end trail (lit ∷ []) (count ∷ []) level ok below)) (quiet level below))
    (λ past. let e : length trail.levels ≡ level = omega (arith, length_push trail.levels count) in
    let here : get_or (trail.levels ++ count ∷ []) level (length lits) ≡ count = get_or_push trail.levels count (length lits) level e in
    let same : box_at (record trail { lits = lits; levels = trail.levels ++ count ∷ [] }) level ≡ box trail =
    ap (λ n. range_bounds trail.ranges ++ take n lits) here ∙ ap (λ xs. range_bounds trail.ranges ++ xs) (take_at trail.lits (lit ∷ []) count refl) in
    subst (λ bounds. All (IsSettled bounds) old.store) (sym same) settled)
    (cases_lt level (length trail.levels)))

-- the trail at the end of a level
abbrev pub cut_to : Trail → ℕ → Trail
cut_to trail level = record trail { lits = take (level_end trail level) trail.lits; levels = take level trail.levels }

pub same_cut : (trail : Trail) (level lower : ℕ) → IsTrail trail → level ≤ length trail.levels → lower < level → box_at (cut_to trail level) lower ≡ box_at trail lower
same_cut trail level lower ok h below =
    let end = level_end trail level in
    let lits = take end trail.lits in
    let same : get_or (take level trail.levels) lower (length lits) ≡ level_end trail lower =
    get_or-take level trail.levels lower (length lits) below ∙ get_or_default trail.levels lower (length lits) (length trail.lits) (omega arith) in
    ap (λ n. range_bounds trail.ranges ++ take n lits) same
    ∙ ap (λ xs. range_bounds trail.ranges ++ xs) (take-take (level_end trail lower) end trail.lits (ends_rise trail lower level ok (omega arith)))

-- a literal that became false at a level or later is left at the end of each lower one
left_lower : (trail : Trail) (lit : Lit) (own lower : ℕ) → BecameFalse trail lit own → lower < own → ¬ IsFalseIn (box_at trail lower) lit
left_lower trail lit own lower became below = became.before lower below

left_at : (bounds : List Lit) (lits : List Lit) (at : ℕ) (lit : Lit) → at < length lits → get_or lits at lit ≡ lit → (¬ IsFalseIn bounds lit) → IsLeftAt bounds lits at
left_at bounds lits at lit h e left = record {
  within = h;
  left = λ d is_false. left (subst (IsFalseIn bounds) (get_or_default lits at d lit h ∙ e) is_false);
}

-- what stands behind the point stands one place later in the whole
after_point : (before after lits : List Lit) (point other : Lit) (at : ℕ) → lits ≡ before ++ point ∷ after → length before ≤ at → get_or (before ++ after) at other ≡ other → get_or lits (at + 1) other ≡ other
after_point before after lits point other at split later e =
    let n = length before in
    let place : at + 1 - n ≡ suc (at - n) = omega arith in
    ap (λ xs. get_or xs (at + 1) other) split
    ∙ get_or-append_right before (point ∷ after) n (at + 1) other refl (omega arith)
    ∙ ap (λ k. get_or (point ∷ after) k other) place
    ∙ sym (get_or-append_right before after n at other refl later)
    ∙ e

-- so what was learnt leaves two literals at the end of each level below the one to go back to
asserting_settled : (state : Search) (lits : List Lit) (level lower : ℕ) → IsAsserting state lits level → lower < level → IsSettled (box_at state.trail lower) lits
asserting_settled state lits level lower is below =
    let trail = state.trail in
    let bounds = box_at trail lower in
    ⊎_elim
    (λ free. absurd (omega (arith, free.1)))
    (λ any. let at = any.0 in
    let other = any.1 in
    let place = length is.before in
    let whole = length-append is.before (is.point ∷ is.after) in
    let rest = length-append is.before is.after in
    let count : length lits ≡ length is.before + suc (length is.after) = ap length is.split ∙ whole in
    let point_left : ¬ IsFalseIn bounds is.point = is.at_present.before lower (omega (arith, is.lower)) in
    let other_left : ¬ IsFalseIn bounds other = any.4.before lower below in
    let point_at : IsLeftAt bounds lits place = left_at bounds lits place is.point (omega (arith, count)) (ap (λ xs. get_or xs place is.point) is.split ∙ get_or_at is.before is.point is.after is.point place refl) point_left in
    inr (⊎_elim
    (λ first. let e : get_or lits at other ≡ other =
    ap (λ xs. get_or xs at other) is.split ∙ get_or_append_left is.before (is.point ∷ is.after) other at first
    ∙ sym (get_or_append_left is.before is.after other at first) ∙ any.3 in
    record { first = at; second = place; apart = first; one = left_at bounds lits at other (omega (arith, count)) e other_left; other = point_at })
    (λ later. let e : get_or lits (at + 1) other ≡ other = after_point is.before is.after lits is.point other at is.split later any.3 in
    record { first = place; second = at + 1; apart = omega arith; one = point_at; other = left_at bounds lits (at + 1) other (omega (arith, any.2, rest, count)) e other_left })
    (cases_lt at place)))
    is.greatest

-- going back with a clause that is settled at the end of each level below
pub quiet_cut : (state : Search) (lits : List Lit) (level : ℕ) → IsTrail state.trail → WasQuiet state → level ≤ present_level state
    → ((lower : ℕ) → lower < level → IsSettled (box_at state.trail lower) lits) → WasQuiet (record { store = state.store ++ lits ∷ []; trail = cut_to state.trail level })
quiet_cut state lits level ok quiet h settled lower below =
    let short = length-take-le level state.trail.levels h in
    let under : lower < level = omega (arith, below) in
    let same = same_cut state.trail level lower ok h under in
    subst (λ bounds. All (IsSettled bounds) (state.store ++ lits ∷ [])) (sym same)
    (All-push (IsSettled (box_at state.trail lower)) state.store lits (quiet lower (omega arith)) (settled lower under))

pub quiet_learnt : (state : Search) (lits : List Lit) (level : ℕ) → IsTrail state.trail → WasQuiet state → level ≤ present_level state → IsAsserting state lits level → WasQuiet (record { store = state.store ++ lits ∷ []; trail = cut_to state.trail level })
quiet_learnt state lits level ok quiet h is = quiet_cut state lits level ok quiet h (λ lower under. asserting_settled state lits level lower is under)
