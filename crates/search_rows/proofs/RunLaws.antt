-- What is known of a search stays so over each call of a script.
use Rattle.std.proofs.Common.{◌≡◌, ℕ, ◌<◌, ◌≤◌, List, [], ◌∷◌, ◌++◌, length, take, get_or, All, Result, Ok, Err, OnOk, sym, ap, ◌∙◌, subst, arith}
use Rattle.std.proofs.lemmas.List.{get_or-take, get_or_default, take-take, length-take-le}
use Rattle.mix_system.specs.declared.literal.Lit.{Lit}
use Rattle.mix_system.specs.Bounds.{range_bounds}
use Rattle.bound_trail.specs.Trail.{Trail, box_at, level_end, IsTrail}
use Rattle.mix_system.specs.declared.tally.Tally.{Tally}
use Rattle.clause_search.specs.Settled.{IsSettled}
use Rattle.clause_search.specs.Search.{Search, WasQuiet, Propagated, present_level}
use Rattle.clause_search.specs.Decided.{OpensLevel}
use Rattle.clause_search.specs.Learnt.{IsAsserting}
use Rattle.clause_search.proofs.LearntLaws.{ends_rise}
use Rattle.clause_search.proofs.QuietLaws.{cut_to, quiet_propagated, quiet_decided, quiet_learnt}
use Rattle.search_rows.specs.declared.run.Run.{Run}
use Rattle.search_rows.specs.declared.run.Standing.{Standing}
use Rattle.search_rows.specs.declared.run.Standing.TheVariants.{Open, Settled}
use Rattle.search_rows.specs.Run.{Knows, IsKnown}

pub on_ok : {T E P : Type 0} (r : Result T E) → P → OnOk r P
on_ok (Ok x) p = p
on_ok (Err e) p = tt

-- the same bounds at the end of a level that is left
same_cut : (trail : Trail) (level lower : ℕ) → IsTrail trail → level ≤ length trail.levels
    → lower < level → box_at (cut_to trail level) lower ≡ box_at trail lower
same_cut trail level lower ok h below =
    let end = level_end trail level in
    let lits = take end trail.lits in
    let same : get_or (take level trail.levels) lower (length lits) ≡ level_end trail lower =
    get_or-take level trail.levels lower (length lits) below ∙ get_or_default trail.levels lower (length lits) (length trail.lits) (omega arith) in
    ap (λ n. range_bounds trail.ranges ++ take n lits) same
    ∙ ap (λ xs. range_bounds trail.ranges ++ xs) (take-take (level_end trail lower) end trail.lits (ends_rise trail lower level ok (omega arith)))

pub quiet_back : (old new : Search) (level : ℕ) → IsTrail old.trail → WasQuiet old
    → level ≤ present_level old → new.store ≡ old.store → new.trail ≡ cut_to old.trail level
    → WasQuiet new
quiet_back old new level ok quiet h store trail =
    let short = length-take-le level old.trail.levels h in
    let cut : Search = record { store = old.store; trail = cut_to old.trail level } in
    let settled : WasQuiet cut = λ lower below.
    let under : lower < level = omega (arith, below, short) in
    subst (λ bounds. All (IsSettled bounds) old.store) (sym (same_cut old.trail level lower ok h under)) (quiet lower (omega arith)) in
    let same : new ≡ cut = λ i. record { store = store i; trail = trail i } in
    subst WasQuiet (sym same) settled

pub quiet_taken : (old back new : Search) (lits : List Lit) (level : ℕ) → IsTrail old.trail
    → WasQuiet old → IsAsserting old lits level → back.store ≡ old.store
    → back.trail ≡ cut_to old.trail level
    → new ≡ record back { store = back.store ++ lits ∷ [] } → WasQuiet new
quiet_taken old back new lits level ok quiet is store trail added =
    let whole : Search = record { store = old.store ++ lits ∷ []; trail = cut_to old.trail level } in
    let same : new ≡ whole = added ∙ (λ i. record { store = store i ++ lits ∷ []; trail = trail i }) in
    subst WasQuiet (sym same) (quiet_learnt old lits level ok quiet (omega (arith, is.lower)) is)

-- nothing is known of an open search
nothing_known : (standing : Standing) (state : Search) → standing ≡ Open → Knows standing state
nothing_known standing state is_open = subst (λ it. Knows it state) (sym is_open) tt

pub known_propagated : (old new : Run) (before after : Tally) → IsTrail old.search.trail
    → IsKnown old → Propagated old.search new.search before after → new.vars ≡ old.vars
    → new.rows ≡ old.rows → Knows new.standing new.search → IsKnown new
known_propagated old new before after ok known propagated vars rows knows = record {
  vars = ap (λ (s : Search). length s.trail.ranges) propagated.grown.lits ∙ known.vars ∙ sym vars;
  rows = ap (λ (s : Search). s.trail.rows) propagated.grown.lits ∙ known.rows ∙ sym rows;
  was_quiet = quiet_propagated old.search new.search before after ok known.was_quiet propagated;
  knows = knows;
}

pub known_decided : (old new : Run) (lit : Lit) (before after : Tally)
    → IsTrail old.search.trail → IsKnown old → old.standing ≡ Settled
    → OpensLevel lit old.search new.search before after → new.vars ≡ old.vars
    → new.rows ≡ old.rows → new.standing ≡ Open → IsKnown new
known_decided old new lit before after ok known settled opens vars rows is_open = record {
  vars = ap (λ (s : Search). length s.trail.ranges) opens.level ∙ known.vars ∙ sym vars;
  rows = ap (λ (s : Search). s.trail.rows) opens.level ∙ known.rows ∙ sym rows;
  was_quiet = quiet_decided old.search new.search lit before after ok known.was_quiet (subst (λ it. Knows it old.search) settled known.knows) opens;
  knows = nothing_known new.standing new.search is_open;
}

pub known_back : (old new : Run) (level : ℕ) → IsTrail old.search.trail → IsKnown old
    → level ≤ present_level old.search → new.search.store ≡ old.search.store
    → new.search.trail ≡ cut_to old.search.trail level → new.vars ≡ old.vars
    → new.rows ≡ old.rows → new.standing ≡ Open → IsKnown new
known_back old new level ok known h store trail vars rows is_open = record {
  vars = ap (λ (t : Trail). length t.ranges) trail ∙ known.vars ∙ sym vars;
  rows = ap (λ (t : Trail). t.rows) trail ∙ known.rows ∙ sym rows;
  was_quiet = quiet_back old.search new.search level ok known.was_quiet h store trail;
  knows = nothing_known new.standing new.search is_open;
}

pub known_taken : (old new : Run) (back : Search) (lits : List Lit) (level : ℕ)
    → IsTrail old.search.trail → IsKnown old → IsAsserting old.search lits level
    → back.store ≡ old.search.store → back.trail ≡ cut_to old.search.trail level
    → new.search ≡ record back { store = back.store ++ lits ∷ [] } → new.vars ≡ old.vars
    → new.rows ≡ old.rows → new.standing ≡ Open → IsKnown new
known_taken old new back lits level ok known is store trail added vars rows is_open = record {
  vars = ap (λ (s : Search). length s.trail.ranges) added ∙ ap (λ (t : Trail). length t.ranges) trail ∙ known.vars ∙ sym vars;
  rows = ap (λ (s : Search). s.trail.rows) added ∙ ap (λ (t : Trail). t.rows) trail ∙ known.rows ∙ sym rows;
  was_quiet = quiet_taken old.search back new.search lits level ok known.was_quiet is store trail added;
  knows = nothing_known new.standing new.search is_open;
}
