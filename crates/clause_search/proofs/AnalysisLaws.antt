-- What the steps of an analysis come to.
use Rattle.std.proofs.Common.{◌≡◌, ℕ, ◌-◌, ◌<◌, ◌≤◌, List, [], length, get_or, Some, All, Any, sym, ap, ◌∙◌, subst, ⊎_elim, arith}
use Rattle.std.specs.Prelude.{slice_get, Contains}
use Rattle.std.proofs.lemmas.List.{get_or_default}
use Rattle.std.proofs.lemmas.List.Elements.{All-contains}
use Rattle.std.proofs.lemmas.Option.{slice_get_within, get_or_from_slice_get}
use Rattle.mix_system.specs.declared.literal.Lit.{Lit}
use Rattle.mix_system.specs.declared.tally.Tally.{Tally}
use Rattle.mix_system.specs.System.{IsInner}
use Rattle.mix_system.specs.Follows.{LeavesNone, Follows}
use Rattle.bound_trail.specs.Trail.{Trail, box, level_end, IsCause, IsTrail}
use Rattle.clause_search.specs.Search.{Search, WasQuiet, present_level, known, single_bounds}
use Rattle.clause_search.specs.Answers.{IsConflict}
use Rattle.clause_search.specs.Stored.{AreClauses}
use Rattle.clause_search.specs.declared.marks.Mark.{Mark}
use Rattle.clause_search.specs.declared.marks.Mark.TheVariants.{Clear}
use Rattle.clause_search.specs.declared.learnt.Learnt.{Learnt}
use Rattle.clause_search.specs.declared.learnt.Learnt.TheVariants.{Clause, Top, Spent}
use Rattle.clause_search.specs.Marks.{mark_at, IsSeen, IsMarked, AreMarks, AreCovered, MarksCauses, FindsPoint, IsPoint, ResolvesFrom}
use Rattle.clause_search.specs.Runs.{IsReady, AreKept, IsBackLevel}
use Rattle.clause_search.specs.Learnt.{IsLearnt, IsTop, WasCounted, Concludes, Teaches}
use Rattle.clause_search.proofs.MarkLaws.{same_clause, marks_grow, cause_inner, all_covered_keeps}
use Rattle.clause_search.proofs.ReasonLaws.{level_end_within}
use Rattle.clause_search.proofs.AimLaws.{ready_where_kept, ready_where_none}
use Rattle.clause_search.proofs.LearntLaws.{ends_rise, conflict_seen, kept_fresh, kept_clause, kept_atoms, kept_asserts}

pub among_store : (store : List (List Lit)) (number : ℕ) (clause : List Lit) → slice_get store number ≡ Some clause → Contains store clause
among_store store number clause e = (number, slice_get_within store number clause e, get_or_from_slice_get store number clause clause e)

-- marks after the causes of a clause
pub caused_marks : (state : Search) (clause : List Lit) (count start lowest : ℕ) (old new : List Mark) → IsTrail state.trail → All (λ lit. IsInner lit.bound) clause → AreMarks state old → MarksCauses state.trail clause count start lowest old new → AreMarks state new
caused_marks state clause count start lowest old new ok inner are causes =
    marks_grow state (λ at. Any (λ lit. IsCause state.trail lit at) clause) old new ok
    (λ at any. cause_inner state.trail any.1 at ok (All-contains (λ lit. IsInner lit.bound) clause any.1 inner (any.0, any.2, any.3)) any.4)
    causes.grows are

pub caused_covered : (state : Search) (clause : List Lit) (start lowest : ℕ) (old new : List Mark) → MarksCauses state.trail clause (length clause) start lowest old new → AreCovered state.trail new clause
caused_covered state clause start lowest old new causes = λ k d h is_false. causes.covered k h d is_false

-- what is marked after one clause is seen
only_seen : (trail : Trail) (clause : List Lit) (count start lowest : ℕ) (old new : List Mark) → ((at : ℕ) → mark_at old at ≡ Clear) → MarksCauses trail clause count start lowest old new → (at : ℕ) → IsMarked new at → IsSeen new at
only_seen trail clause count start lowest old new clear causes at marked =
    ⊎_elim (λ same. absurd (marked (same ∙ clear at))) (λ newly. newly.is) (causes.grows.each at)

pub conflict_found : (state : Search) (conflict start lowest : ℕ) (clause : List Lit) (old new : List Mark) → IsTrail state.trail → IsConflict state conflict → WasQuiet state → 0 < present_level state → level_end state.trail (present_level state - 1) ≡ start → slice_get state.store conflict ≡ Some clause → AreMarks state old → ((at : ℕ) → mark_at old at ≡ Clear) → MarksCauses state.trail clause (length clause) start lowest old new → lowest < length new
conflict_found state conflict start lowest clause old new ok is quiet some begin among are clear causes =
    let none : LeavesNone (box state.trail) clause = subst (LeavesNone (box state.trail)) (same_clause state.store conflict is.clause clause is.among among) is.none_left in
    conflict_seen state new clause start lowest ok quiet some begin (among_store state.store conflict clause among) none
    (caused_covered state clause start lowest old new causes)
    (only_seen state.trail clause (length clause) start lowest old new clear causes)
    causes.is_lowest (causes.grows.same_length ∙ are.one_each)

-- the last level begins on the trail
pub start_within : (trail : Trail) (start : ℕ) → IsTrail trail → level_end trail (length trail.levels - 1) ≡ start → start ≤ length trail.lits
start_within trail start ok begin =
    let r = level_end_within trail (length trail.levels - 1) ok in omega (arith, r, begin)

-- level 0 ends where the first level begins
pub first_level : (trail : Trail) (levels : List ℕ) → levels ≡ trail.levels → 0 < length trail.levels → level_end trail 0 ≡ get_or levels 0 0
first_level trail levels same some =
    get_or_default trail.levels 0 (length trail.lits) 0 some ∙ ap (λ xs. get_or xs 0 0) (sym same)

-- the levels begin no later than the last one, and no earlier than the first
pub levels_to_last : (trail : Trail) (start : ℕ) → IsTrail trail → 0 < length trail.levels → level_end trail (length trail.levels - 1) ≡ start → All (λ place. place ≤ start) trail.levels
levels_to_last trail start ok some begin k d h =
    let r = ends_rise trail k (length trail.levels - 1) ok (omega arith) in
    omega (arith, r, begin, get_or_default trail.levels k d (length trail.lits) h)

pub levels_from_first : (trail : Trail) (base : ℕ) → IsTrail trail → level_end trail 0 ≡ base → All (λ place. base ≤ place) trail.levels
levels_from_first trail base ok begin k d h =
    let r = ends_rise trail 0 k ok (omega arith) in
    omega (arith, r, begin, get_or_default trail.levels k d (length trail.lits) h)

-- where there is no level, each begins behind any place
pub no_levels : (levels : List ℕ) (base : ℕ) → levels ≡ [] → All (λ place. base ≤ place) levels
no_levels levels base none = subst (All (λ place. base ≤ place)) (sym none) (λ k d h. absurd (omega arith))

-- the point stays where the places below level 0's end are given up
point_stays : (state : Search) (start point base : ℕ) (old new : List Mark) → base ≤ start → IsPoint start point old → ResolvesFrom state 0 base old new → IsPoint start point new
point_stays state start point base old new h is done = record {
  above = is.above;
  within = omega (arith, is.within, done.same_length);
  seen = done.above point (omega (arith, is.above)) ∙ is.seen;
  alone = λ at from seen. is.alone at from (sym (done.above at (omega arith)) ∙ seen);
}

-- what is learnt above level 0
pub learns : (state : Search) (conflict start lowest point base level : ℕ) (clause : List Lit) (first mid found last : List Mark) (lits : List Lit) (hints : List ℕ) → IsTrail state.trail → AreClauses state → WasQuiet state → 0 < present_level state → level_end state.trail (present_level state - 1) ≡ start → level_end state.trail 0 ≡ base → slice_get state.store conflict ≡ Some clause → MarksCauses state.trail clause (length clause) start lowest first mid → FindsPoint state start point mid found → ResolvesFrom state 0 base found last → AreKept state.trail last (length state.trail.lits) lits → IsBackLevel state.trail last start level → ((kept : List Lit) → IsReady state last kept (length state.trail.lits) conflict → Follows kept hints (single_bounds state) (known state)) → IsLearnt state lits hints level
learns state conflict start lowest point base level clause first mid found last lits hints ok clauses quiet some begin is_base among causes finds done kept back follows =
    let trail = state.trail in
    let rise : base ≤ start = let r = ends_rise trail 0 (length trail.levels - 1) ok (omega arith) in omega (arith, r, begin, is_base) in
    let is_point = point_stays state start point base found last rise finds.is_point done in
    let covered = all_covered_keeps trail mid last clause (λ at marked. done.keeps at (finds.keeps at marked)) (caused_covered state clause start lowest first mid causes) in
    record {
      clause = kept_clause state last lits ok done.marks kept;
      follows = follows lits (ready_where_kept state last lits (length trail.lits) conflict clause (omega arith) among covered kept);
      fresh = λ k d h all. kept_fresh state last start point lits ok clauses quiet some begin is_point kept (get_or state.store k d) (k, h, get_or_default state.store k (get_or state.store k d) d h) all;
      atoms = kept_atoms state last lits kept;
      asserting = kept_asserts state last start point level ok some begin is_point (λ at below. done.none at (omega arith) (omega (arith, is_base))) back lits done.marks.one_each kept;
    }

-- what is found at level 0
pub refutes : (state : Search) (end last start lowest : ℕ) (clause : List Lit) (first mid final : List Mark) (hints : List ℕ) → slice_get state.store last ≡ Some clause → MarksCauses state.trail clause (length clause) start lowest first mid → ResolvesFrom state 0 end mid final → ((kept : List Lit) → IsReady state final kept end last → Follows kept hints (single_bounds state) (known state)) → IsTop state hints
refutes state end last start lowest clause first mid final hints among causes done follows =
    follows [] (ready_where_none state final end last clause among
    (all_covered_keeps state.trail mid final clause done.keeps (caused_covered state clause start lowest first mid causes))
    (λ at h. done.none at (omega arith) h))

pub teaches : (learnt : Learnt) (state : Search) (before after : Tally) → Concludes learnt state → WasCounted before after → Teaches learnt state before after
teaches (Clause lits hints level) state before after is counted = (is, counted)
teaches (Top hints) state before after is counted = (is, counted)
teaches Spent state before after is counted = absurd is
