-- What is logged says more than what was there.
use Rattle.std.proofs.Common.{◌≡◌, ◌<◌, List, [], ◌∷◌, ◌++◌, append_assoc, length, map, get_or, sym, ◌∙◌, ap, subst, ⊎_elim, arith, All}
use Rattle.std.specs.Prelude.{◌≢◌, Contains}
use Rattle.std.proofs.lemmas.List.{append-nil}
use Rattle.std.proofs.lemmas.List.Elements.{All-contains, All-map, All-push, All-weaker, Contains-append_right}
use Rattle.mix_system.specs.declared.literal.Lit.{Lit}
use Rattle.mix_system.specs.Lit.{negation}
use Rattle.mix_system.specs.Bounds.{IsIn, IsFalseIn, range_bounds, unit_bounds}
use Rattle.mix_system.proofs.AnyLaws.{Any-with_all}
use Rattle.mix_system.proofs.BoundLaws.{IsIn-append_left, IsIn-append_cases, IsIn-said}
use Rattle.bound_trail.specs.Trail.{box, IsTrail}
use Rattle.bound_trail.proofs.BoxLaws.{consistent_box}
use Rattle.clause_search.proofs.LearntLaws.{singles_true}
use Rattle.proof_term.specs.declared.step.Step.{Step}
use Rattle.level_steps.specs.Level.{Level, clause_of, available, box_of}
use Rattle.level_search.specs.declared.level.LevelSearch.{LevelSearch}
use Rattle.level_search.specs.declared.learning.Learning.{Learning}
use Rattle.level_search.specs.declared.learning.Learning.TheVariants.{Going, Ended, Spent}
use Rattle.level_search.specs.Kept.{level_of}
use Rattle.level_search.specs.Learning.{Ends, Learns, Concludes}
use Rattle.level_search.proofs.LogLaws.{same_single_box, learnt_is_false}
use Rattle.level_theories.specs.Theory.{Excludes, Refutes}
use Rattle.trail_bounds.proofs.BoundsLaws.{blank}
use Rattle.mixed_solver.specs.declared.mixed.Mixed.{Mixed}
use Rattle.mixed_solver.specs.Mixed.{IsFresh, AreFresh, IsMixed, GoesOn}
use Rattle.mixed_solver.specs.Turns.{IsQuiet}
use Rattle.mixed_solver.proofs.PointLaws.{single_said}
use Rattle.mixed_solver.proofs.TrailLaws.{each_among}

-- no step came
pub goes_same : (old new : LevelSearch) → level_of new ≡ level_of old → new.steps.items ≡ old.steps.items → GoesOn old new
goes_same old new level steps = record { level = level; more = []; steps = steps ∙ sym (append-nil old.steps.items); fresh = tt }

module _ (it : Mixed) (mixed : IsMixed it) (ok : IsTrail it.level.search.trail) where
  abbrev bounds : List Lit
  bounds = box it.level.search.trail

  abbrev store : List (List Lit)
  store = it.level.search.store

  abbrev level_box : List Lit
  level_box = box_of (level_of it.level) it.level.steps.items

  -- a step whose literals are false where the single literals of clauses are true, and that holds no clause of the store
  fresh_step : (step : Step) → All (IsFalseIn bounds) (clause_of step) → ((lit : Lit) → IsIn (unit_bounds store) lit → IsIn bounds lit)
      → All (λ other. ¬ All (Contains (clause_of step)) other) store → IsFresh (level_of it.level) it.level.steps.items step
  fresh_step step all_false singles new = record {
    says_more = All-weaker (Contains store) (λ other. ¬ All (Contains (clause_of step)) other) (λ other among. All-contains (λ other. ¬ All (Contains (clause_of step)) other) store other new among)
        (available (level_of it.level) it.level.steps.items) mixed.stored;
    apart = λ lit within against. consistent_box it.level.search.trail ok lit (on_trail lit within) (on_trail (negation lit) against);
  }
    where
      by_level : (lit : Lit) → IsIn level_box lit → IsIn bounds lit
      by_level lit within =
          ⊎_elim (λ range. IsIn-append_left (range_bounds it.level.search.trail.ranges) it.level.search.trail.lits lit range) (λ single. singles lit single)
          (IsIn-append_cases (range_bounds it.level.search.trail.ranges) (unit_bounds store) lit ((same_single_box it.level mixed.working.kept lit).1 within))

      on_trail : (lit : Lit) → IsIn (map negation (clause_of step) ++ level_box) lit → IsIn bounds lit
      on_trail lit within =
          ⊎_elim (λ here. IsIn-said (map negation (clause_of step)) bounds lit (All-map (IsIn bounds) negation (clause_of step) all_false) here) (by_level lit)
          (IsIn-append_cases (map negation (clause_of step)) level_box lit within)

  -- a clause whose literals are all false holds no settled one
  settled_new : (clause : List Lit) → All (IsFalseIn bounds) clause → IsQuiet it → All (λ other. ¬ All (Contains clause) other) store
  settled_new clause all_false quiet k d within all =
      let other = get_or store k d in
      let other_false : All (IsFalseIn bounds) other = All-weaker (Contains clause) (IsFalseIn bounds) (λ lit among. All-contains (IsFalseIn bounds) clause lit all_false among) other all in
      ⊎_elim
      (λ has. let found = Any-with_all (IsFalseIn bounds) (IsIn bounds) other other_false has in consistent_box it.level.search.trail ok found.0 found.2 found.1)
      (λ two. two.one.left blank (other_false two.first blank two.one.within))
      (quiet k d within)

  learnt_fresh : (new : LevelSearch) → (is : Learns it.level new) → IsFresh (level_of it.level) it.level.steps.items is.step
  learnt_fresh new is =
      let above : 0 < length it.level.search.trail.levels = omega (arith, is.learnt.asserting.lower) in
      fresh_step is.step (learnt_is_false it.level mixed.working.kept ok mixed.working.quiet above (clause_of is.step) is.back is.learnt.asserting)
      (singles_true it.level.search mixed.working.quiet above) is.learnt.fresh

  refuted_fresh : (new : LevelSearch) → IsQuiet it → (is : Excludes it.level new) → IsFresh (level_of it.level) it.level.steps.items is.step
  refuted_fresh new quiet is =
      let all_false : All (IsFalseIn bounds) (clause_of is.step) = λ k d within. (is.lits k d within).is_false in
      fresh_step is.step all_false (λ lit within. single_said bounds store lit quiet within) (settled_new (clause_of is.step) all_false quiet)

  -- the step with which steps ended is empty
  end_is_empty : (new : LevelSearch) → (is : Ends it.level new) → clause_of is.step ≢ [] → ⊥
  end_is_empty new is some =
      let all = All-push (λ (s : Step). clause_of s ≢ []) it.level.steps.items is.step mixed.working.open_ some in
      let split : it.level.steps.items ++ is.step ∷ [] ≡ is.ended.before ++ is.ended.last ∷ [] = sym is.steps ∙ is.ended.split in
      All-contains (λ (s : Step). clause_of s ≢ []) (is.ended.before ++ is.ended.last ∷ []) is.ended.last (subst (All (λ (s : Step). clause_of s ≢ [])) split all)
      (Contains-append_right is.ended.before (is.ended.last ∷ []) is.ended.last (each_among (is.ended.last ∷ []) 0 is.ended.last (omega arith))) is.ended.empty

  goes_one : (new : LevelSearch) (step : Step) → level_of new ≡ level_of it.level → new.steps.items ≡ it.level.steps.items ++ step ∷ []
      → (clause_of step ≢ [] → IsFresh (level_of it.level) it.level.steps.items step) → GoesOn it.level new
  goes_one new step level steps fresh = record { level = level; more = step ∷ []; steps = steps; fresh = (fresh, tt) }

  pub learnt_goes : (new : LevelSearch) (learning : Learning) → Concludes learning it.level new → GoesOn it.level new
  learnt_goes new Going is = goes_one new is.step is.level is.steps (λ some. learnt_fresh new is)
  learnt_goes new Ended is = goes_one new is.step is.level is.steps (λ some. absurd (end_is_empty new is some))
  learnt_goes new Spent is = goes_same it.level new (ap level_of is) (ap (λ (l : LevelSearch). l.steps.items) is)

  pub refuted_goes : (new : LevelSearch) (learning : Learning) → IsQuiet it → Refutes learning it.level new → GoesOn it.level new
  refuted_goes new Going quiet is = goes_one new is.step is.level is.steps (λ some. refuted_fresh new quiet is)
  refuted_goes new Ended quiet is = goes_one new is.step is.level is.steps (λ some. absurd (end_is_empty new is some))
  refuted_goes new Spent quiet is = absurd is

fresh_append : (level : Level) (before first second : List Step) → AreFresh level before first → AreFresh level (before ++ first) second → AreFresh level before (first ++ second)
fresh_append level before [] second one two = subst (λ (b : List Step). AreFresh level b second) (append-nil before) two
fresh_append level before (step ∷ first) second one two =
    (one.0, fresh_append level (before ++ step ∷ []) first second one.1 (subst (λ (b : List Step). AreFresh level b second) (sym (append_assoc before (step ∷ []) first)) two))

pub goes_on_trans : (old mid new : LevelSearch) → GoesOn old mid → GoesOn mid new → GoesOn old new
goes_on_trans old mid new first second = record {
  level = second.level ∙ first.level;
  more = first.more ++ second.more;
  steps = second.steps ∙ ap (λ (xs : List Step). xs ++ second.more) first.steps ∙ append_assoc old.steps.items first.more second.more;
  fresh = fresh_append (level_of old) old.steps.items first.more second.more first.fresh
      (subst (λ (t : Type 0). t) (λ i. AreFresh (first.level i) (first.steps i) second.more) second.fresh);
}
