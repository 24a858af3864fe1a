-- At each point that meets a level the clause of each valid step holds.
use Rattle.std.proofs.Common.{◌≡◌, ◌≢◌, ℕ, zero, suc, ◌+◌, ◌<◌, ◌≤◌, ℤ, List, [], ◌∷◌, ◌++◌, length, map, take, get_or, Option, Some, None, refl, sym, ◌∙◌, ap, subst, ⊎_elim, arith, add-one, All}
use Rattle.std.specs.Prelude.{Any, slice_get}
use Rattle.std.specs.Option.{option_to_list}
use Rattle.std.proofs.lemmas.List.{take_more, take_all, length_push, get_or_push}
use Rattle.std.proofs.lemmas.List.Elements.{All-nil, All-push, All-append, All-map}
use Rattle.mix_system.specs.declared.literal.Lit.{Lit}
use Rattle.mix_system.specs.declared.row.Part.{Part}
use Rattle.mix_system.specs.Lit.{negation}
use Rattle.mix_system.specs.Fits.{IsTrueAt}
use Rattle.mix_system.specs.Bounds.{AreTrueAt, range_bounds, unit_bounds, only_literal}
use Rattle.mix_system.proofs.AnyLaws.{Any-none, Any-one, Any-one_holds}
use Rattle.mix_system.proofs.BoundLaws.{range_bounds-true}
use Rattle.mix_system.proofs.FollowLaws.{Follows-true, true_or_negations}
use Rattle.mix_system.proofs.WellFormedLaws.{All-slice_get}
use Rattle.proof_term.specs.declared.step.Step.{Step}
use Rattle.proof_term.specs.declared.step.Step.TheVariants.{Lemma, Theory, Enter, Leave}
use Rattle.proof_term.specs.Steps.{Passes}
use Rattle.proof_term.proofs.ListLaws.{All-filter_map}
use Rattle.proof_term.proofs.RefutesLaws.{no_point}
use Rattle.level_steps.specs.Level.{Level, Meets, clause_of, cut_clauses, available, known, box_of}
use Rattle.level_steps.specs.Steps.{ShowsClause, IsStepOn, AreSteps, HaveEnded}

module _ (level : Level) (point : List ℤ) (meets : Meets level point) where
  -- some literal of the clause is true
  abbrev Holds : List Lit → Type 0
  Holds clause = Any (IsTrueAt level.system.rows point) clause

  only_true : (clause : List Lit) (lit : Lit) → only_literal clause ≡ Some lit → Holds clause → IsTrueAt level.system.rows point lit
  only_true [] lit is holds = absurd (Any-none (IsTrueAt level.system.rows point) holds)
  only_true (first ∷ []) lit is holds = let same : first ≡ lit = cc is in subst (IsTrueAt level.system.rows point) same (Any-one_holds (IsTrueAt level.system.rows point) first holds)
  only_true (first ∷ other ∷ lits) lit is holds = absurd (cc is)

  module _ (before : List Step) (hold : All (λ step. Holds (clause_of step)) before) where
    available_hold : All Holds (available level before)
    available_hold =
        let cuts : All Holds (cut_clauses level.cuts) = All-map Holds (λ cut. cut ∷ []) level.cuts (λ k d within. Any-one (IsTrueAt level.system.rows point) (get_or level.cuts k d) (meets.cuts k d within)) in
        All-append Holds (level.system.clauses ++ cut_clauses level.cuts) (map clause_of before)
        (All-append Holds level.system.clauses (cut_clauses level.cuts) meets.fits.clauses_hold cuts)
        (All-map Holds clause_of before hold)

    box_true : AreTrueAt level.system.rows point (box_of level before)
    box_true =
        let P = IsTrueAt level.system.rows point in
        let front = range_bounds level.system.ranges in
        let goal = option_to_list level.goal in
        All-append P (front ++ goal) (unit_bounds (available level before))
        (All-append P front goal ((range_bounds-true level.system.rows point level.system.ranges).1 meets.fits.in_ranges) meets.goal)
        (All-filter_map P only_literal Holds (available level before) only_true available_hold)

    passed_holds : (step : Step) → ShowsClause step → Passes level.system (box_of level before) (known level before) step → Holds (clause_of step)
    passed_holds (Lemma clause hints) kind passes =
        Follows-true level.system.rows point clause hints (box_of level before) (known level before) passes.shows box_true
        (λ number given is. All-slice_get Holds (available level before) number given is available_hold)
    passed_holds (Theory clause tree) kind passes =
        ⊎_elim (λ holds. holds)
        (λ negated. absurd ((no_point level.system.rows point tree.nodes ((map negation clause ++ box_of level before) ∷ []) passes.shows).0
        (All-append (IsTrueAt level.system.rows point) (map negation clause) (box_of level before) negated box_true)))
        (true_or_negations level.system.rows point clause)
    passed_holds (Enter term bound) kind passes = absurd kind
    passed_holds Leave kind passes = absurd kind

  pub steps_hold : (steps : List Step) → AreSteps level steps → (count : ℕ) → count ≤ length steps → All (λ step. Holds (clause_of step)) (take count steps)
  steps_hold steps valid zero few = All-nil (λ (step : Step). Holds (clause_of step))
  steps_hold steps valid (suc count) few =
      let earlier = steps_hold steps valid count (omega arith) in
      let step = get_or steps count Leave in
      let on : IsStepOn level (take count steps) step = valid count (omega arith) Leave in
      let more : take (suc count) steps ≡ take count steps ++ step ∷ [] = sym (ap (λ n. take n steps) (add-one count)) ∙ take_more steps count Leave (omega arith) in
      subst (All (λ (s : Step). Holds (clause_of s))) (sym more)
      (All-push (λ (s : Step). Holds (clause_of s)) (take count steps) step earlier (passed_holds (take count steps) earlier step on.kind on.passes))

  pub ended_have_none : (steps : List Step) → AreSteps level steps → HaveEnded steps → ⊥
  ended_have_none steps valid ended =
      let n = length steps in
      let all : All (λ step. Holds (clause_of step)) steps = subst (All (λ (s : Step). Holds (clause_of s))) (take_all n steps (omega arith)) (steps_hold steps valid n (omega arith)) in
      let whole = subst (All (λ (s : Step). Holds (clause_of s))) ended.split all in
      let here = whole (length ended.before) ended.last (omega (arith, length_push ended.before ended.last)) in
      let same : get_or (ended.before ++ ended.last ∷ []) (length ended.before) ended.last ≡ ended.last = get_or_push ended.before ended.last ended.last (length ended.before) refl in
      let holds : Holds (clause_of ended.last) = subst (λ (s : Step). Holds (clause_of s)) same here in
      Any-none (IsTrueAt level.system.rows point) (subst Holds ended.empty holds)
