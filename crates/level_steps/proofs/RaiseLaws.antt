-- Plain steps stay valid under a goal that says more.
use Rattle.std.proofs.Common.{◌≡◌, ◌≢◌, ◌⊎◌, ℕ, ◌<◌, List, [], ◌∷◌, ◌++◌, length, map, take, get_or, Option, Some, None, IfSome, refl, sym, ◌∙◌, ap, subst, ⊎_elim, All}
use Rattle.std.specs.Prelude.{Any, slice_get}
use Rattle.std.specs.Option.{option_to_list}
use Rattle.std.proofs.lemmas.List.Elements.{All-nil, All-cons, All-append, All-map, All-take, All-weaker}
use Rattle.mix_system.specs.declared.literal.Term.{Term}
use Rattle.mix_system.specs.declared.literal.Lit.{Lit}
use Rattle.mix_system.specs.Lit.{atom}
use Rattle.mix_system.specs.Bounds.{Entails, IsIn, range_bounds, unit_bounds}
use Rattle.mix_system.proofs.AnyLaws.{Any-with_all}
use Rattle.mix_system.proofs.BoundLaws.{Entails_trans, IsIn-none, IsIn-first, IsIn-cons_cases}
use Rattle.mix_system.proofs.WellFormedLaws.{All-slice_get}
use Rattle.proof_term.specs.declared.step.Step.{Step}
use Rattle.proof_term.specs.declared.step.Step.TheVariants.{Lemma, Theory, Enter, Leave}
use Rattle.proof_term.specs.Weaker.{IsFree}
use Rattle.level_steps.specs.Level.{Level, clause_of, cut_clauses, available, known, box_of}
use Rattle.level_steps.specs.Steps.{IsStepOn, AreSteps}
use Rattle.level_steps.specs.Plain.{IsNamed, IsOnVariable, IsPlain}
use Rattle.level_steps.specs.Raised.{MayRaise}
use Rattle.level_steps.proofs.AlikeLaws.{Alike, alike_behind, alike_before, AreAmong, passes_alike}

module _ (level : Level) (goal : Lit) (may : MayRaise level goal) where
  abbrev Apart : Term → Type 0
  Apart term = term ≢ goal.term

  goals_alike : (old : Option Lit) → IfSome old (λ before. Entails goal before) → Alike Apart (option_to_list old) (goal ∷ [])
  goals_alike None stronger = record {
    more = λ lit within. absurd (IsIn-none lit within);
    same = λ lit apart within. ⊎_elim (λ entails. absurd (apart (sym entails.same_term))) (λ none. absurd (IsIn-none lit none)) (IsIn-cons_cases goal [] lit within);
  }
  goals_alike (Some before) stronger = record {
    more = λ lit within. ⊎_elim (λ entails. IsIn-first goal [] lit (Entails_trans goal before lit stronger entails)) (λ none. absurd (IsIn-none lit none)) (IsIn-cons_cases before [] lit within);
    same = λ lit apart within. ⊎_elim (λ entails. absurd (apart (sym entails.same_term))) (λ none. absurd (IsIn-none lit none)) (IsIn-cons_cases goal [] lit within);
  }

  boxes_alike : (before : List Step) → Alike Apart (box_of level before) (box_of (record level { goal = Some goal }) before)
  boxes_alike before =
      let ranges = range_bounds level.system.ranges in
      let old = option_to_list level.goal in
      alike_before Apart (ranges ++ old) (ranges ++ goal ∷ []) (unit_bounds (available level before))
      (alike_behind Apart ranges old (goal ∷ []) (goals_alike level.goal may.stronger))

  named_apart : (lit : Lit) → IsNamed level.system lit → Apart lit.term
  named_apart lit named same =
      let clause = Any-with_all (IsFree goal.term) (λ (clause : List Lit). Any (λ (l : Lit). atom l ≡ atom lit) clause) level.system.clauses may.clauses_free named in
      let other = Any-with_all (λ (l : Lit). l.term ≢ goal.term) (λ (l : Lit). atom l ≡ atom lit) clause.0 clause.1 clause.2 in
      other.1 (ap (λ a. a.0) other.2 ∙ same)

  variable_apart : (lit : Lit) → IsOnVariable lit.term → Apart lit.term
  variable_apart lit on same = may.on_row (subst IsOnVariable same on)

  plain_apart : (step : Step) → IsPlain level.system step → AreAmong Apart (clause_of step)
  plain_apart (Lemma clause hints) plain = All-weaker (IsNamed level.system) (λ lit. Apart lit.term) named_apart clause plain.lits
  plain_apart (Theory clause tree) plain =
      All-weaker (λ lit. IsNamed level.system lit ⊎ IsOnVariable lit.term) (λ lit. Apart lit.term)
      (λ lit either. ⊎_elim (named_apart lit) (variable_apart lit) either) clause plain.lits
  plain_apart (Enter term bound) plain = All-nil (λ (lit : Lit). Apart lit.term)
  plain_apart Leave plain = All-nil (λ (lit : Lit). Apart lit.term)

  available_apart : (before : List Step) → All (IsPlain level.system) before → All (AreAmong Apart) (available level before)
  available_apart before plain =
      let P = AreAmong Apart in
      let cuts : All P (cut_clauses level.cuts) = All-map P (λ cut. cut ∷ []) level.cuts
      (λ k d within. All-cons (λ (lit : Lit). Apart lit.term) (get_or level.cuts k d) [] (may.cuts_free k d within) (All-nil (λ (lit : Lit). Apart lit.term))) in
      All-append P (level.system.clauses ++ cut_clauses level.cuts) (map clause_of before)
      (All-append P level.system.clauses (cut_clauses level.cuts) may.clauses_free cuts)
      (All-map P clause_of before (All-weaker (IsPlain level.system) (λ step. P (clause_of step)) plain_apart before plain))

  pub steps_stay_valid : (steps : List Step) → AreSteps level steps → All (IsPlain level.system) steps → AreSteps (record level { goal = Some goal }) steps
  steps_stay_valid steps valid plain at within d =
      let before = take at steps in
      let on = valid at within d in
      let all = available_apart before (All-take (IsPlain level.system) at steps plain) in
      record {
        kind = on.kind;
        passes = passes_alike Apart (known level before) (known (record level { goal = Some goal }) before) (λ number clause is. is)
            (λ number clause is. All-slice_get (AreAmong Apart) (available level before) number clause is all)
            level.system (box_of level before) (box_of (record level { goal = Some goal }) before) (get_or steps at d) (boxes_alike before) on.passes;
      }
