-- Valid steps of a first level that have ended are a valid proof.
use Rattle.std.proofs.Common.{◌≡◌, ◌≢◌, ◌⊎◌, ◌↔◌, ℕ, zero, suc, ◌+◌, ◌-◌, ◌<◌, ◌≤◌, List, [], ◌∷◌, ◌++◌, length, map, take, drop, get_or, Bool, true, false, Option, Some, None, refl, sym, ◌∙◌, ap, subst, inl, inr, ⊎_elim, arith, All, append_assoc, length-append}
use Rattle.std.specs.Prelude.{nat_lt, slice_get, ◌==◌, if◌then◌else◌}
use Rattle.std.specs.Option.{option_to_list}
use Rattle.std.specs.List.{flat_map}
use Rattle.std.proofs.Math.Seq.{get_or-append_seam}
use Rattle.std.proofs.lemmas.Bool.{cases_lt, cond-true, cond-false}
use Rattle.std.proofs.lemmas.Bool.Decides.{nat_tests}
use Rattle.std.proofs.lemmas.Option.{slice_get_within, get_or_from_slice_get, slice_get-get_or}
use Rattle.std.proofs.lemmas.List.{get_or_append_left, get_or-append-add, get_or_push, length_push, length-map, take_at, map-append, append-nil}
use Rattle.std.proofs.lemmas.List.Elements.{All-head, All-tail, filter_map-append}
use Rattle.mix_system.specs.declared.literal.Term.{Term}
use Rattle.mix_system.specs.declared.literal.Lit.{Lit}
use Rattle.mix_system.specs.System.{System}
use Rattle.mix_system.specs.Bounds.{IsIn, only_literal, range_bounds, unit_bounds}
use Rattle.mix_system.proofs.BoundLaws.{IsIn-none, IsIn-append_left, IsIn-append_right, IsIn-append_cases}
use Rattle.proof_term.specs.declared.proof.Goal.{Goal}
use Rattle.proof_term.specs.declared.proof.Goal.TheVariants.{Nothing, AtMost, Below}
use Rattle.proof_term.specs.declared.step.Step.{Step}
use Rattle.proof_term.specs.declared.step.Step.TheVariants.{Lemma, Theory, Enter, Leave}
use Rattle.proof_term.specs.Levels.{Finished, cuts_of, goal_bounds, available as whole_available, clause_of as numbered, known as knows, box_of as whole_box}
use Rattle.proof_term.specs.Valid.{Stage, at_start, is_empty, ends_empty, has_ended, after, MayStand, Takes, IsWhole, ValidFrom}
use Rattle.level_steps.specs.Laws.{goal_literal, first_level}
use Rattle.level_steps.specs.Level.{Level, clause_of, available, known, box_of}
use Rattle.level_steps.specs.Steps.{ShowsClause, IsStepOn, AreSteps, AreOpen, HaveEnded}
use Rattle.level_steps.proofs.AlikeLaws.{Alike, alike_behind, passes_alike}

abbrev Any_term : Term → Type 0
Any_term term = Unit {0}

-- single literals of joined clauses
unit_cases : (clauses more : List (List Lit)) (lit : Lit) → IsIn (unit_bounds (clauses ++ more)) lit → IsIn (unit_bounds clauses) lit ⊎ IsIn (unit_bounds more) lit
unit_cases clauses more lit within =
    IsIn-append_cases (unit_bounds clauses) (unit_bounds more) lit (subst (λ (b : List Lit). IsIn b lit) (filter_map-append only_literal clauses more) within)

unit_left : (clauses more : List (List Lit)) (lit : Lit) → IsIn (unit_bounds clauses) lit → IsIn (unit_bounds (clauses ++ more)) lit
unit_left clauses more lit within =
    subst (λ (b : List Lit). IsIn b lit) (sym (filter_map-append only_literal clauses more)) (IsIn-append_left (unit_bounds clauses) (unit_bounds more) lit within)

unit_right : (clauses more : List (List Lit)) (lit : Lit) → IsIn (unit_bounds more) lit → IsIn (unit_bounds (clauses ++ more)) lit
unit_right clauses more lit within =
    subst (λ (b : List Lit). IsIn b lit) (sym (filter_map-append only_literal clauses more)) (IsIn-append_right (unit_bounds clauses) (unit_bounds more) lit within)

abbrev SaysAsMuch : List (List Lit) → List (List Lit) → Type 0
SaysAsMuch clauses more = (lit : Lit) → IsIn (unit_bounds clauses) lit → IsIn (unit_bounds more) lit

-- one clause more, in front of some and behind others
says_more : (clause : List Lit) (newest oldest : List (List Lit)) → SaysAsMuch newest oldest → SaysAsMuch (clause ∷ newest) (oldest ++ clause ∷ [])
says_more clause newest oldest says lit within =
    ⊎_elim (λ here. unit_right oldest (clause ∷ []) lit here) (λ there. unit_left oldest (clause ∷ []) lit (says lit there)) (unit_cases (clause ∷ []) newest lit within)

says_less : (clause : List Lit) (newest oldest : List (List Lit)) → SaysAsMuch oldest newest → SaysAsMuch (oldest ++ clause ∷ []) (clause ∷ newest)
says_less clause newest oldest says lit within =
    ⊎_elim (λ there. unit_right (clause ∷ []) newest lit (says lit there)) (λ here. unit_left (clause ∷ []) newest lit here) (unit_cases oldest (clause ∷ []) lit within)

get_cases : (clauses : List (List Lit)) (clause given : List Lit) (number : ℕ) → slice_get (clauses ++ clause ∷ []) number ≡ Some given
    → (slice_get clauses number ≡ Some given) ⊎ ((number ≡ length clauses) × (clause ≡ given))
get_cases clauses clause given number is =
    let within = slice_get_within (clauses ++ clause ∷ []) number given is in
    let item = get_or_from_slice_get (clauses ++ clause ∷ []) number given given is in
    ⊎_elim
    (λ below. inl (slice_get-get_or clauses number given below ∙ ap (λ (c : List Lit). Some c) (sym (get_or_append_left clauses (clause ∷ []) given number below) ∙ item)))
    (λ past. let last : length clauses ≡ number = omega (arith, length_push clauses clause) in
    inr (sym last, sym (get_or_push clauses clause given number last) ∙ item))
    (cases_lt number (length clauses))

-- how far a proof was read, where its steps were those of its first level
record IsAfter (system : System) (goal : Goal) (before : List Step) (at : Stage) : Type 0 where
  next : at.next ≡ length system.clauses + length before
  goal_is : at.levels.last.goal ≡ goal
  alone : at.levels.enclosing ≡ []
  numbers : (number : ℕ) (clause : List Lit) → slice_get (map clause_of before) number ≡ Some clause → numbered (length system.clauses + number) at.levels.last.finished ≡ Some clause
  more : SaysAsMuch (map (λ f. f.clause) at.levels.last.finished) (map clause_of before)
  less : SaysAsMuch (map clause_of before) (map (λ f. f.clause) at.levels.last.finished)

-- the newest of the ended steps, if there is one, isn't the empty clause
abbrev IsOpenAt : List Finished → Type 0
IsOpenAt [] = Unit {0}
IsOpenAt (f ∷ fs) = f.clause ≢ []

not_empty : (clause : List Lit) → clause ≢ [] → is_empty clause ≡ false
not_empty [] some = absurd (some refl)
not_empty (lit ∷ lits) some = refl

not_ended : (finished : List Finished) → IsOpenAt finished → ends_empty finished ≡ false
not_ended [] open_ = refl
not_ended (f ∷ fs) open_ = not_empty f.clause open_

open_after : (at : Stage) (step : Step) → ShowsClause step → clause_of step ≢ [] → IsOpenAt (after at step).levels.last.finished
open_after at (Lemma clause hints) kind some = some
open_after at (Theory clause tree) kind some = some
open_after at (Enter term bound) kind some = absurd kind
open_after at Leave kind some = absurd kind

may_stand : (at : Stage) (step : Step) → ShowsClause step → has_ended at ≡ false → MayStand at step
may_stand at (Lemma clause hints) kind not_yet = not_yet
may_stand at (Theory clause tree) kind not_yet = not_yet
may_stand at (Enter term bound) kind not_yet = absurd kind
may_stand at Leave kind not_yet = absurd kind

whole_after : (at : Stage) (step : Step) → ShowsClause step → clause_of step ≡ [] → at.levels.enclosing ≡ [] → IsWhole (after at step)
whole_after at (Lemma clause hints) kind empty alone = record { ended = ap is_empty empty; outermost = alone }
whole_after at (Theory clause tree) kind empty alone = record { ended = ap is_empty empty; outermost = alone }
whole_after at (Enter term bound) kind empty alone = absurd kind
whole_after at Leave kind empty alone = absurd kind

-- the last step, and no other, is the empty clause
abbrev EndsEmpty : List Step → Type 0
EndsEmpty [] = ⊥
EndsEmpty (step ∷ []) = clause_of step ≡ []
EndsEmpty (step ∷ next ∷ steps) = (clause_of step ≢ []) × EndsEmpty (next ∷ steps)

ends_empty_last : (before : List Step) (last : Step) → AreOpen before → clause_of last ≡ [] → EndsEmpty (before ++ last ∷ [])
ends_empty_last [] last open_ empty = empty
ends_empty_last (step ∷ []) last open_ empty = (All-head (λ (s : Step). clause_of s ≢ []) step [] open_, empty)
ends_empty_last (step ∷ next ∷ before) last open_ empty =
    (All-head (λ (s : Step). clause_of s ≢ []) step (next ∷ before) open_, ends_empty_last (next ∷ before) last (All-tail (λ (s : Step). clause_of s ≢ []) step (next ∷ before) open_) empty)

module _ (system : System) (cost : Term) (goal : Goal) where
  start_after : IsAfter system goal [] (at_start system goal)
  start_after = record {
    next = omega arith;
    goal_is = refl;
    alone = refl;
    numbers = λ number clause is. absurd (cc is);
    more = λ lit within. within;
    less = λ lit within. within;
  }

  -- the number of the newest step, and of those before it
  newest_numbers : (before : List Step) (step : Step) (next : ℕ) (finished : List Finished) → next ≡ length system.clauses + length before
      → ((number : ℕ) (clause : List Lit) → slice_get (map clause_of before) number ≡ Some clause → numbered (length system.clauses + number) finished ≡ Some clause)
      → (number : ℕ) (clause : List Lit) → slice_get (map clause_of (before ++ step ∷ [])) number ≡ Some clause
      → numbered (length system.clauses + number) (record { number = next; clause = clause_of step; is_cut = false } ∷ finished) ≡ Some clause
  newest_numbers before step next finished at numbers number clause is =
      let first = length system.clauses in
      let clauses = map clause_of before in
      let count : length clauses ≡ length before = length-map before clause_of in
      let joined : slice_get (clauses ++ clause_of step ∷ []) number ≡ Some clause = sym (ap (λ (cs : List (List Lit)). slice_get cs number) (map-append clause_of before (step ∷ []))) ∙ is in
      ⊎_elim
      (λ earlier. let few = slice_get_within clauses number clause earlier in
      let apart : (next == first + number) ≡ false = grind (arith, nat_tests, few, count, at) in
      cond-false {A = Option (List Lit)} (next == first + number) (Some (clause_of step)) (numbered (first + number) finished) apart ∙ numbers number clause earlier)
      (λ last. let same : (next == first + number) ≡ true = grind (arith, nat_tests, last.0, count, at) in
      cond-true {A = Option (List Lit)} (next == first + number) (Some (clause_of step)) (numbered (first + number) finished) same ∙ ap (λ (c : List Lit). Some c) last.1)
      (get_cases clauses (clause_of step) clause number joined)

  step_after : (before : List Step) (at : Stage) (step : Step) → ShowsClause step → IsAfter system goal before at → IsAfter system goal (before ++ step ∷ []) (after at step)
  step_after before at step kind is = with_kind step kind
    where
      joined : (s : Step) → map clause_of (before ++ s ∷ []) ≡ map clause_of before ++ clause_of s ∷ []
      joined s = map-append clause_of before (s ∷ [])

      one_more : (s : Step) → IsAfter system goal (before ++ s ∷ []) (record {
        next = at.next + 1;
        levels = record {
          last = record at.levels.last { finished = record { number = at.next; clause = clause_of s; is_cut = false } ∷ at.levels.last.finished };
          enclosing = at.levels.enclosing;
        };
      })
      one_more s = record {
        next = omega (arith, is.next, length_push before s);
        goal_is = is.goal_is;
        alone = is.alone;
        numbers = newest_numbers before s at.next at.levels.last.finished is.next is.numbers;
        more = subst (λ (cs : List (List Lit)). SaysAsMuch (clause_of s ∷ map (λ f. f.clause) at.levels.last.finished) cs) (sym (joined s))
            (says_more (clause_of s) (map (λ f. f.clause) at.levels.last.finished) (map clause_of before) is.more);
        less = subst (λ (cs : List (List Lit)). SaysAsMuch cs (clause_of s ∷ map (λ f. f.clause) at.levels.last.finished)) (sym (joined s))
            (says_less (clause_of s) (map (λ f. f.clause) at.levels.last.finished) (map clause_of before) is.less);
      }

      with_kind : (s : Step) → ShowsClause s → IsAfter system goal (before ++ s ∷ []) (after at s)
      with_kind (Lemma clause hints) kind = one_more (Lemma clause hints)
      with_kind (Theory clause tree) kind = one_more (Theory clause tree)
      with_kind (Enter term bound) kind = absurd kind
      with_kind Leave kind = absurd kind

  -- the level's words are those of the whole proof
  level_known : (before : List Step) (at : Stage) → IsAfter system goal before at → (number : ℕ) (clause : List Lit)
      → known (first_level system cost goal) before number ≡ Some clause → knows system at.levels number ≡ Some clause
  level_known before at is number clause known_is =
      let own = at.levels.last.finished ++ flat_map cuts_of at.levels.enclosing in
      let own_is : own ≡ at.levels.last.finished = ap (λ ls. at.levels.last.finished ++ flat_map cuts_of ls) is.alone ∙ append-nil at.levels.last.finished in
      let clauses = system.clauses in
      let joined : slice_get (clauses ++ map clause_of before) number ≡ Some clause = sym (ap (λ (cs : List (List Lit)). slice_get (cs ++ map clause_of before) number) (append-nil clauses)) ∙ known_is in
      let within = slice_get_within (clauses ++ map clause_of before) number clause joined in
      let item = get_or_from_slice_get (clauses ++ map clause_of before) number clause clause joined in
      ⊎_elim
      (λ below. let few : nat_lt number (length clauses) ≡ true = grind (arith, nat_tests, below) in
      cond-true {A = Option (List Lit)} (nat_lt number (length clauses)) (slice_get clauses number) (numbered number own) few
      ∙ slice_get-get_or clauses number clause below ∙ ap (λ (c : List Lit). Some c) (sym (get_or_append_left clauses (map clause_of before) clause number below) ∙ item))
      (λ past. let many : nat_lt number (length clauses) ≡ false = grind (arith, nat_tests, past) in
      let rest : ℕ = number - length clauses in
      let is_rest : length clauses + rest ≡ number = omega arith in
      let there : get_or (map clause_of before) rest clause ≡ clause = sym (get_or-append-add clauses (map clause_of before) rest clause) ∙ ap (λ n. get_or (clauses ++ map clause_of before) n clause) is_rest ∙ item in
      let few : rest < length (map clause_of before) = omega (arith, length-append clauses (map clause_of before)) in
      let get : slice_get (map clause_of before) rest ≡ Some clause = slice_get-get_or (map clause_of before) rest clause few ∙ ap (λ (c : List Lit). Some c) there in
      cond-false {A = Option (List Lit)} (nat_lt number (length clauses)) (slice_get clauses number) (numbered number own) many
      ∙ ap (λ fs. numbered number fs) own_is ∙ ap (λ n. numbered n at.levels.last.finished) (sym is_rest) ∙ is.numbers rest clause get)
      (cases_lt number (length clauses))

  same_goal : (g : Goal) → option_to_list (goal_literal cost g) ≡ goal_bounds cost g
  same_goal Nothing = refl
  same_goal (AtMost most) = refl
  same_goal (Below term bound) = refl

  same_units : (before : List Step) (at : Stage) → IsAfter system goal before at
      → Alike Any_term (unit_bounds (available (first_level system cost goal) before)) (unit_bounds (system.clauses ++ map (λ f. f.clause) (whole_available at.levels)))
  same_units before at is =
      let own_is : whole_available at.levels ≡ at.levels.last.finished = ap (λ ls. at.levels.last.finished ++ flat_map cuts_of ls) is.alone ∙ append-nil at.levels.last.finished in
      let theirs = map (λ f. f.clause) at.levels.last.finished in
      let mine = map clause_of before in
      let left : available (first_level system cost goal) before ≡ system.clauses ++ mine = ap (λ (cs : List (List Lit)). cs ++ mine) (append-nil system.clauses) in
      let right : system.clauses ++ map (λ f. f.clause) (whole_available at.levels) ≡ system.clauses ++ theirs = ap (λ fs. system.clauses ++ map (λ f. f.clause) fs) own_is in
      let alike : Alike Any_term (unit_bounds (system.clauses ++ mine)) (unit_bounds (system.clauses ++ theirs)) = record {
        more = λ lit within. ⊎_elim (λ here. unit_left system.clauses theirs lit here) (λ there. unit_right system.clauses theirs lit (is.less lit there)) (unit_cases system.clauses mine lit within);
        same = λ lit among within. ⊎_elim (λ here. unit_left system.clauses mine lit here) (λ there. unit_right system.clauses mine lit (is.more lit there)) (unit_cases system.clauses theirs lit within);
      } in
      subst (λ (cs : List (List Lit)). Alike Any_term (unit_bounds cs) (unit_bounds (system.clauses ++ map (λ f. f.clause) (whole_available at.levels)))) (sym left)
      (subst (λ (cs : List (List Lit)). Alike Any_term (unit_bounds (system.clauses ++ mine)) (unit_bounds cs)) (sym right) alike)

  same_box : (before : List Step) (at : Stage) → IsAfter system goal before at → Alike Any_term (box_of (first_level system cost goal) before) (whole_box system cost at.levels)
  same_box before at is =
      let ranges = range_bounds system.ranges in
      let units = unit_bounds (system.clauses ++ map (λ f. f.clause) (whole_available at.levels)) in
      let goals : option_to_list (goal_literal cost goal) ≡ goal_bounds cost at.levels.last.goal = same_goal goal ∙ ap (goal_bounds cost) (sym is.goal_is) in
      subst (λ (gs : List Lit). Alike Any_term (box_of (first_level system cost goal) before) (ranges ++ gs ++ units)) goals
      (alike_behind Any_term (ranges ++ option_to_list (goal_literal cost goal)) (unit_bounds (available (first_level system cost goal) before)) units (same_units before at is))

  step_on : (before steps : List Step) (step : Step) → AreSteps (first_level system cost goal) (before ++ step ∷ steps) → IsStepOn (first_level system cost goal) before step
  step_on before steps step valid =
      let level = first_level system cost goal in
      let n = length before in
      let whole = before ++ step ∷ steps in
      let here : n < length whole = omega (arith, length-append before (step ∷ steps)) in
      let on : IsStepOn level (take n whole) (get_or whole n step) = valid n here step in
      subst (λ (s : Step). IsStepOn level before s) (get_or-append_seam before step steps step)
      (subst (λ (b : List Step). IsStepOn level b (get_or whole n step)) (take_at before (step ∷ steps) n refl) on)

  takes : (before : List Step) (at : Stage) (step : Step) → IsAfter system goal before at → IsOpenAt at.levels.last.finished → IsStepOn (first_level system cost goal) before step → Takes system cost at step
  takes before at step is open_ on = record {
    place = may_stand at step on.kind (not_ended at.levels.last.finished open_);
    passes = passes_alike Any_term (known (first_level system cost goal) before) (knows system at.levels) (level_known before at is) (λ number clause known_is k d within. tt)
        system (box_of (first_level system cost goal) before) (whole_box system cost at.levels) step (same_box before at is) on.passes;
  }

  valid_from : (before steps : List Step) (at : Stage) → IsAfter system goal before at → IsOpenAt at.levels.last.finished
      → AreSteps (first_level system cost goal) (before ++ steps) → EndsEmpty steps → ValidFrom system cost at steps
  valid_from before [] at is open_ valid ends = absurd ends
  valid_from before (step ∷ []) at is open_ valid ends =
      let on = step_on before [] step valid in
      (takes before at step is open_ on, whole_after at step on.kind ends is.alone)
  valid_from before (step ∷ next ∷ steps) at is open_ valid ends =
      let on = step_on before (next ∷ steps) step valid in
      let joined : before ++ step ∷ next ∷ steps ≡ (before ++ step ∷ []) ++ next ∷ steps = sym (append_assoc before (step ∷ []) (next ∷ steps)) in (
        takes before at step is open_ on,
        valid_from (before ++ step ∷ []) (next ∷ steps) (after at step) (step_after before at step on.kind is) (open_after at step on.kind ends.0)
            (subst (AreSteps (first_level system cost goal)) joined valid) ends.1,
      )

  pub ended_are_valid : (steps : List Step) → AreSteps (first_level system cost goal) steps → HaveEnded steps → ValidFrom system cost (at_start system goal) steps
  ended_are_valid steps valid ended =
      valid_from [] steps (at_start system goal) start_after tt valid (subst EndsEmpty (sym ended.split) (ends_empty_last ended.before ended.last ended.others ended.empty))
