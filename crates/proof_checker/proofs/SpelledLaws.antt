-- The text of a valid proof passes, line by line.
use Rattle.std.proofs.Common.{◌≡◌, ℕ, ◌+◌, ◌<◌, ◌≤◌, List, [], ◌∷◌, ◌++◌, length, map, Bool, true, false, not, Option, Some, None, refl, sym, ◌∙◌, ap, subst, inl, inr, append_assoc, arith, All}
use Rattle.std.specs.Prelude.{◌==◌, nat_lt, slice_get, if◌then◌else◌}
use Rattle.std.specs.List.{filter, flat_map}
use Rattle.std.proofs.lemmas.Bool.{cases_Bool, cond-true, cond-false}
use Rattle.std.proofs.lemmas.Bool.Decides.{nat_tests}
use Rattle.std.proofs.lemmas.Option.{slice_get_within}
use Rattle.std.proofs.lemmas.List.Elements.{All-nil, All-cons, All-head, All-tail, All-append, All-weaker, All-filter}
use Rattle.wx_num.specs.declared.excess.Excess.{Excess}
use Rattle.mix_system.specs.declared.literal.Term.{Term}
use Rattle.mix_system.specs.declared.literal.Lit.{Lit}
use Rattle.mix_system.specs.Lit.{negation}
use Rattle.mix_system.specs.System.{System}
use Rattle.mix_system.specs.Follows.{Known, Propagates, Follows}
use Rattle.mix_system.specs.FarkasSum.{leaf_steps}
use Rattle.proof_term.specs.declared.proof.Goal.{Goal}
use Rattle.proof_term.specs.declared.proof.Goal.TheVariants.{Nothing, AtMost, Below}
use Rattle.proof_term.specs.declared.proof.Shape.{Shape}
use Rattle.proof_term.specs.declared.proof.Proof.{Proof}
use Rattle.proof_term.specs.declared.step.Step.{Step}
use Rattle.proof_term.specs.declared.step.Step.TheVariants.{Lemma, Theory, Enter, Leave}
use Rattle.proof_term.specs.declared.tree.Node.{Node}
use Rattle.proof_term.specs.declared.tree.Node.TheVariants.{Leaf, Split}
use Rattle.proof_term.specs.Levels.{Finished, Level, Levels, cuts_of, available, clause_of, known, box_of}
use Rattle.proof_term.specs.Refutes.{low_half, high_half, RefutesAll}
use Rattle.proof_term.specs.Steps.{StaysWithin, NamesTerm, NodeNames, negation_step, node_steps}
use Rattle.proof_term.specs.Valid.{Stage, at_start, has_ended, ends_empty, with_step, after_clause, after_enter, closed, after, Takes, ValidFrom, IsOutermost, IsWhole}
use Rattle.proof_term.proofs.ListLaws.{All-flat_map}
use Rattle.proof_text.specs.declared.line.Line.{Line}
use Rattle.proof_text.specs.declared.line.Line.TheVariants as line
use Rattle.proof_text.specs.declared.line.LineRead.{LineRead}
use Rattle.proof_text.specs.declared.line.LineRead.TheVariants as give
use Rattle.proof_text.specs.Line.{read}
use Rattle.proof_checker.specs.declared.verdict.Verdict.{Verdict}
use Rattle.proof_checker.specs.declared.verdict.Verdict.TheVariants.{Yes}
use Rattle.proof_checker.specs.Laws.{IsProofOf}
use Rattle.proof_checker.specs.Outcome.{Outcome, Next, goal_of, ReadGives}
use Rattle.proof_checker.specs.Place.{Place, AtHeader, AtShape, AtGoal, AtStep, InTree, AtEnd, closed_place, after_leaf}
use Rattle.proof_checker.specs.Spelled.{node_line, step_lines, steps_lines, first_lines, goal_number, AreRead, IsMadeFor}
use Rattle.proof_checker.specs.Verdict.{end_verdict, AreAnswered}

-- what holds of all items of two lists holds of those of each

All_front : {X : Type 0} (P : X → Type 0) (xs ys : List X) → All P (xs ++ ys) → All P xs
All_front P [] ys all = All-nil P
All_front P (x ∷ xs) ys all = All-cons P x xs (All-head P x (xs ++ ys) all) (All_front P xs ys (All-tail P x (xs ++ ys) all))

All_back : {X : Type 0} (P : X → Type 0) (xs ys : List X) → All P (xs ++ ys) → All P ys
All_back P [] ys all = all
All_back P (x ∷ xs) ys all = All_back P xs ys (All-tail P x (xs ++ ys) all)

-- the goal of the outermost of these levels
abbrev goal_under : Level → List Level → Goal
goal_under last [] = last.goal
goal_under last (outer ∷ enclosing) = goal_under outer enclosing

goal_under-step : (number : ℕ) (clause : List Lit) (is_cut : Bool) (last : Level) (enclosing : List Level) → goal_under (with_step number clause is_cut last) enclosing ≡ goal_under last enclosing
goal_under-step number clause is_cut last [] = refl
goal_under-step number clause is_cut last (outer ∷ enclosing) = refl

-- The numbers of ended steps are below the next, and so is each hint that names a clause.

abbrev IsOld : ℕ → Finished → Type 0
IsOld next f = f.number < next

abbrev AreOld : ℕ → Level → Type 0
AreOld next level = All (IsOld next) level.finished

record IsCounted (system : System) (at : Stage) : Type 0 where
  clauses : length system.clauses ≤ at.next
  last : AreOld at.next at.levels.last
  around : All (AreOld at.next) at.levels.enclosing

older : (next : ℕ) (level : Level) → AreOld next level → AreOld (next + 1) level
older next level old = All-weaker (IsOld next) (IsOld (next + 1)) (λ f less. omega (arith, less)) level.finished old

all_older : (next : ℕ) (levels : List Level) → All (AreOld next) levels → All (AreOld (next + 1)) levels
all_older next levels old = All-weaker (AreOld next) (AreOld (next + 1)) (older next) levels old

step_counted : (next : ℕ) (clause : List Lit) (is_cut : Bool) (level : Level) → AreOld next level → AreOld (next + 1) (with_step next clause is_cut level)
step_counted next clause is_cut level old =
    All-cons (IsOld (next + 1)) (record { number = next; clause = clause; is_cut = is_cut }) level.finished (omega arith) (older next level old)

old_clause : (next number : ℕ) (fs : List Finished) (clause : List Lit) → All (IsOld next) fs → clause_of number fs ≡ Some clause → number < next
old_clause next number [] clause old is = absurd (cc is)
old_clause next number (f ∷ fs) clause old is = elim (cases_Bool (f.number == number)) [
  | inl same ↦
      let less : f.number < next = All-head (IsOld next) f fs old in
      let e : f.number ≡ number = grind (arith, nat_tests) in
      omega (arith, less, e)
  | inr other ↦ old_clause next number fs clause (All-tail (IsOld next) f fs old)
      (sym (cond-false {A = Option (List Lit)} (f.number == number) (Some f.clause) (clause_of number fs) other) ∙ is)
]

cuts_old : (next : ℕ) (level : Level) → AreOld next level → All (IsOld next) (cuts_of level)
cuts_old next level old = All-filter (λ f. f.is_cut) (IsOld next) level.finished old

known_old : (system : System) (at : Stage) (number : ℕ) (clause : List Lit) → IsCounted system at → known system at.levels number ≡ Some clause → number < at.next
known_old system at number clause counted is =
    let theirs = clause_of number (available at.levels) in
    elim (cases_Bool (nat_lt number (length system.clauses))) [
      | inl few ↦
          let less : number < length system.clauses = grind (arith, nat_tests) in
          let most = counted.clauses in
          omega (arith, less, most)
      | inr many ↦ old_clause at.next number (available at.levels) clause
          (All-append (IsOld at.next) at.levels.last.finished (flat_map cuts_of at.levels.enclosing) counted.last
          (All-flat_map (IsOld at.next) cuts_of at.levels.enclosing (All-weaker (AreOld at.next) (λ level. All (IsOld at.next) (cuts_of level)) (cuts_old at.next) at.levels.enclosing counted.around)))
          (sym (cond-false {A = Option (List Lit)} (nat_lt number (length system.clauses)) (slice_get system.clauses number) theirs many) ∙ is)
    ]

hints_old : (knows : Known) (next : ℕ) → ((number : ℕ) (clause : List Lit) → knows number ≡ Some clause → number < next) → (box : List Lit) (hints : List ℕ) → Propagates knows box hints
    → All (λ hint. hint < next) hints
hints_old knows next old box [] p = absurd p
hints_old knows next old box (hint ∷ []) p = All-cons (λ n. n < next) hint [] (old hint p.0 p.1) (All-nil (λ n. n < next))
hints_old knows next old box (hint ∷ other ∷ hints) p =
    All-cons (λ n. n < next) hint (other ∷ hints) (old hint p.0 p.2) (hints_old knows next old (p.1 ∷ box) (other ∷ hints) p.4)

-- after the last level was closed, where others enclose it

pub closes_to : (next : ℕ) (last : Level) (enclosing : List Level) → 0 < length enclosing → closed_place next last enclosing ≡ AtStep (closed next last enclosing)
closes_to next last [] some = absurd (omega (arith, some))
closes_to next last (outer ∷ enclosing) some = refl

closed_counted : (system : System) (next : ℕ) (last : Level) (enclosing : List Level) → 0 < length enclosing
    → IsCounted system (record { next = next; levels = record { last = last; enclosing = enclosing } }) → IsCounted system (closed next last enclosing)
closed_counted system next last [] some counted = absurd (omega (arith, some))
closed_counted system next last (outer ∷ enclosing) some counted = record {
  clauses = omega (arith, counted.clauses);
  last = step_counted next _ true outer (All-head (AreOld next) outer enclosing counted.around);
  around = all_older next enclosing (All-tail (AreOld next) outer enclosing counted.around);
}

closed_goal : (next : ℕ) (last : Level) (enclosing : List Level) → 0 < length enclosing
    → goal_under (closed next last enclosing).levels.last (closed next last enclosing).levels.enclosing ≡ goal_under last enclosing
closed_goal next last [] some = absurd (omega (arith, some))
closed_goal next last (outer ∷ enclosing) some = goal_under-step next _ true outer enclosing

module _ (system : System) (cost : Term) where
  -- lines that pass, from a place to another
  abbrev Run : Place → List Line → Place → Type 0
  Run place [] to = to ≡ place
  Run place (l ∷ ls) to = (next : Place) × ReadGives system cost place (give.Fits l) (Next next) × Run next ls to

  run_more : (place : Place) (ls ms : List Line) (mid to : Place) → Run place ls mid → Run mid ms to → Run place (ls ++ ms) to
  run_more place [] ms mid to is runs = subst (λ (p : Place). Run p ms to) is runs
  run_more place (l ∷ ls) ms mid to first runs = (first.0, first.1, run_more first.0 ls ms mid to first.2 runs)

  -- the nodes of a tree that refutes the boxes that are left
  run_nodes : (at : Stage) (clause : List Lit) (nodes : List Node) (boxes : List (List Lit)) → RefutesAll system.rows nodes boxes → All (NodeNames system) nodes
      → All StaysWithin (flat_map (node_steps system.rows) nodes) → Run (after_leaf at clause boxes) (map node_line nodes) (AtStep (after_clause at clause))
  run_nodes at clause [] [] refute names numbers = refl
  run_nodes at clause [] (box ∷ boxes) refute names numbers = absurd refute
  run_nodes at clause (node ∷ nodes) [] refute names numbers = absurd refute
  run_nodes at clause (Leaf farkas ∷ nodes) (box ∷ boxes) refute names numbers =
      let named = All-head (NodeNames system) (Leaf farkas) nodes names in
      let steps = All_front StaysWithin (leaf_steps system.rows farkas.parts) (flat_map (node_steps system.rows) nodes) numbers in
      let rest = run_nodes at clause nodes boxes refute.1 (All-tail (NodeNames system) (Leaf farkas) nodes names)
      (All_back StaysWithin (leaf_steps system.rows farkas.parts) (flat_map (node_steps system.rows) nodes) numbers) in (
        after_leaf at clause boxes,
        inr (refl, (farkas.parts, refl, inr (named, inr (refute.0.in_box, inr (steps, inr (refute.0.vanishes, inr (refute.0.contradictory, refl))))))),
        rest,
      )
  run_nodes at clause (Split var middle ∷ nodes) (box ∷ boxes) refute names numbers =
      let exists = All-head (NodeNames system) (Split var middle) nodes names in
      let steps = All_front StaysWithin (node_steps system.rows (Split var middle)) (flat_map (node_steps system.rows) nodes) numbers in
      let halves = (low_half var middle ∷ box) ∷ (high_half var middle ∷ box) ∷ boxes in
      let rest = run_nodes at clause nodes halves refute (All-tail (NodeNames system) (Split var middle) nodes names)
      (All_back StaysWithin (node_steps system.rows (Split var middle)) (flat_map (node_steps system.rows) nodes) numbers) in (
        InTree at clause halves,
        inr (refl, inr (exists, inr (steps, refl))),
        rest,
      )

  -- the end of the first level
  run_end : (next : ℕ) (last : Level) (enclosing : List Level) (goal : Goal) → ends_empty last.finished ≡ true → enclosing ≡ [] → goal_under last enclosing ≡ goal
      → Run (AtStep (record { next = next; levels = record { last = last; enclosing = enclosing } })) (line.End ∷ []) (AtEnd goal)
  run_end next last [] goal ended outermost same = (AtEnd last.goal, inr (refl, inr (ended, refl)), ap AtEnd (sym same))
  run_end next last (outer ∷ enclosing) goal ended outermost same = absurd (cc outermost)

  run_steps : (at : Stage) (steps : List Step) (goal : Goal) → IsCounted system at → ValidFrom system cost at steps → goal_under at.levels.last at.levels.enclosing ≡ goal
      → Run (AtStep at) (steps_lines steps) (AtEnd goal)
  run_steps at [] goal counted valid same = run_end at.next at.levels.last at.levels.enclosing goal valid.ended valid.outermost same
  run_steps at (Lemma clause hints ∷ steps) goal counted valid same =
      let passes = valid.0.passes in
      let below = hints_old (known system at.levels) at.next (λ number c is. known_old system at number c counted is) (map negation clause ++ box_of system cost at.levels) hints passes.shows in
      let after_it : IsCounted system (after_clause at clause) = record {
        clauses = omega (arith, counted.clauses);
        last = step_counted at.next clause false at.levels.last counted.last;
        around = all_older at.next at.levels.enclosing counted.around;
      } in (
        AtStep (after_clause at clause),
        inr (ap not valid.0.place, inr ((passes.names, below), inr (passes.numbers, inr (passes.shows, refl)))),
        run_steps (after_clause at clause) steps goal after_it valid.1 (goal_under-step at.next clause false at.levels.last at.levels.enclosing ∙ same),
      )
  run_steps at (Theory clause tree ∷ steps) goal counted valid same =
      let passes = valid.0.passes in
      let after_it : IsCounted system (after_clause at clause) = record {
        clauses = omega (arith, counted.clauses);
        last = step_counted at.next clause false at.levels.last counted.last;
        around = all_older at.next at.levels.enclosing counted.around;
      } in
      let boxes = (map negation clause ++ box_of system cost at.levels) ∷ [] in
      let first = All_front StaysWithin (map negation_step clause) (flat_map (node_steps system.rows) tree.nodes) passes.numbers in
      let others = All_back StaysWithin (map negation_step clause) (flat_map (node_steps system.rows) tree.nodes) passes.numbers in
      let nodes = run_nodes at clause tree.nodes boxes passes.shows passes.names.1 others in
      let rest = run_steps (after_clause at clause) steps goal after_it valid.1 (goal_under-step at.next clause false at.levels.last at.levels.enclosing ∙ same) in
      let both = run_more (InTree at clause boxes) (map node_line tree.nodes) (steps_lines steps) (AtStep (after_clause at clause)) (AtEnd goal) nodes rest in (
        InTree at clause boxes,
        inr (ap not valid.0.place, inr (passes.names.0, inr (first, refl))),
        subst (λ (ls : List Line). Run (InTree at clause boxes) ls (AtEnd goal)) (sym (append_assoc (map node_line tree.nodes) (flat_map step_lines steps) (line.End ∷ []))) both,
      )
  run_steps at (Enter term bound ∷ steps) goal counted valid same =
      let passes = valid.0.passes in
      let after_it : IsCounted system (after_enter at term bound) = record {
        clauses = counted.clauses;
        last = All-nil (IsOld at.next);
        around = All-cons (AreOld at.next) at.levels.last at.levels.enclosing counted.last counted.around;
      } in (
        AtStep (after_enter at term bound),
        inr (ap not valid.0.place.0, inr (passes.names, inr (valid.0.place.1, inr (passes.numbers, refl)))),
        run_steps (after_enter at term bound) steps goal after_it valid.1 same,
      )
  run_steps at (Leave ∷ steps) goal counted valid same =
      let some = valid.0.place.1 in (
        AtStep (after at Leave),
        inr (refl, inr (valid.0.place.0, ap Next (sym (closes_to at.next at.levels.last at.levels.enclosing some)))),
        run_steps (after at Leave) steps goal (closed_counted system at.next at.levels.last at.levels.enclosing some counted) valid.1
            (closed_goal at.next at.levels.last at.levels.enclosing some ∙ same),
      )

  -- the goal's line, and the steps
  run_goal : (goal : Goal) (steps : List Step) → IsOutermost goal → ValidFrom system cost (at_start system goal) steps → Run AtGoal (line.Goal (goal_number goal) ∷ steps_lines steps) (AtEnd goal)
  run_goal goal steps outer valid =
      let counted : IsCounted system (at_start system goal) = record { clauses = omega arith; last = All-nil (IsOld (length system.clauses)); around = All-nil (AreOld (length system.clauses)) } in (
        AtStep (at_start system goal),
        inr (refl, ap (λ (g : Goal). Next (AtStep (at_start system g))) (sym (number_is goal outer))),
        run_steps (at_start system goal) steps goal counted valid refl,
      )
    where
      number_is : (g : Goal) → IsOutermost g → goal_of (goal_number g) ≡ g
      number_is Nothing outer = refl
      number_is (AtMost most) outer = refl
      number_is (Below term bound) outer = absurd outer

  run_first : (shape : Option Shape) (ls : List Line) (to : Place) → IsMadeFor system shape → Run AtGoal ls to → Run AtHeader (first_lines shape ++ ls) to
  run_first None ls to made runs = (AtGoal, inr (refl, refl), runs)
  run_first (Some shape) ls to made runs = (AtShape, inr (refl, refl), (AtGoal, inr (refl, inr (made, refl)), runs))

  -- lines that pass to the end give yes, whatever their first one's number is
  answered : (place : Place) (number : ℕ) (texts : List (List ℕ)) (ls : List Line) (goal : Goal) → AreRead texts ls → Run place ls (AtEnd goal) → AreAnswered system cost place number texts (Yes goal)
  answered place number [] ls goal spelled runs = absurd spelled
  answered place number (rest ∷ []) [] goal spelled runs =
      subst (λ (p : Place). Yes goal ≡ end_verdict p number rest) runs (ap (end_verdict (AtEnd goal) number) (sym spelled))
  answered place number (rest ∷ []) (l ∷ ls) goal spelled runs = absurd spelled
  answered place number (bytes ∷ next ∷ more) [] goal spelled runs = absurd spelled
  answered place number (bytes ∷ next ∷ more) (l ∷ ls) goal spelled runs = inr (
    runs.0,
    subst (λ (r : LineRead). ReadGives system cost place r (Next runs.0)) (sym spelled.0) runs.1,
    answered runs.0 (number + 1) (next ∷ more) ls goal spelled.1 runs.2,
  )

  pub passes_all : (texts : List (List ℕ)) (proof : Proof) → IsOutermost proof.goal → ValidFrom system cost (at_start system proof.goal) proof.steps → IsMadeFor system proof.shape
      → AreRead texts (first_lines proof.shape ++ line.Goal (goal_number proof.goal) ∷ steps_lines proof.steps) → AreAnswered system cost AtHeader 1 texts (Yes proof.goal)
  passes_all texts proof outer valid made spelled =
      answered AtHeader 1 texts (first_lines proof.shape ++ line.Goal (goal_number proof.goal) ∷ steps_lines proof.steps) proof.goal spelled
      (run_first proof.shape (line.Goal (goal_number proof.goal) ∷ steps_lines proof.steps) (AtEnd proof.goal) made (run_goal proof.goal proof.steps outer valid))
