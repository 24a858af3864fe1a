-- A proof that is valid for a goal is valid for a weaker one: its boxes say more of the cost alone, and no clause has a literal on it.
use Rattle.std.proofs.Common.{◌≡◌, ◌≢◌, ◌⊎◌, ℕ, suc, ◌+◌, ◌<◌, ◌≤◌, ℤ, pos, ◌+ℤ◌, List, [], ◌∷◌, ◌++◌, length, map, Bool, true, false, Option, Some, None, refl, sym, ◌∙◌, ap, subst, inl, inr, ⊎_elim, arith, All}
use Rattle.std.specs.Prelude.{◌==◌, nat_lt, slice_get, if◌then◌else◌}
use Rattle.std.specs.List.{flat_map}
use Rattle.std.proofs.lemmas.Int.{ints}
use Rattle.std.proofs.lemmas.Bool.{cases_Bool, cond-true, cond-false}
use Rattle.std.proofs.lemmas.List.Elements.{All-nil, All-cons, All-head, All-tail, All-append, All-weaker, All-filter}
use Rattle.mix_system.specs.declared.literal.Term.{Term}
use Rattle.mix_system.specs.declared.literal.Side.TheVariants.{Ge}
use Rattle.mix_system.specs.declared.literal.Lit.{Lit}
use Rattle.mix_system.specs.declared.row.Part.{Part}
use Rattle.mix_system.specs.declared.farkas.FarkasPart.{FarkasPart}
use Rattle.mix_system.specs.Lit.{negation}
use Rattle.mix_system.specs.System.{System}
use Rattle.mix_system.specs.Bounds.{Entails, IsIn, IsFalseIn, range_bounds, unit_bounds}
use Rattle.mix_system.specs.Follows.{Known, LeavesOne, Propagates}
use Rattle.mix_system.proofs.BoundLaws.{IsIn-none, IsIn-first, IsIn-there, IsIn-cons_cases, IsIn-append_left, IsIn-append_right, IsIn-append_cases, IsIn-entailed}
use Rattle.mix_system.proofs.WellFormedLaws.{All-slice_get}
use Rattle.proof_term.specs.declared.proof.Goal.{Goal}
use Rattle.proof_term.specs.declared.proof.Goal.TheVariants.{Nothing, AtMost, Below}
use Rattle.proof_term.specs.declared.step.Step.{Step}
use Rattle.proof_term.specs.declared.step.Step.TheVariants.{Lemma, Theory, Enter, Leave}
use Rattle.proof_term.specs.declared.tree.Node.{Node}
use Rattle.proof_term.specs.declared.tree.Node.TheVariants.{Leaf, Split}
use Rattle.proof_term.specs.Levels.{Finished, Level, Levels, cuts_of, available, clause_of, known, goal_bounds, cut_clause, box_of}
use Rattle.proof_term.specs.Refutes.{low_half, high_half, RefutesAll}
use Rattle.proof_term.specs.Steps.{Shows}
use Rattle.proof_term.specs.Valid.{Stage, at_start, ends_empty, has_ended, with_step, after_clause, after_enter, closed, after, MayStand, ValidFrom}
use Rattle.proof_term.specs.Weaker.{IsWeaker, IsFree, StepIsFree}
use Rattle.proof_term.proofs.ListLaws.{All-flat_map}

-- Boxes

-- the second box says all that the first says, and of other terms than the cost no more
record Alike (cost : Term) (box other : List Lit) : Type 0 where
  more : (lit : Lit) → IsIn box lit → IsIn other lit
  same : (lit : Lit) → lit.term ≢ cost → IsIn other lit → IsIn box lit

alike_same : (cost : Term) (box other : List Lit) → box ≡ other → Alike cost box other
alike_same cost box other is = record {
  more = λ lit within. subst (λ (b : List Lit). IsIn b lit) is within;
  same = λ lit apart within. subst (λ (b : List Lit). IsIn b lit) (sym is) within;
}

alike_behind : (cost : Term) (front box other : List Lit) → Alike cost box other → Alike cost (front ++ box) (front ++ other)
alike_behind cost front box other alike = record {
  more = λ lit within. ⊎_elim (λ here. IsIn-append_left front other lit here) (λ there. IsIn-append_right front other lit (alike.more lit there)) (IsIn-append_cases front box lit within);
  same = λ lit apart within. ⊎_elim (λ here. IsIn-append_left front box lit here) (λ there. IsIn-append_right front box lit (alike.same lit apart there)) (IsIn-append_cases front other lit within);
}

alike_before : (cost : Term) (box other back : List Lit) → Alike cost box other → Alike cost (box ++ back) (other ++ back)
alike_before cost box other back alike = record {
  more = λ lit within. ⊎_elim (λ here. IsIn-append_left other back lit (alike.more lit here)) (λ there. IsIn-append_right other back lit there) (IsIn-append_cases box back lit within);
  same = λ lit apart within. ⊎_elim (λ here. IsIn-append_left box back lit (alike.same lit apart here)) (λ there. IsIn-append_right box back lit there) (IsIn-append_cases other back lit within);
}

-- the bound on the cost for a goal, and for a weaker one

bound_on : Term → ℕ → Lit
bound_on cost most = record { term = cost; side = Ge; bound = pos most +ℤ pos 1 }

not_other : (cost : Term) (most : ℕ) (lit : Lit) → lit.term ≢ cost → IsIn (bound_on cost most ∷ []) lit → ⊥
unfolding bound_on
not_other cost most lit apart within =
    ⊎_elim (λ entails. apart (sym entails.same_term)) (λ none. IsIn-none lit none) (IsIn-cons_cases (bound_on cost most) [] lit within)

goal_alike : (cost : Term) (goal weaker : Goal) → IsWeaker goal weaker → Alike cost (goal_bounds cost goal) (goal_bounds cost weaker)
unfolding bound_on
goal_alike cost Nothing Nothing is = alike_same cost [] [] refl
goal_alike cost Nothing (AtMost more) is = record {
  more = λ lit within. absurd (IsIn-none lit within);
  same = λ lit apart within. absurd (not_other cost more lit apart within);
}
goal_alike cost Nothing (Below term bound) is = absurd is
goal_alike cost (AtMost most) Nothing is = absurd is
goal_alike cost (AtMost most) (AtMost more) is =
    let stronger : Entails (bound_on cost more) (bound_on cost most) = record { same_term = refl; same_side = refl; as_strong = omega (arith, ints, is) } in
    record {
      more = λ lit within. ⊎_elim
          (λ entails. IsIn-entailed (bound_on cost more ∷ []) (bound_on cost most) lit (IsIn-first (bound_on cost more) [] (bound_on cost most) stronger) entails)
          (λ none. absurd (IsIn-none lit none)) (IsIn-cons_cases (bound_on cost most) [] lit within);
      same = λ lit apart within. absurd (not_other cost more lit apart within);
    }
goal_alike cost (AtMost most) (Below term bound) is = absurd is
goal_alike cost (Below term bound) weaker is = absurd is

-- What hints propagate and what nodes refute

All_back : {X : Type 0} (P : X → Type 0) (xs ys : List X) → All P (xs ++ ys) → All P ys
All_back P [] ys all = all
All_back P (x ∷ xs) ys all = All_back P xs ys (All-tail P x (xs ++ ys) all)

false_more : (cost : Term) (box other clause : List Lit) → Alike cost box other → All (IsFalseIn box) clause → All (IsFalseIn other) clause
false_more cost box other clause alike all = All-weaker (IsFalseIn box) (IsFalseIn other) (λ lit is. alike.more (negation lit) is) clause all

one_more : (cost : Term) (box other clause : List Lit) (lit : Lit) → Alike cost box other → IsFree cost clause → LeavesOne box clause lit → LeavesOne other clause lit
one_more cost box other clause lit alike free one =
    let parts = subst (λ (c : List Lit). IsFree cost c) one.split free in
    let apart : lit.term ≢ cost = All-head (λ l. l.term ≢ cost) lit one.after (All_back (λ l. l.term ≢ cost) one.before (lit ∷ one.after) parts) in
    record {
      before = one.before;
      after = one.after;
      split = one.split;
      before_false = false_more cost box other one.before alike one.before_false;
      after_false = false_more cost box other one.after alike one.after_false;
      left = λ is. one.left (alike.same (negation lit) apart is);
    }

propagates_more : (cost : Term) (knows knows_too : Known) → ((number : ℕ) → knows_too number ≡ knows number)
    → ((number : ℕ) (clause : List Lit) → knows number ≡ Some clause → IsFree cost clause)
    → (box other : List Lit) (hints : List ℕ) → Alike cost box other → Propagates knows box hints → Propagates knows_too other hints
propagates_more cost knows knows_too same free box other [] alike p = absurd p
propagates_more cost knows knows_too same free box other (hint ∷ []) alike p = (p.0, same hint ∙ p.1, false_more cost box other p.0 alike p.2)
propagates_more cost knows knows_too same free box other (hint ∷ next ∷ hints) alike p = (
  p.0,
  p.1,
  same hint ∙ p.2,
  one_more cost box other p.0 p.1 alike (free hint p.0 p.2) p.3,
  propagates_more cost knows knows_too same free (p.1 ∷ box) (p.1 ∷ other) (next ∷ hints) (alike_behind cost (p.1 ∷ []) box other alike) p.4,
)

-- the boxes of the second list say what those of the first say
abbrev AllMore : List (List Lit) → List (List Lit) → Type 0
AllMore [] [] = Unit {0}
AllMore [] (other ∷ others) = ⊥
AllMore (box ∷ boxes) [] = ⊥
AllMore (box ∷ boxes) (other ∷ others) = ((lit : Lit) → IsIn box lit → IsIn other lit) × AllMore boxes others

more_with : (lit : Lit) (box other : List Lit) → ((l : Lit) → IsIn box l → IsIn other l) → (l : Lit) → IsIn (lit ∷ box) l → IsIn (lit ∷ other) l
more_with lit box other more l within =
    ⊎_elim (λ entails. IsIn-first lit other l entails) (λ there. IsIn-there lit other l (more l there)) (IsIn-cons_cases lit box l within)

refutes_more : (rows : List (List Part)) (nodes : List Node) (boxes others : List (List Lit)) → AllMore boxes others → RefutesAll rows nodes boxes → RefutesAll rows nodes others
refutes_more rows [] [] [] more refute = tt
refutes_more rows [] [] (other ∷ others) more refute = absurd more
refutes_more rows [] (box ∷ boxes) others more refute = absurd refute
refutes_more rows (node ∷ nodes) [] others more refute = absurd refute
refutes_more rows (node ∷ nodes) (box ∷ boxes) [] more refute = absurd more
refutes_more rows (Leaf farkas ∷ nodes) (box ∷ boxes) (other ∷ others) more refute = (
  record {
    in_box = All-weaker (λ (part : FarkasPart). IsIn box part.lit) (λ part. IsIn other part.lit) (λ part within. more.0 part.lit within) farkas.parts refute.0.in_box;
    vanishes = refute.0.vanishes;
    contradictory = refute.0.contradictory;
  },
  refutes_more rows nodes boxes others more.1 refute.1,
)
refutes_more rows (Split var at ∷ nodes) (box ∷ boxes) (other ∷ others) more refute =
    refutes_more rows nodes ((low_half var at ∷ box) ∷ (high_half var at ∷ box) ∷ boxes) ((low_half var at ∷ other) ∷ (high_half var at ∷ other) ∷ others)
    (more_with (low_half var at) box other more.0, (more_with (high_half var at) box other more.0, more.1)) refute

-- Levels with another goal on the outermost

abbrev pub last_with : Goal → Level → List Level → Level
last_with goal last [] = record { goal = goal; finished = last.finished }
last_with goal last (outer ∷ enclosing) = last

abbrev pub around_with : Goal → List Level → List Level
around_with goal [] = []
around_with goal (outer ∷ enclosing) = last_with goal outer enclosing ∷ around_with goal enclosing

abbrev pub stage_with : Goal → Stage → Stage
stage_with goal at = record { next = at.next; levels = record { last = last_with goal at.levels.last at.levels.enclosing; enclosing = around_with goal at.levels.enclosing } }

abbrev pub outermost : Level → List Level → Goal
outermost last [] = last.goal
outermost last (outer ∷ enclosing) = outermost outer enclosing

finished_with : (goal : Goal) (last : Level) (enclosing : List Level) → (last_with goal last enclosing).finished ≡ last.finished
finished_with goal last [] = refl
finished_with goal last (outer ∷ enclosing) = refl

cuts_with : (goal : Goal) (enclosing : List Level) → flat_map cuts_of (around_with goal enclosing) ≡ flat_map cuts_of enclosing
cuts_with goal [] = refl
cuts_with goal (outer ∷ []) = refl
cuts_with goal (outer ∷ next ∷ enclosing) = ap (λ (fs : List Finished). cuts_of outer ++ fs) (cuts_with goal (next ∷ enclosing))

available_with : (goal : Goal) (last : Level) (enclosing : List Level)
    → (last_with goal last enclosing).finished ++ flat_map cuts_of (around_with goal enclosing) ≡ last.finished ++ flat_map cuts_of enclosing
available_with goal last enclosing =
    ap (λ (fs : List Finished). fs ++ flat_map cuts_of (around_with goal enclosing)) (finished_with goal last enclosing)
    ∙ ap (λ (fs : List Finished). last.finished ++ fs) (cuts_with goal enclosing)

known_with : (system : System) (goal : Goal) (at : Stage) (number : ℕ) → known system (stage_with goal at).levels number ≡ known system at.levels number
known_with system goal at number =
    ap (λ (fs : List Finished). if nat_lt number (length system.clauses) then slice_get system.clauses number else clause_of number fs) (available_with goal at.levels.last at.levels.enclosing)

length_with : (goal : Goal) (enclosing : List Level) → length (around_with goal enclosing) ≡ length enclosing
length_with goal [] = refl
length_with goal (outer ∷ enclosing) = ap (λ n. suc n) (length_with goal enclosing)

ended_with : (goal : Goal) (at : Stage) → has_ended (stage_with goal at) ≡ has_ended at
ended_with goal at = ap ends_empty (finished_with goal at.levels.last at.levels.enclosing)

after_with : (goal : Goal) (at : Stage) (step : Step) → after (stage_with goal at) step ≡ stage_with goal (after at step)
after_with goal at (Lemma clause hints) = clause_with at.next at.levels.last at.levels.enclosing
  where
    clause_with : (next : ℕ) (last : Level) (enclosing : List Level)
        → after_clause (stage_with goal (record { next = next; levels = record { last = last; enclosing = enclosing } })) clause
        ≡ stage_with goal (after_clause (record { next = next; levels = record { last = last; enclosing = enclosing } }) clause)
    clause_with next last [] = refl
    clause_with next last (outer ∷ enclosing) = refl
after_with goal at (Theory clause tree) = clause_with at.next at.levels.last at.levels.enclosing
  where
    clause_with : (next : ℕ) (last : Level) (enclosing : List Level)
        → after_clause (stage_with goal (record { next = next; levels = record { last = last; enclosing = enclosing } })) clause
        ≡ stage_with goal (after_clause (record { next = next; levels = record { last = last; enclosing = enclosing } }) clause)
    clause_with next last [] = refl
    clause_with next last (outer ∷ enclosing) = refl
after_with goal at (Enter term bound) = refl
after_with goal at Leave = closed_with at.next at.levels.last at.levels.enclosing
  where
    closed_with : (next : ℕ) (last : Level) (enclosing : List Level)
        → closed next (last_with goal last enclosing) (around_with goal enclosing) ≡ stage_with goal (closed next last enclosing)
    closed_with next last [] = refl
    closed_with next last (outer ∷ []) = refl
    closed_with next last (outer ∷ second ∷ enclosing) = refl

outermost_after : (at : Stage) (step : Step) → outermost (after at step).levels.last (after at step).levels.enclosing ≡ outermost at.levels.last at.levels.enclosing
outermost_after at (Lemma clause hints) = with_one at.next clause false at.levels.last at.levels.enclosing
  where
    with_one : (next : ℕ) (c : List Lit) (is_cut : Bool) (last : Level) (enclosing : List Level) → outermost (with_step next c is_cut last) enclosing ≡ outermost last enclosing
    with_one next c is_cut last [] = refl
    with_one next c is_cut last (outer ∷ enclosing) = refl
outermost_after at (Theory clause tree) = with_one at.next clause false at.levels.last at.levels.enclosing
  where
    with_one : (next : ℕ) (c : List Lit) (is_cut : Bool) (last : Level) (enclosing : List Level) → outermost (with_step next c is_cut last) enclosing ≡ outermost last enclosing
    with_one next c is_cut last [] = refl
    with_one next c is_cut last (outer ∷ enclosing) = refl
outermost_after at (Enter term bound) = refl
outermost_after at Leave = closed_one at.next at.levels.last at.levels.enclosing
  where
    closed_one : (next : ℕ) (last : Level) (enclosing : List Level)
        → outermost (closed next last enclosing).levels.last (closed next last enclosing).levels.enclosing ≡ outermost last enclosing
    closed_one next last [] = refl
    closed_one next last (outer ∷ []) = refl
    closed_one next last (outer ∷ second ∷ enclosing) = refl

box_with : (system : System) (cost : Term) (goal weaker : Goal) (last : Level) (enclosing : List Level) → outermost last enclosing ≡ goal → IsWeaker goal weaker
    → Alike cost (box_of system cost (record { last = last; enclosing = enclosing }))
    (box_of system cost (record { last = last_with weaker last enclosing; enclosing = around_with weaker enclosing }))
box_with system cost goal weaker last [] is weak =
    let base = unit_bounds (system.clauses ++ map (λ f. f.clause) (last.finished ++ [])) in
    let ranges = range_bounds system.ranges in
    let goals = goal_alike cost last.goal weaker (subst (λ (g : Goal). IsWeaker g weaker) (sym is) weak) in
    alike_before cost (ranges ++ goal_bounds cost last.goal) (ranges ++ goal_bounds cost weaker) base (alike_behind cost ranges (goal_bounds cost last.goal) (goal_bounds cost weaker) goals)
box_with system cost goal weaker last (outer ∷ enclosing) is weak =
    alike_same cost _ _ (ap (λ (fs : List Finished). range_bounds system.ranges ++ goal_bounds cost last.goal ++ unit_bounds (system.clauses ++ map (λ f. f.clause) (last.finished ++ fs)))
    (sym (cuts_with weaker (outer ∷ enclosing))))

-- No clause that may be named has a literal on the cost

module _ (cost : Term) where
  abbrev pub FinishedFree : Finished → Type 0
  FinishedFree f = IsFree cost f.clause

  pub record LevelFree (level : Level) : Type 0 where
    pub finished : All FinishedFree level.finished
    pub goal : IsFree cost (cut_clause level.goal)

  pub record StageFree (at : Stage) : Type 0 where
    pub last : LevelFree at.levels.last
    pub around : All LevelFree at.levels.enclosing

  clause_free : (number : ℕ) (fs : List Finished) (clause : List Lit) → All FinishedFree fs → clause_of number fs ≡ Some clause → IsFree cost clause
  clause_free number [] clause all is = absurd (cc is)
  clause_free number (f ∷ fs) clause all is = elim (cases_Bool (f.number == number)) [
    | inl same ↦ let here : f.clause ≡ clause = cc (is, cond-true {A = Option (List Lit)} (f.number == number) (Some f.clause) (clause_of number fs) same) in
        subst (λ (c : List Lit). IsFree cost c) here (All-head FinishedFree f fs all)
    | inr other ↦ clause_free number fs clause (All-tail FinishedFree f fs all)
        (sym (cond-false {A = Option (List Lit)} (f.number == number) (Some f.clause) (clause_of number fs) other) ∙ is)
  ]

  known_free : (system : System) (at : Stage) → All (IsFree cost) system.clauses → StageFree at → (number : ℕ) (clause : List Lit) → known system at.levels number ≡ Some clause
      → IsFree cost clause
  known_free system at clauses free number clause is =
      let theirs = clause_of number (available at.levels) in
      elim (cases_Bool (nat_lt number (length system.clauses))) [
        | inl few ↦ All-slice_get (IsFree cost) system.clauses number clause
            (sym (cond-true {A = Option (List Lit)} (nat_lt number (length system.clauses)) (slice_get system.clauses number) theirs few) ∙ is) clauses
        | inr many ↦ clause_free number (available at.levels) clause
            (All-append FinishedFree at.levels.last.finished (flat_map cuts_of at.levels.enclosing) free.last.finished
            (All-flat_map FinishedFree cuts_of at.levels.enclosing
            (All-weaker LevelFree (λ level. All FinishedFree (cuts_of level)) (λ level h. All-filter (λ f. f.is_cut) FinishedFree level.finished h.finished) at.levels.enclosing free.around)))
            (sym (cond-false {A = Option (List Lit)} (nat_lt number (length system.clauses)) (slice_get system.clauses number) theirs many) ∙ is)
      ]

  step_free : (next : ℕ) (clause : List Lit) (is_cut : Bool) (level : Level) → IsFree cost clause → LevelFree level → LevelFree (with_step next clause is_cut level)
  step_free next clause is_cut level here free = record {
    finished = All-cons FinishedFree (record { number = next; clause = clause; is_cut = is_cut }) level.finished here free.finished;
    goal = free.goal;
  }

  closed_free : (next : ℕ) (last : Level) (enclosing : List Level) → LevelFree last → All LevelFree enclosing → StageFree (closed next last enclosing)
  closed_free next last [] free around = record { last = free; around = around }
  closed_free next last (outer ∷ enclosing) free around = record {
    last = step_free next (cut_clause last.goal) true outer free.goal (All-head LevelFree outer enclosing around);
    around = All-tail LevelFree outer enclosing around;
  }

  after_free : (at : Stage) (step : Step) → StageFree at → StepIsFree cost step → StageFree (after at step)
  after_free at (Lemma clause hints) free here = record { last = step_free at.next clause false at.levels.last here free.last; around = free.around }
  after_free at (Theory clause tree) free here = record { last = step_free at.next clause false at.levels.last here free.last; around = free.around }
  after_free at (Enter term bound) free here = record {
    last = record { finished = All-nil FinishedFree; goal = All-cons (λ (l : Lit). l.term ≢ cost) _ [] here (All-nil (λ (l : Lit). l.term ≢ cost)) };
    around = All-cons LevelFree at.levels.last at.levels.enclosing free.last free.around;
  }
  after_free at Leave free here = closed_free at.next at.levels.last at.levels.enclosing free.last free.around

  module _ (system : System) (goal weaker : Goal) (weak : IsWeaker goal weaker) (clauses : All (IsFree cost) system.clauses) where
    may_stand_with : (at : Stage) (step : Step) → MayStand at step → MayStand (stage_with weaker at) step
    may_stand_with at (Lemma clause hints) place = ended_with weaker at ∙ place
    may_stand_with at (Theory clause tree) place = ended_with weaker at ∙ place
    may_stand_with at (Enter term bound) place = (ended_with weaker at ∙ place.0, omega (arith, place.1, length_with weaker at.levels.enclosing))
    may_stand_with at Leave place = (ended_with weaker at ∙ place.0, omega (arith, place.1, length_with weaker at.levels.enclosing))

    shows_with : (at : Stage) (step : Step) → outermost at.levels.last at.levels.enclosing ≡ goal → StageFree at
        → Shows system.rows (box_of system cost at.levels) (known system at.levels) step
        → Shows system.rows (box_of system cost (stage_with weaker at).levels) (known system (stage_with weaker at).levels) step
    shows_with at (Lemma clause hints) is free shows =
        let box = box_of system cost at.levels in
        let other = box_of system cost (stage_with weaker at).levels in
        propagates_more cost (known system at.levels) (known system (stage_with weaker at).levels) (known_with system weaker at) (known_free system at clauses free)
        (map negation clause ++ box) (map negation clause ++ other) hints
        (alike_behind cost (map negation clause) box other (box_with system cost goal weaker at.levels.last at.levels.enclosing is weak)) shows
    shows_with at (Theory clause tree) is free shows =
        let box = box_of system cost at.levels in
        let other = box_of system cost (stage_with weaker at).levels in
        let alike = alike_behind cost (map negation clause) box other (box_with system cost goal weaker at.levels.last at.levels.enclosing is weak) in
        refutes_more system.rows tree.nodes ((map negation clause ++ box) ∷ []) ((map negation clause ++ other) ∷ []) (alike.more, tt) shows
    shows_with at (Enter term bound) is free shows = tt
    shows_with at Leave is free shows = tt

    pub valid_with : (at : Stage) (steps : List Step) → outermost at.levels.last at.levels.enclosing ≡ goal → StageFree at → All (StepIsFree cost) steps → ValidFrom system cost at steps
        → ValidFrom system cost (stage_with weaker at) steps
    valid_with at [] is free all valid = record { ended = ended_with weaker at ∙ valid.ended; outermost = ap (around_with weaker) valid.outermost }
    valid_with at (step ∷ steps) is free all valid = (
      record {
        place = may_stand_with at step valid.0.place;
        passes = record { names = valid.0.passes.names; numbers = valid.0.passes.numbers; shows = shows_with at step is free valid.0.passes.shows };
      },
      subst (λ (s : Stage). ValidFrom system cost s steps) (sym (after_with weaker at step))
          (valid_with (after at step) steps (outermost_after at step ∙ is) (after_free at step free (All-head (StepIsFree cost) step steps all)) (All-tail (StepIsFree cost) step steps all) valid.1),
    )

pub start_free : (cost : Term) (system : System) (goal : Goal) → IsFree cost (cut_clause goal) → StageFree cost (at_start system goal)
start_free cost system goal free = record {
  last = record { finished = All-nil (FinishedFree cost); goal = free };
  around = All-nil (LevelFree cost);
}
