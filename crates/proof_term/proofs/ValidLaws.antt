-- What the levels of a proof keep, and that every level that is open is closed by a proof that its goal is met.
use Rattle.std.proofs.Common.{◌≡◌, ◌⊎◌, ◌+◌, ◌<◌, ◌≤ℤ◌, ℕ, suc, zero, ℤ, pos, List, [], ◌∷◌, ◌++◌, length, map, Bool, true, false, Option, Some, None, refl, sym, ◌∙◌, ap, inl, inr, arith, All, get_or}
use Rattle.std.specs.Prelude.{Any, nat_lt, slice_get, ◌==◌, cond}
use Rattle.std.specs.List.{AllByRecursion, filter, flat_map}
use Rattle.std.proofs.lemmas.Bool.{cases_Bool, cond-true, cond-false, false≢true}
use Rattle.std.proofs.lemmas.List.Elements.{All-nil, All-cons, All-head, All-tail, All-append, All-map, All-filter, filter_passes, All-weaker, All-from_recursion}
use Rattle.mix_system.specs.declared.literal.Term.{Term}
use Rattle.mix_system.specs.declared.literal.Lit.{Lit}
use Rattle.mix_system.specs.declared.row.Part.{Part}
use Rattle.mix_system.specs.Lit.{negation}
use Rattle.mix_system.specs.System.{System}
use Rattle.mix_system.specs.Fits.{Fits, IsTrueAt, term_value}
use Rattle.mix_system.specs.Follows.{Known}
use Rattle.mix_system.specs.Bounds.{AreTrueAt, range_bounds, unit_bounds, only_literal}
use Rattle.mix_system.proofs.WellFormedLaws.{All-slice_get}
use Rattle.proof_term.specs.declared.proof.Goal.{Goal}
use Rattle.proof_term.specs.declared.proof.Goal.TheVariants.{Nothing, AtMost, Below}
use Rattle.proof_term.specs.declared.step.Step.{Step}
use Rattle.proof_term.specs.declared.step.Step.TheVariants.{Lemma, Theory, Enter, Leave}
use Rattle.proof_term.specs.Levels.{Finished, Level, Levels, cuts_of, available, clause_of, known, goal_bounds, cut_clause, box_of}
use Rattle.proof_term.specs.Steps.{Passes}
use Rattle.proof_term.specs.Valid.{Stage, at_start, is_empty, ends_empty, has_ended, with_step, after_clause, after_enter, closed, after, MayStand, Takes, IsWhole, ValidFrom}
use Rattle.proof_term.specs.Laws.{Meets}
use Rattle.mix_system.proofs.AnyLaws.{Any-none, Any-one_holds, Any-here, Any-there}
use Rattle.mix_system.proofs.BoundLaws.{true_or_negation, range_bounds-true}
use Rattle.mix_system.proofs.FollowLaws.{Follows-true}
use Rattle.proof_term.proofs.ListLaws.{All-flat_map, All-filter_map}
use Rattle.proof_term.proofs.RefutesLaws.{int_cases, no_point}

abbrev pub IsBelow : Goal → Type 0
IsBelow Nothing = ⊥
IsBelow (AtMost most) = ⊥
IsBelow (Below term bound) = Unit {0}

-- all levels but the outermost are those of cuts
abbrev pub AreNested : Level → List Level → Type 0
AreNested last [] = Unit {0}
AreNested last (outer ∷ enclosing) = IsBelow last.goal × AreNested outer enclosing

AreNested-with_step : (level : Level) (number : ℕ) (clause : List Lit) (is_cut : Bool) (enclosing : List Level) → AreNested level enclosing → AreNested (with_step number clause is_cut level) enclosing
AreNested-with_step level number clause is_cut [] nested = tt
AreNested-with_step level number clause is_cut (outer ∷ enclosing) nested = nested

-- some literal of the clause is true
abbrev pub Holds : List (List Part) → List ℤ → List Lit → Type 0
Holds rows point clause = Any (IsTrueAt rows point) clause

-- the cuts of a level hold, and where its goal isn't met its other steps hold too
pub record IsSound (rows : List (List Part)) (cost : Term) (point : List ℤ) (level : Level) : Type 0 where
  pub cuts : All (λ f. f.is_cut ≡ true → Holds rows point f.clause) level.finished
  pub own : AreTrueAt rows point (goal_bounds cost level.goal) → All (λ f. Holds rows point f.clause) level.finished

pub record AreSound (rows : List (List Part)) (cost : Term) (point : List ℤ) (at : Stage) : Type 0 where
  pub nested : AreNested at.levels.last at.levels.enclosing
  pub last : IsSound rows cost point at.levels.last
  pub enclosing : AllByRecursion (IsSound rows cost point) at.levels.enclosing

is_empty-true : (clause : List Lit) → is_empty clause ≡ true → clause ≡ []
is_empty-true [] e = refl
is_empty-true (lit ∷ lits) e = absurd (false≢true e)

module _ (system : System) (cost : Term) (point : List ℤ) where
  -- a goal is met where its bound isn't true
  pub meets_unless_true : (goal : Goal) → (AreTrueAt system.rows point (goal_bounds cost goal) → ⊥) → Meets system.rows cost point goal
  meets_unless_true Nothing not_true = not_true (All-nil (IsTrueAt system.rows point))
  meets_unless_true (AtMost most) not_true = elim (int_cases (term_value system.rows point cost) (pos most)) [
    | inl low ↦ low
    | inr high ↦ absurd (not_true (All-cons (IsTrueAt system.rows point) _ [] high (All-nil (IsTrueAt system.rows point))))
  ]
  meets_unless_true (Below term bound) not_true = elim (int_cases (term_value system.rows point term) bound) [
    | inl low ↦ low
    | inr high ↦ absurd (not_true (All-cons (IsTrueAt system.rows point) _ [] high (All-nil (IsTrueAt system.rows point))))
  ]

  cut_holds : (goal : Goal) → IsBelow goal → Meets system.rows cost point goal → Holds system.rows point (cut_clause goal)
  cut_holds Nothing below meets = absurd below
  cut_holds (AtMost most) below meets = absurd below
  cut_holds (Below term bound) below meets = Any-here (IsTrueAt system.rows point) _ [] meets

  ended_refutes : (finished : List Finished) → ends_empty finished ≡ true → All (λ f. Holds system.rows point f.clause) finished → ⊥
  ended_refutes [] ended all = false≢true ended
  ended_refutes (f ∷ fs) ended all =
      let here = All-head (λ f. Holds system.rows point f.clause) f fs all in
      Any-none (IsTrueAt system.rows point) (rw (is_empty-true f.clause ended) at here)

  -- so the goal of a level that has ended is met
  pub level_meets : (level : Level) → IsSound system.rows cost point level → ends_empty level.finished ≡ true → Meets system.rows cost point level.goal
  level_meets level sound ended = meets_unless_true level.goal (λ is_true. ended_refutes level.finished ended (sound.own is_true))

  pub available_hold : (at : Stage) → AreSound system.rows cost point at → AreTrueAt system.rows point (goal_bounds cost at.levels.last.goal) → All (λ f. Holds system.rows point f.clause) (available at.levels)
  available_hold at sound is_true =
      let P : Finished → Type 0 = λ f. Holds system.rows point f.clause in
      let Q : Finished → Type 0 = λ f. f.is_cut ≡ true → Holds system.rows point f.clause in
      let cuts : (level : Level) → IsSound system.rows cost point level → All P (cuts_of level) = λ level level_sound k d within.
      All-filter (λ f. f.is_cut) Q level.finished level_sound.cuts k d within (filter_passes (λ f. f.is_cut) level.finished k d within) in
      All-append P at.levels.last.finished (flat_map cuts_of at.levels.enclosing) (sound.last.own is_true) (
      All-flat_map P cuts_of at.levels.enclosing (All-weaker (IsSound system.rows cost point) (λ level. All P (cuts_of level)) cuts at.levels.enclosing (
      All-from_recursion (IsSound system.rows cost point) at.levels.enclosing sound.enclosing)))

  clause_of_holds : (fs : List Finished) (number : ℕ) (clause : List Lit) → All (λ f. Holds system.rows point f.clause) fs → clause_of number fs ≡ Some clause → Holds system.rows point clause
  clause_of_holds [] number clause all is = absurd (cc is)
  clause_of_holds (f ∷ fs) number clause all is =
      let P : Finished → Type 0 = λ f. Holds system.rows point f.clause in
      elim (cases_Bool (f.number == number)) [
        | inl same ↦ let here : f.clause ≡ clause = cc (is, cond-true {A = Option (List Lit)} (f.number == number) (Some f.clause) (clause_of number fs) same) in
            rw (sym here) (All-head P f fs all)
        | inr other ↦ clause_of_holds fs number clause (All-tail P f fs all) (sym (cond-false {A = Option (List Lit)} (f.number == number) (Some f.clause) (clause_of number fs) other) ∙ is)
      ]

  known_holds : (at : Stage) (fits : Fits system point) → AreSound system.rows cost point at → AreTrueAt system.rows point (goal_bounds cost at.levels.last.goal)
      → (number : ℕ) (clause : List Lit) → known system at.levels number ≡ Some clause → Holds system.rows point clause
  known_holds at fits sound is_true number clause is = elim (cases_Bool (nat_lt number (length system.clauses))) [
    | inl few ↦ All-slice_get (Holds system.rows point) system.clauses number clause
        (sym (cond-true {A = Option (List Lit)} (nat_lt number (length system.clauses)) (slice_get system.clauses number) (clause_of number (available at.levels)) few) ∙ is) fits.clauses_hold
    | inr many ↦ clause_of_holds (available at.levels) number clause (available_hold at sound is_true)
        (sym (cond-false {A = Option (List Lit)} (nat_lt number (length system.clauses)) (slice_get system.clauses number) (clause_of number (available at.levels)) many) ∙ is)
  ]

  only_literal_true : (clause : List Lit) (lit : Lit) → only_literal clause ≡ Some lit → Holds system.rows point clause → IsTrueAt system.rows point lit
  only_literal_true [] lit is holds = absurd (Any-none (IsTrueAt system.rows point) holds)
  only_literal_true (first ∷ []) lit is holds = let same : first ≡ lit = cc is in rw (sym same) (Any-one_holds (IsTrueAt system.rows point) first holds)
  only_literal_true (first ∷ other ∷ lits) lit is holds = absurd (cc is)

  box_true : (at : Stage) (fits : Fits system point) → AreSound system.rows cost point at → AreTrueAt system.rows point (goal_bounds cost at.levels.last.goal)
      → AreTrueAt system.rows point (box_of system cost at.levels)
  box_true at fits sound is_true =
      let P = IsTrueAt system.rows point in
      let clauses = map (λ f. f.clause) (available at.levels) in
      let hold : All (Holds system.rows point) (system.clauses ++ clauses) = All-append (Holds system.rows point) system.clauses clauses fits.clauses_hold (
      All-map (Holds system.rows point) (λ f. f.clause) (available at.levels) (available_hold at sound is_true)) in
      All-append P (range_bounds system.ranges ++ goal_bounds cost at.levels.last.goal) (unit_bounds (system.clauses ++ clauses))
      (All-append P (range_bounds system.ranges) (goal_bounds cost at.levels.last.goal) ((range_bounds-true system.rows point system.ranges).1 fits.in_ranges) is_true)
      (All-filter_map P only_literal (Holds system.rows point) (system.clauses ++ clauses) only_literal_true hold)

  true_or_all_negated : (clause : List Lit) → Holds system.rows point clause ⊎ AreTrueAt system.rows point (map negation clause)
  true_or_all_negated [] = inr (All-nil (IsTrueAt system.rows point))
  true_or_all_negated (lit ∷ lits) = elim (true_or_negation system.rows point lit) [
    | inl here ↦ inl (Any-here (IsTrueAt system.rows point) lit lits here)
    | inr negated ↦ elim (true_or_all_negated lits) [
      | inl there ↦ inl (Any-there (IsTrueAt system.rows point) lit lits there)
      | inr all ↦ inr (All-cons (IsTrueAt system.rows point) (negation lit) (map negation lits) negated all)
    ]
  ]

  sound_with_step : (level : Level) (number : ℕ) (clause : List Lit) (is_cut : Bool) → IsSound system.rows cost point level
      → (is_cut ≡ true → Holds system.rows point clause) → (AreTrueAt system.rows point (goal_bounds cost level.goal) → Holds system.rows point clause)
      → IsSound system.rows cost point (with_step number clause is_cut level)
  sound_with_step level number clause is_cut sound as_cut as_own = record {
    cuts = All-cons (λ f. f.is_cut ≡ true → Holds system.rows point f.clause) _ level.finished as_cut sound.cuts;
    own = λ is_true. All-cons (λ f. Holds system.rows point f.clause) _ level.finished (as_own is_true) (sound.own is_true);
  }

  after_clause_sound : (at : Stage) (clause : List Lit) → AreSound system.rows cost point at
      → (AreTrueAt system.rows point (goal_bounds cost at.levels.last.goal) → Holds system.rows point clause) → AreSound system.rows cost point (after_clause at clause)
  after_clause_sound at clause sound holds = record {
    nested = AreNested-with_step at.levels.last at.next clause false at.levels.enclosing sound.nested;
    last = sound_with_step at.levels.last at.next clause false sound.last (λ e. absurd (false≢true e)) holds;
    enclosing = sound.enclosing;
  }

  closed_sound : (next : ℕ) (last : Level) (enclosing : List Level) → AreNested last enclosing → IsSound system.rows cost point last
      → AllByRecursion (IsSound system.rows cost point) enclosing → ends_empty last.finished ≡ true → AreSound system.rows cost point (closed next last enclosing)
  closed_sound next last [] nested sound outer ended = record { nested = tt; last = sound; enclosing = tt }
  closed_sound next last (level ∷ enclosing) nested sound outer ended =
      let holds = cut_holds last.goal nested.0 (level_meets last sound ended) in record {
        nested = AreNested-with_step level next (cut_clause last.goal) true enclosing nested.1;
        last = sound_with_step level next (cut_clause last.goal) true outer.0 (λ _. holds) (λ _. holds);
        enclosing = outer.1;
      }

  -- what a step shows that passes, by whatever numbers of clauses that hold
  pub passed_sound : (at : Stage) (step : Step) (knows : Known) → Fits system point → AreSound system.rows cost point at
      → (AreTrueAt system.rows point (goal_bounds cost at.levels.last.goal) → (number : ℕ) (clause : List Lit) → knows number ≡ Some clause → Holds system.rows point clause)
      → MayStand at step → Passes system (box_of system cost at.levels) knows step → AreSound system.rows cost point (after at step)
  passed_sound at (Lemma clause hints) knows fits sound hold place passes = after_clause_sound at clause sound (λ is_true.
      Follows-true system.rows point clause hints (box_of system cost at.levels) knows passes.shows (box_true at fits sound is_true) (hold is_true))
  passed_sound at (Theory clause tree) knows fits sound hold place passes = after_clause_sound at clause sound (λ is_true.
      elim (true_or_all_negated clause) [
        | inl holds ↦ holds
        | inr negated ↦ absurd ((no_point system.rows point tree.nodes ((map negation clause ++ box_of system cost at.levels) ∷ []) passes.shows).0
            (All-append (IsTrueAt system.rows point) (map negation clause) (box_of system cost at.levels) negated (box_true at fits sound is_true)))
      ])
  passed_sound at (Enter term bound) knows fits sound hold place passes = record {
    nested = (tt, sound.nested);
    last = record { cuts = All-nil (λ f. f.is_cut ≡ true → Holds system.rows point f.clause); own = λ is_true. All-nil (λ f. Holds system.rows point f.clause) };
    enclosing = (sound.last, sound.enclosing);
  }
  passed_sound at Leave knows fits sound hold place passes = closed_sound at.next at.levels.last at.levels.enclosing sound.nested sound.last sound.enclosing place.0

  after_sound : (at : Stage) (step : Step) → Fits system point → AreSound system.rows cost point at → Takes system cost at step → AreSound system.rows cost point (after at step)
  after_sound at step fits sound takes =
      passed_sound at step (known system at.levels) fits sound (λ is_true. known_holds at fits sound is_true) takes.place takes.passes

  -- each open level's goal is met
  abbrev pub AllMeet : Level → List Level → Type 0
  AllMeet last enclosing = AllByRecursion (λ level. Meets system.rows cost point level.goal) (last ∷ enclosing)

  closed_meets : (next : ℕ) (last : Level) (enclosing : List Level) → Meets system.rows cost point last.goal
      → AllMeet (closed next last enclosing).levels.last (closed next last enclosing).levels.enclosing → AllMeet last enclosing
  closed_meets next last [] here rest = (here, tt)
  closed_meets next last (level ∷ enclosing) here rest = (here, rest)

  pub open_levels_meet : (steps : List Step) (at : Stage) → Fits system point → AreSound system.rows cost point at → ValidFrom system cost at steps → AllMeet at.levels.last at.levels.enclosing
  open_levels_meet [] at fits sound whole = (level_meets at.levels.last sound.last whole.ended, rw whole.outermost tt)
  open_levels_meet (Lemma clause hints ∷ steps) at fits sound v = open_levels_meet steps (after_clause at clause) fits (after_sound at (Lemma clause hints) fits sound v.0) v.1
  open_levels_meet (Theory clause tree ∷ steps) at fits sound v = open_levels_meet steps (after_clause at clause) fits (after_sound at (Theory clause tree) fits sound v.0) v.1
  open_levels_meet (Enter term bound ∷ steps) at fits sound v = (open_levels_meet steps (after_enter at term bound) fits (after_sound at (Enter term bound) fits sound v.0) v.1).1
  open_levels_meet (Leave ∷ steps) at fits sound v =
      closed_meets at.next at.levels.last at.levels.enclosing (level_meets at.levels.last sound.last v.0.place.0)
      (open_levels_meet steps (after at Leave) fits (after_sound at Leave fits sound v.0) v.1)

  pub start_sound : (goal : Goal) → AreSound system.rows cost point (at_start system goal)
  start_sound goal = record {
    nested = tt;
    last = record { cuts = All-nil (λ f. f.is_cut ≡ true → Holds system.rows point f.clause); own = λ is_true. All-nil (λ f. Holds system.rows point f.clause) };
    enclosing = tt;
  }

  pub entered_meets : (steps : List Step) (at : Stage) (k : ℕ) (term : Term) (bound : ℤ) → Fits system point → AreSound system.rows cost point at → ValidFrom system cost at steps
      → k < length steps → get_or steps k (Enter term bound) ≡ Enter term bound → term_value system.rows point term ≤ℤ bound
  entered_meets [] at k term bound fits sound v within is = absurd (omega arith)
  entered_meets (step ∷ steps) at zero term bound fits sound v within is =
      let meet = open_levels_meet steps (after at step) fits (after_sound at step fits sound v.0) v.1 in
      (rw is at meet).0
  entered_meets (step ∷ steps) at (suc k) term bound fits sound v within is =
      entered_meets steps (after at step) k term bound fits (after_sound at step fits sound v.0) v.1 (omega arith) is
