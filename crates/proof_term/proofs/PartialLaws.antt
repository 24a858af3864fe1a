-- What holds of proofs that aren't finished.
use Rattle.std.proofs.Common.{◌≡◌, ◌⊎◌, ◌+◌, ◌-◌, ◌<◌, ◌≤◌, ◌≤ℤ◌, ℕ, suc, zero, ℤ, List, [], ◌∷◌, ◌++◌, length, map, Bool, true, false, Some, refl, sym, ◌∙◌, ap, subst, inl, inr, arith, All, get_or}
use Rattle.std.specs.Prelude.{Any, Contains, reverse}
use Rattle.std.specs.List.{AllByRecursion}
use Rattle.std.proofs.lemmas.List.{reverse-append}
use Rattle.std.proofs.lemmas.List.Elements.{All-nil, All-head, All-tail, All-append, All-map, All-push}
use Rattle.mix_system.specs.declared.literal.Term.{Term}
use Rattle.mix_system.specs.declared.literal.Lit.{Lit}
use Rattle.mix_system.specs.System.{System}
use Rattle.mix_system.specs.Fits.{Fits, term_value}
use Rattle.mix_system.specs.Bounds.{AreTrueAt}
use Rattle.mix_system.proofs.AnyLaws.{Any-none, Any-cons_cases}
use Rattle.mix_system.proofs.WellFormedLaws.{All-slice_get}
use Rattle.proof_term.specs.declared.open_tree.OpenNode.{OpenNode}
use Rattle.proof_term.specs.declared.open_tree.OpenNode.TheVariants.{Pending}
use Rattle.proof_term.specs.declared.partial.PartLevel.{PartLevel}
use Rattle.proof_term.specs.declared.proof.Goal.{Goal}
use Rattle.proof_term.specs.declared.proof.Goal.TheVariants.{Below}
use Rattle.proof_term.specs.declared.step.Step.{Step}
use Rattle.proof_term.specs.declared.step.Step.TheVariants.{Lemma, Theory, Enter, Leave}
use Rattle.proof_term.specs.Levels.{Finished, Level, cuts_of, available, goal_bounds, cut_clause}
use Rattle.proof_term.specs.Steps.{StaysWithin}
use Rattle.proof_term.specs.Valid.{Stage, is_empty, with_step, closed, after, has_ended, MayStand}
use Rattle.proof_term.specs.Laws.{Meets}
use Rattle.proof_term.specs.Partial.{local_clauses, locally, Run, run_start, run_after, run_to, StandsLocally, IsInside, AllStand, IsPart, LevelsStand, PartsStand}
use Rattle.proof_term.specs.PartialLaws.{run_opened, run_on, run_of, steps_with, levels_with, closed_steps}
use Rattle.proof_term.proofs.ValidLaws.{Holds, IsSound, AreSound, level_meets, available_hold, passed_sound, start_sound}

All_reverse : {X : Type 0} (P : X → Type 0) (xs : List X) → All P xs → All P (reverse xs)
All_reverse P [] all = all
All_reverse {X} P (x ∷ xs) all =
    subst (λ (ys : List X). All P ys) (sym (reverse-append (x ∷ []) xs)) (All-push P (reverse xs) x (All_reverse P xs (All-tail P x xs all)) (All-head P x xs all))

closed_length : (next : ℕ) (last : Level) (enclosing : List Level) (base : ℕ) → base < length enclosing → base ≤ length (closed next last enclosing).levels.enclosing
closed_length next last [] base less = absurd (omega (arith, less))
closed_length next last (outer ∷ enclosing) base less = omega (arith, less)

module _ (system : System) (cost : Term) (point : List ℤ) (fits : Fits system point) where
  -- what is named by a number of the level holds
  local_hold : (at : Stage) → AreSound system.rows cost point at → AreTrueAt system.rows point (goal_bounds cost at.levels.last.goal)
      → (number : ℕ) (clause : List Lit) → locally system at.levels number ≡ Some clause → Holds system.rows point clause
  local_hold at sound is_true number clause is =
      All-slice_get (Holds system.rows point) (local_clauses system at.levels) number clause is
      (All-append (Holds system.rows point) system.clauses (map (λ f. f.clause) (reverse (available at.levels))) fits.clauses_hold
      (All-map (Holds system.rows point) (λ f. f.clause) (reverse (available at.levels))
      (All_reverse (λ (f : Finished). Holds system.rows point f.clause) (available at.levels) (available_hold system cost point at sound is_true))))

  -- the goals of so many of the last levels are met
  abbrev AreMet : ℕ → Level → List Level → Type 0
  AreMet zero last enclosing = Unit {0}
  AreMet (suc n) last [] = Unit {0}
  AreMet (suc n) last (outer ∷ enclosing) = Meets system.rows cost point last.goal × AreMet n outer enclosing

  met_before : (number : ℕ) (clause : List Lit) (is_cut : Bool) (n : ℕ) (level : Level) (enclosing : List Level) → AreMet n (with_step number clause is_cut level) enclosing → AreMet n level enclosing
  met_before number clause is_cut zero level enclosing met = tt
  met_before number clause is_cut (suc n) level [] met = tt
  met_before number clause is_cut (suc n) level (outer ∷ enclosing) met = met

  met_closed : (next : ℕ) (last : Level) (enclosing : List Level) (base n : ℕ) → length enclosing ≡ n + base → base < length enclosing → Meets system.rows cost point last.goal
      → ((m : ℕ) → length (closed next last enclosing).levels.enclosing ≡ m + base → AreMet m (closed next last enclosing).levels.last (closed next last enclosing).levels.enclosing)
      → AreMet n last enclosing
  met_closed next last [] base n is less meets rest = absurd (omega (arith, less))
  met_closed next last (outer ∷ enclosing) base zero is less meets rest = tt
  met_closed next last (outer ∷ enclosing) base (suc n) is less meets rest =
      (meets, met_before next (cut_clause last.goal) true n outer enclosing (rest n (omega (arith, is))))

  module _ (portions : List Term) (finds base : ℕ) where
    stands_sound : (run : Run) (step : Step) → AreSound system.rows cost point run.at → StandsLocally system cost portions finds run step → AreSound system.rows cost point (after run.at step)
    stands_sound run step sound stands =
        passed_sound system cost point run.at step (locally system run.at.levels) fits sound (λ is_true. local_hold run.at sound is_true) stands.place stands.passes

    run_at : (run : Run) (step : Step) → (run_after run step).at ≡ after run.at step
    run_at run (Lemma clause hints) = refl
    run_at run (Theory clause tree) = refl
    run_at run (Enter term bound) = refl
    run_at run Leave = refl

    next_sound : (run : Run) (step : Step) → AreSound system.rows cost point run.at → StandsLocally system cost portions finds run step → AreSound system.rows cost point (run_after run step).at
    next_sound run step sound stands = subst (λ (at : Stage). AreSound system.rows cost point at) (sym (run_at run step)) (stands_sound run step sound stands)

    run_sound : (steps : List Step) (run : Run) → AllStand system cost portions finds base run steps → AreSound system.rows cost point run.at → AreSound system.rows cost point (run_to run steps).at
    run_sound [] run stand sound = sound
    run_sound (step ∷ steps) run stand sound = run_sound steps (run_after run step) stand.2 (next_sound run step sound stand.0)

    -- each level that is open beside so many is closed by the steps, so its goal is met
    are_met : (steps : List Step) (run : Run) (n : ℕ) → length run.at.levels.enclosing ≡ n + base → AllStand system cost portions finds base run steps → AreSound system.rows cost point run.at
        → length (run_to run steps).at.levels.enclosing ≡ base → AreMet n run.at.levels.last run.at.levels.enclosing
    are_met [] run zero is stand sound ends = tt
    are_met [] run (suc n) is stand sound ends = absurd (omega (arith, is, ends))
    are_met (Lemma clause hints ∷ steps) run n is stand sound ends =
        met_before run.at.next clause false n run.at.levels.last run.at.levels.enclosing
        (are_met steps (run_after run (Lemma clause hints)) n is stand.2 (next_sound run (Lemma clause hints) sound stand.0) ends)
    are_met (Theory clause tree ∷ steps) run n is stand sound ends =
        met_before run.at.next clause false n run.at.levels.last run.at.levels.enclosing
        (are_met steps (run_after run (Theory clause tree)) n is stand.2 (next_sound run (Theory clause tree) sound stand.0) ends)
    are_met (Enter term bound ∷ steps) run n is stand sound ends =
        let more : suc (length run.at.levels.enclosing) ≡ suc n + base = omega (arith, is) in
        (are_met steps (run_after run (Enter term bound)) (suc n) more stand.2 (next_sound run (Enter term bound) sound stand.0) ends).1
    are_met (Leave ∷ steps) run n is stand sound ends =
        met_closed run.at.next run.at.levels.last run.at.levels.enclosing base n is stand.1 (level_meets system cost point run.at.levels.last sound.last stand.0.place.0)
        (λ m same. are_met steps (run_after run Leave) m same stand.2 (next_sound run Leave sound stand.0) ends)

    -- the first of the steps is a cut's
    first_bound : (term : Term) (bound : ℤ) (steps : List Step) (run : Run) → base ≤ length run.at.levels.enclosing → AllStand system cost portions finds base run (Enter term bound ∷ steps)
        → AreSound system.rows cost point run.at → length (run_to run (Enter term bound ∷ steps)).at.levels.enclosing ≡ base → term_value system.rows point term ≤ℤ bound
    first_bound term bound steps run many stand sound ends =
        let n = length run.at.levels.enclosing - base in
        let is : suc (length run.at.levels.enclosing) ≡ suc n + base = omega (arith, many) in
        (are_met steps (run_after run (Enter term bound)) (suc n) is stand.2 (next_sound run (Enter term bound) sound stand.0) ends).0

    many_after : (run : Run) (step : Step) → base ≤ length run.at.levels.enclosing → IsInside base run.at step → base ≤ length (run_after run step).at.levels.enclosing
    many_after run (Lemma clause hints) many inside = many
    many_after run (Theory clause tree) many inside = many
    many_after run (Enter term bound) many inside = omega (arith, many)
    many_after run Leave many inside = closed_length run.at.next run.at.levels.last run.at.levels.enclosing base inside

    cut_bound : (term : Term) (bound : ℤ) (steps : List Step) (run : Run) (k : ℕ) → base ≤ length run.at.levels.enclosing → AllStand system cost portions finds base run steps
        → AreSound system.rows cost point run.at → length (run_to run steps).at.levels.enclosing ≡ base → k < length steps → get_or steps k (Enter term bound) ≡ Enter term bound
        → term_value system.rows point term ≤ℤ bound
    cut_bound term bound [] run k many stand sound ends within is = absurd (omega (arith, within))
    cut_bound term bound (step ∷ steps) run zero many stand sound ends within is =
        first_bound term bound steps run many (subst (λ (s : Step). AllStand system cost portions finds base run (s ∷ steps)) is stand) sound
        (subst (λ (s : Step). length (run_to run (s ∷ steps)).at.levels.enclosing ≡ base) is ends)
    cut_bound term bound (step ∷ steps) run (suc k) many stand sound ends within is =
        cut_bound term bound steps (run_after run step) k (many_after run step many stand.1) stand.2 (next_sound run step sound stand.0) ends (omega (arith, within)) is

  abbrev HasCut : Term → ℤ → List Step → Type 0
  HasCut term bound steps = Contains steps (Enter term bound)

  -- a cut of the steps, or of the levels behind them
  pub levels_bound : (portions : List Term) (finds : ℕ) (pending : List OpenNode) (term : Term) (bound : ℤ) (levels : List PartLevel) (base : ℕ) (run : Run) (steps : List Step)
      → length run.at.levels.enclosing ≡ base → AreSound system.rows cost point run.at → LevelsStand system cost portions finds base run steps levels pending
      → HasCut term bound steps ⊎ Any (λ level. HasCut term bound level.steps) levels → term_value system.rows point term ≤ℤ bound
  levels_bound portions finds pending term bound [] base run steps is sound stand where_is = elim where_is [
    | inl here ↦ cut_bound portions finds base term bound steps run here.0 (omega (arith, is)) stand.0.stand sound stand.0.closed here.1 here.2
    | inr there ↦ absurd (Any-none (λ (level : PartLevel). HasCut term bound level.steps) there)
  ]
  levels_bound portions finds pending term bound (level ∷ levels) base run steps is sound stand where_is = elim where_is [
    | inl here ↦ cut_bound portions finds base term bound steps run here.0 (omega (arith, is)) stand.0.stand sound stand.0.closed here.1 here.2
    | inr there ↦
        let ended = run_to run steps in
        levels_bound portions finds pending term bound levels (suc base) (run_after ended (Enter stand.1 stand.2)) level.steps (ap suc stand.0.closed)
        (next_sound portions finds base ended (Enter stand.1 stand.2) (run_sound portions finds base steps run stand.0.stand sound) stand.4) stand.5
        (Any-cons_cases (λ (l : PartLevel). HasCut term bound l.steps) level levels there)
  ]

  pub parts_bound : (portions : List Term) (finds : ℕ) (pending : List OpenNode) (term : Term) (bound : ℤ) (levels : List PartLevel) → PartsStand system cost portions finds levels pending
      → Any (λ level. HasCut term bound level.steps) levels → term_value system.rows point term ≤ℤ bound
  parts_bound portions finds pending term bound [] stand where_is = absurd stand
  parts_bound portions finds pending term bound (first ∷ levels) stand where_is =
      levels_bound portions finds pending term bound levels 0 (run_start system first.goal) first.steps refl (start_sound system cost point first.goal) stand.1
      (Any-cons_cases (λ (l : PartLevel). HasCut term bound l.steps) first levels where_is)

-- one more step

module _ (system : System) (cost : Term) (portions : List Term) (finds : ℕ) where
  run_more : (steps : List Step) (run : Run) (step : Step) → run_to run (steps ++ step ∷ []) ≡ run_after (run_to run steps) step
  run_more [] run step = refl
  run_more (first ∷ steps) run step = run_more steps (run_after run first) step

  stand_more : (base : ℕ) (steps : List Step) (run : Run) (step : Step) → AllStand system cost portions finds base run steps → StandsLocally system cost portions finds (run_to run steps) step
      → IsInside base (run_to run steps).at step → AllStand system cost portions finds base run (steps ++ step ∷ [])
  stand_more base [] run step stand more inside = (more, inside, tt)
  stand_more base (first ∷ steps) run step stand more inside = (stand.0, stand.1, stand_more base steps (run_after run first) step stand.2 more inside)

  closed_inside : (next : ℕ) (last : Level) (enclosing : List Level) (base : ℕ) → 0 < length enclosing → length (closed next last enclosing).levels.enclosing ≡ base → base < length enclosing
  closed_inside next last [] base some is = absurd (omega (arith, some))
  closed_inside next last (outer ∷ enclosing) base some is = omega (arith, is)

  inside_by : (at : Stage) (step : Step) (base : ℕ) → MayStand at step → length (after at step).levels.enclosing ≡ base → IsInside base at step
  inside_by at (Lemma clause hints) base place is = tt
  inside_by at (Theory clause tree) base place is = tt
  inside_by at (Enter term bound) base place is = tt
  inside_by at Leave base place is = closed_inside at.next at.levels.last at.levels.enclosing base place.1 is

  run_at_after : (run : Run) (step : Step) → (run_after run step).at ≡ after run.at step
  run_at_after run (Lemma clause hints) = refl
  run_at_after run (Theory clause tree) = refl
  run_at_after run (Enter term bound) = refl
  run_at_after run Leave = refl

  part_more : (base : ℕ) (steps : List Step) (run : Run) (step : Step) → IsPart system cost portions finds base run steps → StandsLocally system cost portions finds (run_to run steps) step
      → length (after (run_to run steps).at step).levels.enclosing ≡ base → has_ended (after (run_to run steps).at step) ≡ false → IsPart system cost portions finds base run (steps ++ step ∷ [])
  part_more base steps run step part more is goes_on =
      let same : (run_to run (steps ++ step ∷ [])).at ≡ after (run_to run steps).at step = ap (λ (r : Run). r.at) (run_more steps run step) ∙ run_at_after (run_to run steps) step in
      record {
        stand = stand_more base steps run step part.stand more (inside_by (run_to run steps).at step base more.place is);
        closed = ap (λ (at : Stage). length at.levels.enclosing) same ∙ is;
        goes_on = ap has_ended same ∙ goes_on;
      }

  pub levels_more : (pending : List OpenNode) (step : Step) (levels : List PartLevel) (base : ℕ) (run : Run) (steps : List Step) → LevelsStand system cost portions finds base run steps levels pending
      → StandsLocally system cost portions finds (run_on (run_to run steps) levels) step → length (after (run_on (run_to run steps) levels).at step).levels.enclosing ≡ length levels + base
      → has_ended (after (run_on (run_to run steps) levels).at step) ≡ false
      → LevelsStand system cost portions finds base run (steps_with steps levels step) (levels_with levels step) (Pending ∷ [])
  levels_more pending step [] base run steps stand more is goes_on =
      let same : length (after (run_to run steps).at step).levels.enclosing ≡ base = omega (arith, is) in
      (part_more base steps run step stand.0 more same goes_on, inl refl)
  levels_more pending step (level ∷ levels) base run steps stand more is goes_on =
      let ended = run_to run steps in
      let opened : run_opened ended level.goal ≡ run_after ended (Enter stand.1 stand.2) = ap (run_opened ended) stand.3 in
      let stands = subst (λ (r : Run). StandsLocally system cost portions finds (run_on (run_to r level.steps) levels) step) opened more in
      let count = subst (λ (r : Run). length (after (run_on (run_to r level.steps) levels).at step).levels.enclosing ≡ suc (length levels) + base) opened is in
      let goes = subst (λ (r : Run). has_ended (after (run_on (run_to r level.steps) levels).at step) ≡ false) opened goes_on in (
        stand.0,
        stand.1,
        stand.2,
        stand.3,
        stand.4,
        levels_more pending step levels (suc base) (run_after ended (Enter stand.1 stand.2)) level.steps stand.5 stands (omega (arith, count)) goes,
      )

  pub parts_more : (pending : List OpenNode) (step : Step) (levels : List PartLevel) → PartsStand system cost portions finds levels pending
      → StandsLocally system cost portions finds (run_of system levels) step → suc (length (after (run_of system levels).at step).levels.enclosing) ≡ length levels
      → has_ended (after (run_of system levels).at step) ≡ false → PartsStand system cost portions finds (levels_with levels step) (Pending ∷ [])
  parts_more pending step [] stand more is goes_on = absurd stand
  parts_more pending step (first ∷ levels) stand more is goes_on =
      (stand.0, levels_more pending step levels 0 (run_start system first.goal) first.steps stand.1 more (omega (arith, is)) goes_on)

-- a level that is closed

-- the goal of the level behind so many of the last
abbrev GoalAt : ℕ → Goal → Level → List Level → Type 0
GoalAt zero goal last enclosing = last.goal ≡ goal
GoalAt (suc n) goal last [] = ⊥
GoalAt (suc n) goal last (outer ∷ enclosing) = GoalAt n goal outer enclosing

goal_after : (goal : Goal) (number : ℕ) (clause : List Lit) (is_cut : Bool) (n : ℕ) (level : Level) (enclosing : List Level) → GoalAt n goal level enclosing → GoalAt n goal (with_step number clause is_cut level) enclosing
goal_after goal number clause is_cut zero level enclosing is = is
goal_after goal number clause is_cut (suc n) level [] is = is
goal_after goal number clause is_cut (suc n) level (outer ∷ enclosing) is = is

goal_closed : (goal : Goal) (next : ℕ) (last : Level) (enclosing : List Level) (base n : ℕ) → length enclosing ≡ n + base → base < length enclosing → GoalAt n goal last enclosing
    → (m : ℕ) × (length (closed next last enclosing).levels.enclosing ≡ m + base) × GoalAt m goal (closed next last enclosing).levels.last (closed next last enclosing).levels.enclosing
goal_closed goal next last [] base n is less at = absurd (omega (arith, less))
goal_closed goal next last (outer ∷ enclosing) base zero is less at = absurd (omega (arith, is, less))
goal_closed goal next last (outer ∷ enclosing) base (suc n) is less at = (n, omega (arith, is), goal_after goal next (cut_clause last.goal) true n outer enclosing at)

closes_to_base : (next : ℕ) (last : Level) (enclosing : List Level) (base : ℕ) → length enclosing ≡ suc base → length (closed next last enclosing).levels.enclosing ≡ base
closes_to_base next last [] base is = absurd (omega (arith, is))
closes_to_base next last (outer ∷ enclosing) base is = omega (arith, is)

closes_going_on : (term : Term) (bound : ℤ) (next : ℕ) (last : Level) (enclosing : List Level) (base : ℕ) → length enclosing ≡ suc base → last.goal ≡ Below term bound → has_ended (closed next last enclosing) ≡ false
closes_going_on term bound next last [] base is goal_is = absurd (omega (arith, is))
closes_going_on term bound next last (outer ∷ enclosing) base is goal_is = ap (λ (g : Goal). is_empty (cut_clause g)) goal_is

module _ (system : System) (cost : Term) (portions : List Term) (finds : ℕ) where
  goal_kept : (goal : Goal) (base : ℕ) (steps : List Step) (run : Run) (n : ℕ) → length run.at.levels.enclosing ≡ n + base → AllStand system cost portions finds base run steps
      → GoalAt n goal run.at.levels.last run.at.levels.enclosing → length (run_to run steps).at.levels.enclosing ≡ base → (run_to run steps).at.levels.last.goal ≡ goal
  goal_kept goal base [] run zero is stand at ends = at
  goal_kept goal base [] run (suc n) is stand at ends = absurd (omega (arith, is, ends))
  goal_kept goal base (Lemma clause hints ∷ steps) run n is stand at ends =
      goal_kept goal base steps (run_after run (Lemma clause hints)) n is stand.2 (goal_after goal run.at.next clause false n run.at.levels.last run.at.levels.enclosing at) ends
  goal_kept goal base (Theory clause tree ∷ steps) run n is stand at ends =
      goal_kept goal base steps (run_after run (Theory clause tree)) n is stand.2 (goal_after goal run.at.next clause false n run.at.levels.last run.at.levels.enclosing at) ends
  goal_kept goal base (Enter term bound ∷ steps) run n is stand at ends =
      let more : suc (length run.at.levels.enclosing) ≡ suc n + base = omega (arith, is) in
      goal_kept goal base steps (run_after run (Enter term bound)) (suc n) more stand.2 at ends
  goal_kept goal base (Leave ∷ steps) run n is stand at ends =
      let behind = goal_closed goal run.at.next run.at.levels.last run.at.levels.enclosing base n is stand.1 at in
      goal_kept goal base steps (run_after run Leave) behind.0 behind.1 stand.2 behind.2 ends

  inside_less : (base : ℕ) (at : Stage) (step : Step) → IsInside (suc base) at step → IsInside base at step
  inside_less base at (Lemma clause hints) inside = tt
  inside_less base at (Theory clause tree) inside = tt
  inside_less base at (Enter term bound) inside = tt
  inside_less base at Leave inside = omega (arith, inside)

  stand_less : (base : ℕ) (steps : List Step) (run : Run) → AllStand system cost portions finds (suc base) run steps → AllStand system cost portions finds base run steps
  stand_less base [] run stand = tt
  stand_less base (step ∷ steps) run stand = (stand.0, inside_less base run.at step stand.1, stand_less base steps (run_after run step) stand.2)

  stand_both : (base : ℕ) (steps more : List Step) (run : Run) → AllStand system cost portions finds base run steps → AllStand system cost portions finds base (run_to run steps) more
      → AllStand system cost portions finds base run (steps ++ more)
  stand_both base [] more run stand behind = behind
  stand_both base (step ∷ steps) more run stand behind = (stand.0, stand.1, stand_both base steps more (run_after run step) stand.2 behind)

  run_both : (steps more : List Step) (run : Run) → run_to run (steps ++ more) ≡ run_to (run_to run steps) more
  run_both [] more run = refl
  run_both (step ∷ steps) more run = run_both steps more (run_after run step)

  module _ (base : ℕ) (run : Run) (outer inner : List Step) (term : Term) (bound : ℤ) (last : Step)
      (part : IsPart system cost portions finds base run outer) (opens : StandsLocally system cost portions finds (run_to run outer) (Enter term bound)) where
    abbrev begun : Run
    begun = run_after (run_to run outer) (Enter term bound)

    abbrev worked : Run
    worked = run_to begun inner

    module _ (within : IsPart system cost portions finds (suc base) begun inner) (stands : StandsLocally system cost portions finds worked last)
        (count : length (after worked.at last).levels.enclosing ≡ suc base) (ended : has_ended (after worked.at last) ≡ true) where
      last_at : (run_after worked last).at ≡ after worked.at last
      last_at = run_at_after system cost portions finds worked last

      last_count : length (run_after worked last).at.levels.enclosing ≡ suc base
      last_count = ap (λ (at : Stage). length at.levels.enclosing) last_at ∙ count

      last_ended : has_ended (run_after worked last).at ≡ true
      last_ended = ap has_ended last_at ∙ ended

      last_inside : IsInside (suc base) worked.at last
      last_inside = inside_by system cost portions finds worked.at last (suc base) stands.place count

      leaves : StandsLocally system cost portions finds (run_after worked last) Leave
      leaves = record {
        place = (last_ended, omega (arith, last_count));
        passes = record { names = tt; numbers = All-nil StaysWithin; shows = tt };
        wanted = tt;
      }

      level_goal : (run_after worked last).at.levels.last.goal ≡ Below term bound
      level_goal =
          let first : length begun.at.levels.enclosing ≡ 0 + suc base = omega (arith, ap suc part.closed) in
          let behind : length worked.at.levels.enclosing ≡ 0 + suc base = omega (arith, within.closed) in
          let here = goal_kept (Below term bound) (suc base) inner begun 0 first within.stand refl within.closed in
          goal_kept (Below term bound) (suc base) (last ∷ []) worked 0 behind (stands, last_inside, tt) here last_count

      all_stand : AllStand system cost portions finds base run (closed_steps outer term bound inner last)
      all_stand =
          stand_both base outer (Enter term bound ∷ (inner ++ (last ∷ Leave ∷ []))) run part.stand (
            opens,
            tt,
            stand_both base inner (last ∷ Leave ∷ []) begun (stand_less base inner begun within.stand)
                (stands, inside_less base worked.at last last_inside, (leaves, omega (arith, last_count), tt)),
          )

      run_is : run_to run (closed_steps outer term bound inner last) ≡ run_after (run_after worked last) Leave
      run_is = run_both outer (Enter term bound ∷ (inner ++ (last ∷ Leave ∷ []))) run ∙ run_both inner (last ∷ Leave ∷ []) begun

      pub closed_part : IsPart system cost portions finds base run (closed_steps outer term bound inner last)
      closed_part =
          let at = (run_after worked last).at in
          record {
            stand = all_stand;
            closed = ap (λ (r : Run). length r.at.levels.enclosing) run_is ∙ closes_to_base at.next at.levels.last at.levels.enclosing base last_count;
            goes_on = ap (λ (r : Run). has_ended r.at) run_is ∙ closes_going_on term bound at.next at.levels.last at.levels.enclosing base last_count level_goal;
          }

pub goal_is_below : (term other : Term) (bound bound' : ℤ) → Below term bound ≡ Below other bound' → (term ≡ other) × (bound ≡ bound')
goal_is_below term other bound bound' is = (cc is, cc is)
