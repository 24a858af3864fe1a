-- What is kept stays so as the search, the clauses, the cuts and the goal change.
use Rattle.std.proofs.Common.{◌≡◌, ◌⊎◌, ℕ, ◌+◌, ◌<◌, List, [], ◌∷◌, ◌++◌, length, map, get_or, Option, Some, None, Result, Ok, Err, IfOk, OnOk, OnErr, IfSome, ℤ, pos, ◌↔◌, refl, sym, ◌∙◌, ap, subst, inl, inr, ⊎_elim, arith, All, append_assoc}
use Rattle.std.specs.Prelude.{Any, slice_get}
use Rattle.std.specs.Option.{option_to_list}
use Rattle.std.proofs.lemmas.Int.{ints}
use Rattle.std.proofs.lemmas.Option.{slice_get_within, get_or_from_slice_get}
use Rattle.std.proofs.lemmas.List.{map-append, append-nil}
use Rattle.std.proofs.lemmas.List.Elements.{All-nil, All-cons, All-push, filter_map-append}
use Rattle.mix_system.specs.declared.literal.Term.TheVariants.{Var}
use Rattle.mix_system.specs.declared.literal.Lit.{Lit}
use Rattle.mix_system.specs.Lit.{IsWithin, atom}
use Rattle.mix_system.specs.Calm.{IsSmall}
use Rattle.mix_system.specs.System.{System, IsInner, Exists, IsClause, IsWellFormed}
use Rattle.mix_system.specs.Bounds.{Entails, IsIn, only_literal, range_bounds, range_end, unit_bounds}
use Rattle.mix_system.proofs.SizeLaws.{above_negated_size, below_size}
use Rattle.mix_system.proofs.BoundLaws.{IsIn-none, IsIn-here, IsIn-first, IsIn-cons_cases, IsIn-append_left, IsIn-append_right, IsIn-append_cases, IsIn-range_bounds, range_bounds_say, Entails_trans}
use Rattle.mix_system.proofs.FollowLaws.{SayTheSame}
use Rattle.bound_trail.specs.Trail.{Trail}
use Rattle.bound_trail.proofs.AnywhereLaws.{any_at}
use Rattle.clause_search.specs.Search.{Search}
use Rattle.proof_term.specs.declared.step.Step.{Step}
use Rattle.level_steps.specs.Level.{Level, clause_of, cut_clauses, available, box_of}
use Rattle.level_steps.specs.Steps.{IsStepOn, AreSteps}
use Rattle.level_steps.specs.Plain.{IsNamed, IsPlain}
use Rattle.level_steps.specs.Raised.{MayRaise}
use Rattle.level_steps.proofs.MoreLaws.{steps_go_on}
use Rattle.level_steps.proofs.RaiseLaws.{steps_stay_valid}
use Rattle.level_search.specs.declared.level.LevelSearch.{LevelSearch}
use Rattle.level_search.specs.Local.{IsNumber, AreNumbered}
use Rattle.level_search.specs.Kept.{level_of, IsAllowed, IsOverLevel, IsGoal, IsKept}
use Rattle.level_search.proofs.LocalLaws.{same_box, unit_cases, get_last, is_number_more, numbered_more}
use Rattle.level_search.proofs.AllowedLaws.{over_added, named_are_allowed, set_is_allowed}

-- what an answer that isn't want of memory gives
pub on_ok : {T E : Type 0} (r : Result T E) (P : T → Type 0) (Q : Type 0) → ((x : T) → P x → Q) → IfOk r P → OnOk r Q
on_ok (Ok x) P Q f p = f x p
on_ok (Err e) P Q f p = tt

-- what an answer gives, also that of want of memory
pub in_either : {T E : Type 0} (r : Result T E) (P : T → Type 0) (Q R : Type 0) → ((x : T) → P x → R) → (Q → R) → IfOk r P → OnErr r Q → R
in_either (Ok x) P Q R f g p q = f x p
in_either (Err e) P Q R f g p q = g q

pub if_ok : {T E : Type 0} (r : Result T E) (P Q : T → Type 0) → ((x : T) → P x → Q x) → IfOk r P → IfOk r Q
if_ok (Ok x) P Q f p = f x p
if_ok (Err e) P Q f p = tt

pub ok_more : {T E : Type 0} (r : Result T E) (P Q : Type 0) → (P → Q) → OnOk r P → OnOk r Q
ok_more (Ok x) P Q f p = f p
ok_more (Err e) P Q f p = tt

pub ok_both : {T E : Type 0} (r : Result T E) (P Q : Type 0) → OnOk r P → OnOk r Q → OnOk r (P × Q)
ok_both (Ok x) P Q p q = (p, q)
ok_both (Err e) P Q p q = tt

pub small_is_inner : (bound : ℤ) → IsSmall bound → IsInner bound
small_is_inner bound small = record {
  above_least = omega (arith, ints, above_negated_size bound, small);
  below_greatest = omega (arith, ints, below_size bound, small);
}

pub single_is_clause : (vars rows : ℕ) (lit : Lit) → Exists vars rows lit.term → IsSmall lit.bound → IsClause vars rows (lit ∷ [])
single_is_clause vars rows lit exists small = record {
  known = All-cons (λ (l : Lit). Exists vars rows l.term) lit [] exists (All-nil (λ (l : Lit). Exists vars rows l.term));
  distinct = λ i j d before within. absurd (omega arith);
  inner = All-cons (λ (l : Lit). IsInner l.bound) lit [] (small_is_inner lit.bound small) (All-nil (λ (l : Lit). IsInner l.bound));
}

-- another trail over the same store
pub kept_with : (it : LevelSearch) (search : Search) → search.store ≡ it.search.store → IsOverLevel it.system.now search → IsKept it → IsKept (record it { search = search })
kept_with it search same over kept = record {
  formed = kept.formed;
  over = over;
  valid = kept.valid;
  plain = kept.plain;
  numbered = subst (λ (store : List (List Lit)). AreNumbered store (available (level_of it) it.steps.items) it.goal it.numbers.items) (sym same) kept.numbered;
  singles = kept.singles ∙ ap unit_bounds (sym same);
  goal_is = kept.goal_is;
}

same_numbered : {store other available more : List (List Lit)} {goal same : Option Lit} {numbers all : List (Option ℕ)}
    → store ≡ other → available ≡ more → goal ≡ same → numbers ≡ all → AreNumbered store available goal numbers → AreNumbered other more same all
same_numbered stores clauses goals numbers numbered = subst (λ (t : Type 0). t) (λ i. AreNumbered (stores i) (clauses i) (goals i) (numbers i)) numbered

singles_more : (old new : List Lit) (store before : List (List Lit)) (clause : List Lit) → old ≡ unit_bounds before → new ≡ old ++ unit_bounds (clause ∷ []) → store ≡ before ++ clause ∷ []
    → new ≡ unit_bounds store
singles_more old new store before clause was is grown =
    is ∙ ap (λ (xs : List Lit). xs ++ unit_bounds (clause ∷ [])) was ∙ sym (filter_map-append only_literal before (clause ∷ [])) ∙ ap unit_bounds (sym grown)

-- the available clauses after one more step, and after one more cut
available_step : (level : Level) (steps : List Step) (step : Step) → available level (steps ++ step ∷ []) ≡ available level steps ++ clause_of step ∷ []
available_step level steps step =
    let front = level.system.clauses ++ cut_clauses level.cuts in
    ap (λ (cs : List (List Lit)). front ++ cs) (map-append clause_of steps (step ∷ [])) ∙ sym (append_assoc front (map clause_of steps) (clause_of step ∷ []))

available_cut : (level : Level) (cut : Lit) → available (record level { cuts = level.cuts ++ cut ∷ [] }) [] ≡ available level [] ++ (cut ∷ []) ∷ []
available_cut level cut =
    let clauses = level.system.clauses in
    let cuts = cut_clauses level.cuts in
    append-nil (clauses ++ cut_clauses (level.cuts ++ cut ∷ []))
    ∙ ap (λ (cs : List (List Lit)). clauses ++ cs) (map-append (λ (c : Lit). c ∷ []) level.cuts (cut ∷ []))
    ∙ sym (append_assoc clauses cuts ((cut ∷ []) ∷ []))
    ∙ ap (λ (cs : List (List Lit)). cs ++ (cut ∷ []) ∷ []) (sym (append-nil (clauses ++ cuts)))

pub level_same : (old new : LevelSearch) → new.system ≡ old.system → new.cuts.items ≡ old.cuts.items → new.goal ≡ old.goal → level_of new ≡ level_of old
level_same old new system cuts goal = λ i. record { system = (system i).now; cuts = cuts i; goal = goal i }

goal_stays : (old new : LevelSearch) → new.system ≡ old.system → new.goal ≡ old.goal → IfSome old.goal (IsGoal old.system.now) → IfSome new.goal (IsGoal new.system.now)
goal_stays old new system goal is = subst (λ s. IfSome new.goal (IsGoal s.now)) (sym system) (subst (λ (g : Option Lit). IfSome g (IsGoal old.system.now)) (sym goal) is)

-- a valid step was logged, and its clause stands in the store with the next number
pub kept_logged : (old new : LevelSearch) (step : Step) (lits : List Lit) (number : ℕ)
    → new.system ≡ old.system → new.cuts.items ≡ old.cuts.items → new.goal ≡ old.goal → new.steps.items ≡ old.steps.items ++ step ∷ []
    → new.numbers.items ≡ old.numbers.items ++ Some number ∷ [] → new.singles.items ≡ old.singles.items ++ unit_bounds (lits ∷ [])
    → new.search ≡ record old.search { store = old.search.store ++ lits ∷ [] }
    → number ≡ length (available (level_of old) old.steps.items) → clause_of step ≡ lits
    → IsStepOn (level_of old) old.steps.items step → IsPlain old.system.now step → All (IsNamed old.system.now) lits → IsKept old → IsKept new
kept_logged old new step lits number system cuts goal steps numbers singles search number_is clause on plain named kept =
    let level = level_same old new system cuts goal in
    let store : new.search.store ≡ old.search.store ++ lits ∷ [] = ap (λ (s : Search). s.store) search in
    let more : available (level_of new) new.steps.items ≡ available (level_of old) old.steps.items ++ lits ∷ [] =
    (λ i. available (level i) (steps i)) ∙ available_step (level_of old) old.steps.items step ∙ ap (λ (c : List Lit). available (level_of old) old.steps.items ++ c ∷ []) clause in
    let last : IsNumber (available (level_of old) old.steps.items ++ lits ∷ []) old.goal lits (Some number) =
    ap (λ n. slice_get (available (level_of old) old.steps.items ++ lits ∷ []) n) number_is ∙ get_last (available (level_of old) old.steps.items) lits in
    let numbered = numbered_more old.search.store (available (level_of old) old.steps.items) (lits ∷ []) old.goal old.goal old.numbers.items lits (Some number)
    (λ lit within. within) last (λ lit within. within) (λ lit within. inl within) kept.numbered in
    record {
      formed = subst (λ s. IsWellFormed s.now) (sym system) kept.formed;
      over = subst (λ s. IsOverLevel s.now new.search) (sym system)
          (over_added old.system.now old.search new.search lits search (named_are_allowed old.system.now (old.search.store ++ lits ∷ []) lits named) kept.over);
      valid = subst (λ (l : Level). AreSteps l new.steps.items) (sym level) (subst (AreSteps (level_of old)) (sym steps) (steps_go_on (level_of old) old.steps.items step kept.valid on));
      plain = subst (λ s. All (IsPlain s.now) new.steps.items) (sym system) (subst (All (IsPlain old.system.now)) (sym steps) (All-push (IsPlain old.system.now) old.steps.items step kept.plain plain));
      numbered = same_numbered (sym store) (sym more) (sym goal) (sym numbers) numbered;
      singles = singles_more old.singles.items new.singles.items new.search.store old.search.store lits kept.singles singles store;
      goal_is = goal_stays old new system goal kept.goal_is;
    }

-- a cut was added before any step
pub kept_cut : (old new : LevelSearch) (cut : Lit) (number : ℕ)
    → new.system ≡ old.system → new.cuts.items ≡ old.cuts.items ++ cut ∷ [] → new.goal ≡ old.goal → new.steps.items ≡ old.steps.items
    → new.numbers.items ≡ old.numbers.items ++ Some number ∷ [] → new.singles.items ≡ old.singles.items ++ unit_bounds ((cut ∷ []) ∷ [])
    → new.search ≡ record old.search { store = old.search.store ++ (cut ∷ []) ∷ [] }
    → number ≡ length (available (level_of old) old.steps.items) → IsSmall cut.bound → old.steps.items ≡ [] → IsKept old → IsKept new
kept_cut old new cut number system cuts goal steps numbers singles search number_is small none kept =
    let level : level_of new ≡ record (level_of old) { cuts = (level_of old).cuts ++ cut ∷ [] } = λ i. record { system = (system i).now; cuts = cuts i; goal = goal i } in
    let no_steps : new.steps.items ≡ [] = steps ∙ none in
    let store : new.search.store ≡ old.search.store ++ (cut ∷ []) ∷ [] = ap (λ (s : Search). s.store) search in
    let front = available (level_of old) old.steps.items in
    let more : available (level_of new) new.steps.items ≡ front ++ (cut ∷ []) ∷ [] =
    (λ i. available (level i) (no_steps i)) ∙ available_cut (level_of old) cut ∙ ap (λ (ss : List Step). available (level_of old) ss ++ (cut ∷ []) ∷ []) (sym none) in
    let last : IsNumber (front ++ (cut ∷ []) ∷ []) old.goal (cut ∷ []) (Some number) = ap (λ n. slice_get (front ++ (cut ∷ []) ∷ []) n) number_is ∙ get_last front (cut ∷ []) in
    let numbered = numbered_more old.search.store front ((cut ∷ []) ∷ []) old.goal old.goal old.numbers.items (cut ∷ []) (Some number)
    (λ lit within. within) last (λ lit within. within) (λ lit within. inl within) kept.numbered in
    record {
      formed = subst (λ s. IsWellFormed s.now) (sym system) kept.formed;
      over = subst (λ s. IsOverLevel s.now new.search) (sym system)
          (over_added old.system.now old.search new.search (cut ∷ []) search (set_is_allowed old.system.now old.search.store cut small) kept.over);
      valid = subst (AreSteps (level_of new)) (sym no_steps) (λ at within d. absurd (omega arith));
      plain = subst (All (IsPlain new.system.now)) (sym no_steps) (All-nil (IsPlain new.system.now));
      numbered = same_numbered (sym store) (sym more) (sym goal) (sym numbers) numbered;
      singles = singles_more old.singles.items new.singles.items new.search.store old.search.store (cut ∷ []) kept.singles singles store;
      goal_is = goal_stays old new system goal kept.goal_is;
    }

-- Goals

stronger_goal : (old : Option Lit) (goal : Lit) → IfSome old (λ before. Entails goal before) → (lit : Lit) → IsIn (option_to_list old) lit → IsIn (goal ∷ []) lit
stronger_goal None goal stronger lit within = absurd (IsIn-none lit within)
stronger_goal (Some before) goal stronger lit within =
    ⊎_elim (λ entails. IsIn-first goal [] lit (Entails_trans goal before lit stronger entails)) (λ none. absurd (IsIn-none lit none)) (IsIn-cons_cases before [] lit within)

none_before : (old : Option Lit) (goal : Lit) → old ≡ None → IfSome old (λ before. Entails goal before)
none_before old goal is = subst (λ (o : Option Lit). IfSome o (λ before. Entails goal before)) (sym is) tt

valid_under : (it : LevelSearch) (goal : Lit) → MayRaise (level_of it) goal ⊎ ((it.goal ≡ None) × (it.steps.items ≡ [])) → IsKept it → AreSteps (record (level_of it) { goal = Some goal }) it.steps.items
valid_under it goal may kept =
    ⊎_elim (λ raise. steps_stay_valid (level_of it) goal raise it.steps.items kept.valid kept.plain)
    (λ first. subst (AreSteps (record (level_of it) { goal = Some goal })) (sym first.1) (λ at within d. absurd (omega arith))) may

says_more : (it : LevelSearch) (goal : Lit) → MayRaise (level_of it) goal ⊎ ((it.goal ≡ None) × (it.steps.items ≡ [])) → IfSome it.goal (λ before. Entails goal before)
says_more it goal may = ⊎_elim (λ raise. raise.stronger) (λ first. none_before it.goal goal first.0) may

-- a goal was set
pub kept_goal : (old new : LevelSearch) (goal : Lit)
    → new.system ≡ old.system → new.cuts.items ≡ old.cuts.items → new.goal ≡ Some goal → new.steps.items ≡ old.steps.items
    → new.numbers.items ≡ old.numbers.items ++ None ∷ [] → new.singles.items ≡ old.singles.items ++ unit_bounds ((goal ∷ []) ∷ [])
    → new.search ≡ record old.search { store = old.search.store ++ (goal ∷ []) ∷ [] }
    → IsGoal old.system.now goal → MayRaise (level_of old) goal ⊎ ((old.goal ≡ None) × (old.steps.items ≡ [])) → IsKept old → IsKept new
kept_goal old new goal system cuts goal_is steps numbers singles search goal_ok may kept =
    let level : level_of new ≡ record (level_of old) { goal = Some goal } = λ i. record { system = (system i).now; cuts = cuts i; goal = goal_is i } in
    let store : new.search.store ≡ old.search.store ++ (goal ∷ []) ∷ [] = ap (λ (s : Search). s.store) search in
    let front = available (level_of old) old.steps.items in
    let more : available (level_of new) new.steps.items ≡ front ++ [] = (λ i. available (level i) (steps i)) ∙ sym (append-nil front) in
    let here : IsNumber (front ++ []) (Some goal) (goal ∷ []) None = (goal, refl, IsIn-here goal []) in
    let numbered = numbered_more old.search.store front [] old.goal (Some goal) old.numbers.items (goal ∷ []) None
    (stronger_goal old.goal goal (says_more old goal may)) here (λ lit within. absurd (IsIn-none lit within)) (λ lit within. inr within) kept.numbered in
    record {
      formed = subst (λ s. IsWellFormed s.now) (sym system) kept.formed;
      over = subst (λ s. IsOverLevel s.now new.search) (sym system)
          (over_added old.system.now old.search new.search (goal ∷ []) search (set_is_allowed old.system.now old.search.store goal goal_ok.small) kept.over);
      valid = subst (λ (l : Level). AreSteps l new.steps.items) (sym level) (subst (AreSteps (record (level_of old) { goal = Some goal })) (sym steps) (valid_under old goal may kept));
      plain = subst (λ s. All (IsPlain s.now) new.steps.items) (sym system) (subst (All (IsPlain old.system.now)) (sym steps) kept.plain);
      numbered = same_numbered (sym store) (sym more) (sym goal_is) (sym numbers) numbered;
      singles = singles_more old.singles.items new.singles.items new.search.store old.search.store (goal ∷ []) kept.singles singles store;
      goal_is = subst (λ (g : Option Lit). IfSome g (IsGoal new.system.now)) (sym goal_is) (subst (λ s. IsGoal s.now goal) (sym system) goal_ok);
    }

-- The empty clause

numbered_empty : (store available : List (List Lit)) (goal : Option Lit) (numbers : List (Option ℕ)) → AreNumbered store available goal numbers → AreNumbered store (available ++ [] ∷ []) goal numbers
numbered_empty store available goal numbers numbered = record {
  one_each = numbered.one_each;
  each = λ at clause is. is_number_more available ([] ∷ []) goal goal clause (get_or numbers at None) (λ lit within. within) (numbered.each at clause is);
  units = λ lit within. ⊎_elim (numbered.units lit) (λ none. absurd (IsIn-none lit none)) (unit_cases available ([] ∷ []) lit within);
  goal_too = numbered.goal_too;
}

pub empty_is_clause : (vars rows : ℕ) → IsClause vars rows []
empty_is_clause vars rows = record {
  known = All-nil (λ (l : Lit). Exists vars rows l.term);
  distinct = λ i j d before within. absurd (omega arith);
  inner = All-nil (λ (l : Lit). IsInner l.bound);
}

-- a valid step was logged whose clause is empty; it isn't added to the store
pub kept_ended : (it new : LevelSearch) (step : Step) → new.system ≡ it.system → new.cuts ≡ it.cuts → new.goal ≡ it.goal → new.search ≡ it.search → new.numbers ≡ it.numbers → new.singles ≡ it.singles
    → new.steps.items ≡ it.steps.items ++ step ∷ [] → clause_of step ≡ [] → IsStepOn (level_of it) it.steps.items step → IsPlain it.system.now step → IsKept it → IsKept new
kept_ended it new step system cuts goal search numbers singles steps empty on plain kept =
    let level : level_of new ≡ level_of it = λ i. record { system = (system i).now; cuts = (cuts i).items; goal = goal i } in
    let more : available (level_of new) new.steps.items ≡ available (level_of it) it.steps.items ++ [] ∷ [] =
    (λ i. available (level i) (steps i)) ∙ available_step (level_of it) it.steps.items step ∙ ap (λ (c : List Lit). available (level_of it) it.steps.items ++ c ∷ []) empty in
    let numbered = numbered_empty it.search.store (available (level_of it) it.steps.items) it.goal it.numbers.items kept.numbered in
    record {
      formed = subst (λ s. IsWellFormed s.now) (sym system) kept.formed;
      over = subst (λ s. IsOverLevel s.now new.search) (sym system) (subst (IsOverLevel it.system.now) (sym search) kept.over);
      valid = subst (λ (l : Level). AreSteps l new.steps.items) (sym level) (subst (AreSteps (level_of it)) (sym steps) (steps_go_on (level_of it) it.steps.items step kept.valid on));
      plain = subst (λ s. All (IsPlain s.now) new.steps.items) (sym system) (subst (All (IsPlain it.system.now)) (sym steps) (All-push (IsPlain it.system.now) it.steps.items step kept.plain plain));
      numbered = same_numbered (ap (λ (s : Search). s.store) (sym search)) (sym more) (sym goal) (ap (λ ns. ns.items) (sym numbers)) numbered;
      singles = ap (λ xs. xs.items) singles ∙ kept.singles ∙ ap (λ (s : Search). unit_bounds s.store) (sym search);
      goal_is = goal_stays it new system goal kept.goal_is;
    }

-- The first level

numbered_first : (clauses : List (List Lit)) (numbers : List (Option ℕ)) → length numbers ≡ length clauses → ((at : ℕ) → at < length clauses → get_or numbers at None ≡ Some at)
    → AreNumbered clauses (clauses ++ [] ++ []) None numbers
numbered_first clauses numbers count each = record {
  one_each = count;
  each = λ at clause is. let within = slice_get_within clauses at clause is in
      subst (λ (n : Option ℕ). IsNumber (clauses ++ [] ++ []) None clause n) (sym (each at within)) (subst (λ (cs : List (List Lit)). slice_get cs at ≡ Some clause) (sym same) is);
  units = λ lit within. subst (λ (cs : List (List Lit)). IsIn (unit_bounds cs) lit) same within;
  goal_too = λ lit within. absurd (IsIn-none lit within);
}
  where
    same : clauses ++ [] ++ [] ≡ clauses
    same = append-nil (clauses ++ []) ∙ append-nil clauses

all_named : (system : System) (store : List (List Lit)) → store ≡ system.clauses → All (All (IsAllowed system store)) store
all_named system store is = subst (λ (s : List (List Lit)). All (All (IsAllowed system s)) s) (sym is)
    (λ k d within at e inside. inl (any_at (λ (clause : List Lit). Any (λ (l : Lit). atom l ≡ atom (get_or (get_or system.clauses k d) at e)) clause) system.clauses k d within
    (any_at (λ (l : Lit). atom l ≡ atom (get_or (get_or system.clauses k d) at e)) (get_or system.clauses k d) at e inside refl)))

pub kept_first : (it : LevelSearch) → IsWellFormed it.system.now → it.goal ≡ None → it.cuts.items ≡ [] → it.steps.items ≡ [] → it.search.store ≡ it.system.now.clauses
    → it.search.trail ≡ record { ranges = it.system.now.ranges; rows = length it.system.now.rows; lits = []; levels = [] }
    → length it.numbers.items ≡ length it.system.now.clauses → ((at : ℕ) → at < length it.system.now.clauses → get_or it.numbers.items at None ≡ Some at)
    → it.singles.items ≡ unit_bounds it.system.now.clauses → IsKept it
kept_first it formed goal cuts steps store trail count each singles = record {
  formed = formed;
  over = record {
    ranges = ap (λ (t : Trail). t.ranges) trail;
    rows = ap (λ (t : Trail). t.rows) trail;
    stored = all_named it.system.now it.search.store store;
    put = subst (All (IsAllowed it.system.now it.search.store)) (sym (ap (λ (t : Trail). t.lits) trail)) (All-nil (IsAllowed it.system.now it.search.store));
  };
  valid = subst (AreSteps (level_of it)) (sym steps) (λ at within d. absurd (omega arith));
  plain = subst (All (IsPlain it.system.now)) (sym steps) (All-nil (IsPlain it.system.now));
  numbered = same_numbered (sym store) (λ i. it.system.now.clauses ++ cut_clauses (sym cuts i) ++ map clause_of (sym steps i)) (sym goal) refl
      (numbered_first it.system.now.clauses it.numbers.items count each);
  singles = singles ∙ ap unit_bounds (sym store);
  goal_is = subst (λ (g : Option Lit). IfSome g (IsGoal it.system.now)) (sym goal) tt;
}

-- What the level's bounds say

pub range_says : (ranges : List (ℤ × ℤ)) (lit : Lit) (var : ℕ) (range : ℤ × ℤ) → lit.term ≡ Var var → slice_get ranges var ≡ Some range
    → Entails (record { term = lit.term; side = lit.side; bound = range_end lit.side range }) lit ↔ IsIn (range_bounds ranges) lit
range_says ranges lit var range on is =
    let within = slice_get_within ranges var range is in
    let item : get_or ranges var (pos 0, pos 0) ≡ range = get_or_from_slice_get ranges var range (pos 0, pos 0) is in (
      λ e. IsIn-range_bounds ranges lit var on within (subst (λ (r : ℤ × ℤ). IsWithin lit.side lit.bound (range_end lit.side r)) (sym item) e.as_strong),
      λ said. let from = range_bounds_say ranges lit said in
          let same : from.at ≡ var = same_var from.at var (sym from.term ∙ on) in
          record {
            same_term = refl;
            same_side = refl;
            as_strong = subst (λ (r : ℤ × ℤ). IsWithin lit.side lit.bound (range_end lit.side r)) (ap (λ n. get_or ranges n (pos 0, pos 0)) same ∙ item) from.as_strong;
          },
    )
  where
    same_var : (a b : ℕ) → Var (0 + a) ≡ Var b → a ≡ b
    same_var a b e = let numbers : 0 + a ≡ b = cc in omega arith

pub row_unsaid : (ranges : List (ℤ × ℤ)) (lit : Lit) → ((var : ℕ) → lit.term ≡ Var var → ⊥) → IsIn (range_bounds ranges) lit → ⊥
row_unsaid ranges lit apart said = let from = range_bounds_say ranges lit said in apart (0 + from.at) from.term

module _ (it : LevelSearch) (kept : IsKept it) where
  level_says : SayTheSame (range_bounds it.system.now.ranges ++ it.singles.items) (box_of (level_of it) it.steps.items)
  level_says =
      subst (λ (singles : List Lit). SayTheSame (range_bounds it.system.now.ranges ++ singles) (box_of (level_of it) it.steps.items)) (sym kept.singles)
      (same_box it.search.store (available (level_of it) it.steps.items) it.goal it.numbers.items kept.numbered (range_bounds it.system.now.ranges))

  pub said_by_range : (lit : Lit) → IsIn (range_bounds it.system.now.ranges) lit → IsIn (box_of (level_of it) it.steps.items) lit
  said_by_range lit said = (level_says lit).0 (IsIn-append_left (range_bounds it.system.now.ranges) it.singles.items lit said)

  pub said_by_single : (lit : Lit) → ¬ IsIn (range_bounds it.system.now.ranges) lit → IsIn it.singles.items lit ↔ IsIn (box_of (level_of it) it.steps.items) lit
  said_by_single lit unsaid = (
    λ said. (level_says lit).0 (IsIn-append_right (range_bounds it.system.now.ranges) it.singles.items lit said),
    λ said. ⊎_elim (λ here. absurd (unsaid here)) (λ there. there) (IsIn-append_cases (range_bounds it.system.now.ranges) it.singles.items lit ((level_says lit).1 said)),
  )
