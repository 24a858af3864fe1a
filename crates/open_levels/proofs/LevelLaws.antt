-- The clauses of a level by their numbers, and the literals of its box.
use Rattle.std.proofs.Common.{◌≡◌, ◌+◌, ◌<◌, ◌≤◌, ℕ, ℤ, pos, List, [], ◌∷◌, ◌++◌, length, map, take, drop, get_or, true, false, Option, Some, None, refl, sym, ◌∙◌, ap, subst, inl, inr, ⊎_elim, arith}
use Rattle.std.specs.Prelude.{◌==◌, slice_get, nat_lt, MatchOption}
use Rattle.std.specs.Prelude.{reverse}
use Rattle.std.specs.List.{filter, flat_map}
use Rattle.std.proofs.lemmas.Bool.{cases_Bool, cond-true, cond-false}
use Rattle.std.proofs.lemmas.Bool.Decides.{nat_tests}
use Rattle.std.proofs.lemmas.Option.{get_or_from_slice_get, slice_get_within}
use Rattle.std.proofs.lemmas.List.{reverse-append, take_more, drop_more, map-append}
use Rattle.std.proofs.lemmas.List.Elements.{filter_map-append}
use Rattle.mix_system.specs.declared.literal.Term.{Term}
use Rattle.mix_system.specs.declared.literal.Lit.{Lit}
use Rattle.mix_system.specs.System.{System}
use Rattle.mix_system.specs.Bounds.{IsIn, range_bounds, range_bounds_from, only_literal, unit_bounds}
use Rattle.mix_system.proofs.BoundLaws.{IsIn-append_left, IsIn-append_right, IsIn-append_cases}
use Rattle.proof_term.specs.declared.proof.Goal.{Goal}
use Rattle.proof_term.specs.Levels.{Finished, Levels, cuts_of, available, clause_of, known, goal_bounds, box_of}
use Rattle.open_levels.specs.Adds.{both_bounds}
use Rattle.open_levels.specs.Stack.{OpenLevel, level_of, levels_of}
use Rattle.open_levels.proofs.AddsLaws.{SaySame}

-- the steps up to a place, the newest first
abbrev pub newest_of : List Finished → List Finished
newest_of steps = reverse steps

pub newest_more : (steps : List Finished) (i : ℕ) (d : Finished) → i < length steps → newest_of (take (i + 1) steps) ≡ get_or steps i d ∷ newest_of (take i steps)
newest_more steps i d within = ap newest_of (take_more steps i d within) ∙ reverse-append (take i steps) (get_or steps i d ∷ [])

abbrev pub cuts_in : List Finished → List Finished
cuts_in fs = filter (λ f. f.is_cut) fs

pub clause_here : (number : ℕ) (f : Finished) (fs : List Finished) → (f.number == number) ≡ true → clause_of number (f ∷ fs) ≡ Some f.clause
clause_here number f fs is = cond-true {A = Option (List Lit)} (f.number == number) (Some f.clause) (clause_of number fs) is

pub clause_later : (number : ℕ) (f : Finished) (fs : List Finished) → (f.number == number) ≡ false → clause_of number (f ∷ fs) ≡ clause_of number fs
clause_later number f fs is = cond-false {A = Option (List Lit)} (f.number == number) (Some f.clause) (clause_of number fs) is

pub cut_here : (f : Finished) (fs : List Finished) → f.is_cut ≡ true → cuts_in (f ∷ fs) ≡ f ∷ cuts_in fs
cut_here f fs is = cond-true {A = List Finished} f.is_cut (f ∷ cuts_in fs) (cuts_in fs) is

pub cut_later : (f : Finished) (fs : List Finished) → f.is_cut ≡ false → cuts_in (f ∷ fs) ≡ cuts_in fs
cut_later f fs is = cond-false {A = List Finished} f.is_cut (f ∷ cuts_in fs) (cuts_in fs) is

-- what is found among some steps is found where more stand behind them
pub found_first : (number : ℕ) (fs gs : List Finished) (clause : List Lit) → clause_of number fs ≡ Some clause → clause_of number (fs ++ gs) ≡ Some clause
found_first number [] gs clause is = absurd (cc is)
found_first number (f ∷ fs) gs clause is = elim (cases_Bool (f.number == number)) [
  | inl e ↦ clause_here number f (fs ++ gs) e ∙ sym (clause_here number f fs e) ∙ is
  | inr e ↦ clause_later number f (fs ++ gs) e ∙ found_first number fs gs clause (sym (clause_later number f fs e) ∙ is)
]

pub none_first : (number : ℕ) (fs gs : List Finished) → clause_of number fs ≡ None → clause_of number (fs ++ gs) ≡ clause_of number gs
none_first number [] gs is = refl
none_first number (f ∷ fs) gs is = elim (cases_Bool (f.number == number)) [
  | inl e ↦ let none : Some f.clause ≡ None = sym (clause_here number f fs e) ∙ is in absurd (cc none)
  | inr e ↦ clause_later number f (fs ++ gs) e ∙ none_first number fs gs (sym (clause_later number f fs e) ∙ is)
]

-- the literals of single clauses

abbrev pub units_of : List Finished → List Lit
units_of fs = unit_bounds (map (λ f. f.clause) fs)

pub units-append : (clauses more : List (List Lit)) → unit_bounds (clauses ++ more) ≡ unit_bounds clauses ++ unit_bounds more
units-append clauses more = filter_map-append only_literal clauses more

pub units_of-append : (fs gs : List Finished) → units_of (fs ++ gs) ≡ units_of fs ++ units_of gs
units_of-append fs gs = ap unit_bounds (map-append (λ (f : Finished). f.clause) fs gs) ∙ units-append (map (λ f. f.clause) fs) (map (λ f. f.clause) gs)

pub left_range : (ranges : List (ℤ × ℤ)) (i : ℕ) → i < length ranges
    → range_bounds_from i (drop i ranges) ≡ both_bounds i (get_or ranges i (pos 0, pos 0)) ++ range_bounds_from (i + 1) (drop (i + 1) ranges)
left_range ranges i within = ap (range_bounds_from i) (drop_more ranges i (pos 0, pos 0) within)

-- the item that a loop reads, and those behind it
pub front_is : {X : Type 0} (xs : List X) (i : ℕ) (x : X) → i < length xs → x ≡ get_or xs i x → drop i xs ≡ x ∷ drop (i + 1) xs
front_is {X} xs i x within is = drop_more xs i x within ∙ ap (λ (y : X). y ∷ drop (i + 1) xs) (sym is)

pub left_clause : (clauses : List (List Lit)) (i : ℕ) (clause : List Lit) → slice_get clauses i ≡ Some clause
    → unit_bounds (drop i clauses) ≡ unit_bounds (clause ∷ []) ++ unit_bounds (drop (i + 1) clauses)
left_clause clauses i clause is =
    let front = front_is clauses i clause (slice_get_within clauses i clause is) (sym (get_or_from_slice_get clauses i clause clause is)) in
    ap unit_bounds front ∙ units-append (clause ∷ []) (drop (i + 1) clauses)

pub none_single : (clause : List Lit) → (length clause ≡ 1 → ⊥) → unit_bounds (clause ∷ []) ≡ []
none_single [] not_one = refl
none_single (lit ∷ []) not_one = absurd (not_one refl)
none_single (lit ∷ other ∷ lits) not_one = refl

-- the box of some levels, piece by piece
module _ (system : System) (cost : Term) (last : OpenLevel) (enclosing : List OpenLevel) where
  pub box_split : box_of system cost (levels_of last enclosing)
      ≡ (range_bounds system.ranges ++ goal_bounds cost last.goal) ++ (unit_bounds system.clauses ++ (units_of (level_of last).finished ++ units_of (flat_map cuts_of (map level_of enclosing))))
  box_split =
      ap (λ (lits : List Lit). (range_bounds system.ranges ++ goal_bounds cost last.goal) ++ lits)
      (units-append system.clauses (map (λ f. f.clause) (available (levels_of last enclosing)))
      ∙ ap (λ (lits : List Lit). unit_bounds system.clauses ++ lits) (units_of-append (level_of last).finished (flat_map cuts_of (map level_of enclosing))))

pub newest_push : (steps : List Finished) (step : Finished) → newest_of (steps ++ step ∷ []) ≡ step ∷ newest_of steps
newest_push steps step = reverse-append steps (step ∷ [])

-- the box of a level on which one more step has ended
module _ (system : System) (cost : Term) (last after : OpenLevel) (enclosing : List OpenLevel) (step : Finished)
    (goal_is : after.goal ≡ last.goal) (ended_is : after.ended ≡ last.ended ++ step ∷ []) where
  pub finished_after : (level_of after).finished ≡ step ∷ (level_of last).finished
  finished_after = ap newest_of ended_is ∙ newest_push last.ended step

  box_after : box_of system cost (levels_of after enclosing)
      ≡ (range_bounds system.ranges ++ goal_bounds cost last.goal)
      ++ (unit_bounds system.clauses ++ ((unit_bounds (step.clause ∷ []) ++ units_of (level_of last).finished) ++ units_of (flat_map cuts_of (map level_of enclosing))))
  box_after =
      box_split system cost after enclosing
      ∙ ap (λ (g : Goal). (range_bounds system.ranges ++ goal_bounds cost g) ++ (unit_bounds system.clauses ++ (units_of (level_of after).finished ++ units_of (flat_map cuts_of (map level_of enclosing))))) goal_is
      ∙ ap (λ (fs : List Finished). (range_bounds system.ranges ++ goal_bounds cost last.goal) ++ (unit_bounds system.clauses ++ (units_of fs ++ units_of (flat_map cuts_of (map level_of enclosing))))) finished_after
      ∙ ap (λ (lits : List Lit). (range_bounds system.ranges ++ goal_bounds cost last.goal) ++ (unit_bounds system.clauses ++ (lits ++ units_of (flat_map cuts_of (map level_of enclosing)))))
      (units_of-append (step ∷ []) (level_of last).finished)

  pub box_with_step : SaySame (unit_bounds (step.clause ∷ []) ++ box_of system cost (levels_of last enclosing)) (box_of system cost (levels_of after enclosing))
  box_with_step lit =
      let front = range_bounds system.ranges ++ goal_bounds cost last.goal in
      let base = unit_bounds system.clauses in
      let new = unit_bounds (step.clause ∷ []) in
      let own = units_of (level_of last).finished in
      let outer = units_of (flat_map cuts_of (map level_of enclosing)) in
      let box = box_of system cost (levels_of last enclosing) in
      let to_after : IsIn (front ++ (base ++ ((new ++ own) ++ outer))) lit → IsIn (box_of system cost (levels_of after enclosing)) lit = subst (λ (lits : List Lit). IsIn lits lit) (sym box_after) in
      let from_after : IsIn (box_of system cost (levels_of after enclosing)) lit → IsIn (front ++ (base ++ ((new ++ own) ++ outer))) lit = subst (λ (lits : List Lit). IsIn lits lit) box_after in
      let to_box : IsIn (front ++ (base ++ (own ++ outer))) lit → IsIn box lit = subst (λ (lits : List Lit). IsIn lits lit) (sym (box_split system cost last enclosing)) in
      let from_box : IsIn box lit → IsIn (front ++ (base ++ (own ++ outer))) lit = subst (λ (lits : List Lit). IsIn lits lit) (box_split system cost last enclosing) in
      let in_own : IsIn (new ++ own) lit → IsIn (front ++ (base ++ ((new ++ own) ++ outer))) lit = λ h.
      IsIn-append_right front (base ++ ((new ++ own) ++ outer)) lit (IsIn-append_right base ((new ++ own) ++ outer) lit (IsIn-append_left (new ++ own) outer lit h)) in (
        λ within. to_after (⊎_elim (λ h. in_own (IsIn-append_left new own lit h))
            (λ inside. ⊎_elim (λ h. IsIn-append_left front (base ++ ((new ++ own) ++ outer)) lit h)
            (λ back. ⊎_elim (λ h. IsIn-append_right front (base ++ ((new ++ own) ++ outer)) lit (IsIn-append_left base ((new ++ own) ++ outer) lit h))
            (λ steps. ⊎_elim (λ h. in_own (IsIn-append_right new own lit h))
            (λ h. IsIn-append_right front (base ++ ((new ++ own) ++ outer)) lit (IsIn-append_right base ((new ++ own) ++ outer) lit (IsIn-append_right (new ++ own) outer lit h)))
            (IsIn-append_cases own outer lit steps)) (IsIn-append_cases base (own ++ outer) lit back)) (IsIn-append_cases front (base ++ (own ++ outer)) lit (from_box inside)))
            (IsIn-append_cases new box lit within)),
        λ within. ⊎_elim (λ h. IsIn-append_right new box lit (to_box (IsIn-append_left front (base ++ (own ++ outer)) lit h)))
            (λ back. ⊎_elim (λ h. IsIn-append_right new box lit (to_box (IsIn-append_right front (base ++ (own ++ outer)) lit (IsIn-append_left base (own ++ outer) lit h))))
            (λ steps. ⊎_elim
            (λ either. ⊎_elim (λ h. IsIn-append_left new box lit h)
            (λ h. IsIn-append_right new box lit (to_box (IsIn-append_right front (base ++ (own ++ outer)) lit (IsIn-append_right base (own ++ outer) lit (IsIn-append_left own outer lit h)))))
            (IsIn-append_cases new own lit either))
            (λ h. IsIn-append_right new box lit (to_box (IsIn-append_right front (base ++ (own ++ outer)) lit (IsIn-append_right base (own ++ outer) lit (IsIn-append_right own outer lit h)))))
            (IsIn-append_cases (new ++ own) outer lit steps)) (IsIn-append_cases base ((new ++ own) ++ outer) lit back))
            (IsIn-append_cases front (base ++ ((new ++ own) ++ outer)) lit (from_after within)),
      )

pub known_later : (system : System) (levels : Levels) (number : ℕ) → length system.clauses ≤ number → known system levels number ≡ clause_of number (available levels)
known_later system levels number past =
    let test : nat_lt number (length system.clauses) ≡ false = grind (arith, nat_tests) in
    cond-false {A = Option (List Lit)} (nat_lt number (length system.clauses)) (slice_get system.clauses number) (clause_of number (available levels)) test

pub match_as : {A P R : Type 0} {Q S : A → Type 0} (o : Option A) → (P → R) → ((a : A) → Q a → S a) → MatchOption o P Q → MatchOption o R S
match_as None none some is = none is
match_as (Some a) none some is = some a is
