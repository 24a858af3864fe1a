-- The steps that are logged are valid, and plain.
use Rattle.std.proofs.Common.{◌≡◌, ◌⊎◌, ℕ, ◌<◌, List, [], ◌∷◌, ◌++◌, length, map, get_or, Option, Some, None, IfSome, ℤ, pos, negsuc, ◌+ℤ◌, ◌-ℤ◌, ◌≤ℤ◌, ◌<ℤ◌, sym, ◌∙◌, ap, subst, inl, inr, ⊎_elim, arith, All}
use Rattle.std.specs.Prelude.{Any, Contains, FitsSigned, neg_ℤ, ◌^◌}
use Rattle.std.specs.Int.{w128}
use Rattle.std.specs.Option.{option_to_list}
use Rattle.std.proofs.lemmas.Int.{ints}
use Rattle.std.proofs.lemmas.Option.{slice_get_within, get_or_from_slice_get, slice_get-get_or}
use Rattle.std.proofs.lemmas.List.Elements.{All-nil, All-cons, All-head, All-tail, All-map, All-append, All-weaker}
use Rattle.mix_system.specs.declared.literal.Term.{Term}
use Rattle.mix_system.specs.declared.literal.Side.{Side}
use Rattle.mix_system.specs.declared.literal.Side.TheVariants.{Le, Ge}
use Rattle.mix_system.specs.declared.literal.Lit.{Lit}
use Rattle.mix_system.specs.Lit.{negation, highest_below, atom}
use Rattle.mix_system.specs.System.{System, IsInner, IsClause}
use Rattle.mix_system.specs.Bounds.{IsIn, IsFalseIn, range_bounds, unit_bounds}
use Rattle.mix_system.specs.Follows.{Follows}
use Rattle.mix_system.proofs.AnyLaws.{Any-one_holds, Any-weaker, Any-with_all}
use Rattle.mix_system.proofs.BoundLaws.{IsIn-none, IsIn-cons_cases, IsIn-append_left, IsIn-append_right, IsIn-append_cases, IsIn-entailed}
use Rattle.mix_system.proofs.FollowLaws.{SayTheSame, Propagates-same}
use Rattle.bound_trail.specs.Trail.{box, box_at, level_end, BecameFalse, IsTrail}
use Rattle.bound_trail.proofs.BoxLaws.{in_box, consistent_box}
use Rattle.bound_trail.proofs.EntailmentLaws.{negation_entails}
use Rattle.clause_search.specs.Search.{Search, known as store_known, single_bounds, present_level, WasQuiet}
use Rattle.clause_search.specs.Settled.{IsSettled}
use Rattle.clause_search.specs.Learnt.{IsLearnt, IsAsserting, BecameFalseBy, HasKnownAtom}
use Rattle.proof_term.specs.declared.step.Step.TheVariants.{Lemma}
use Rattle.proof_term.specs.Steps.{StaysWithin, op_of_negation, negation_step}
use Rattle.level_steps.specs.Level.{available, box_of}
use Rattle.level_steps.specs.Steps.{IsStepOn}
use Rattle.level_steps.specs.Plain.{IsNamed}
use Rattle.level_search.specs.declared.level.LevelSearch.{LevelSearch}
use Rattle.level_search.specs.Local.{local_hints}
use Rattle.level_search.specs.Kept.{level_of, IsAllowed, IsOverLevel, IsKept, GoalStands}
use Rattle.level_search.proofs.AllowedLaws.{all_back}
use Rattle.level_search.proofs.LocalLaws.{single_at, from_single, same_box, same_behind, GoalHolds, propagates_local}

-- Numbers and terms

fits_between : (z : ℤ) → neg_ℤ (pos (2 ^ 127)) ≤ℤ z → z <ℤ pos (2 ^ 127) → FitsSigned w128 z
fits_between (pos n) low high = first_of (omega (arith, ints), grind (arith, ints))
fits_between (negsuc n) low high = first_of (omega (arith, ints), grind (arith, ints))

negation_fits : (side : Side) (bound : ℤ) → IsInner bound → StaysWithin (op_of_negation side bound)
negation_fits Le bound inner = fits_between (bound +ℤ pos 1) (omega (arith, ints, inner.above_least)) (omega (arith, ints, inner.below_greatest))
negation_fits Ge bound inner = fits_between (bound -ℤ pos 1) (omega (arith, ints, inner.above_least)) (omega (arith, ints, inner.below_greatest))

pub negations_fit : (clause : List Lit) → All (λ lit. IsInner lit.bound) clause → All StaysWithin (map negation_step clause)
negations_fit clause inner =
    All-map StaysWithin negation_step clause (All-weaker (λ (lit : Lit). IsInner lit.bound) (λ lit. StaysWithin (negation_step lit)) (λ lit is. negation_fits lit.side lit.bound is) clause inner)

pub clause_over : (system : System) (state : Search) (lits : List Lit) → IsOverLevel system state → IsClause (length state.trail.ranges) state.trail.rows lits
    → IsClause (length system.ranges) (length system.rows) lits
clause_over system state lits over clause =
    subst (λ rows. IsClause (length system.ranges) rows lits) over.rows (subst (λ (ranges : List (ℤ × ℤ)). IsClause (length ranges) state.trail.rows lits) over.ranges clause)

-- Atoms

all_front : {X : Type 0} (P : X → Type 0) (xs ys : List X) → All P (xs ++ ys) → All P xs
all_front P [] ys all = All-nil P
all_front P (x ∷ xs) ys all = All-cons P x xs (All-head P x (xs ++ ys) all) (all_front P xs ys (All-tail P x (xs ++ ys) all))

pub contained_unit : (clauses : List (List Lit)) (only : Lit) → Contains clauses (only ∷ []) → IsIn (unit_bounds clauses) only
contained_unit clauses only among =
    single_at clauses among.0 only (slice_get-get_or clauses among.0 (only ∷ []) among.1 ∙ ap (λ (c : List Lit). Some c) among.2)

same_sides : (side : Side) (a b : ℤ) → highest_below side a ≡ highest_below side b → a ≡ b
same_sides Le a b is = is
same_sides Ge a b is = omega (arith, ints, is)

opposite_sides : (a b : ℤ) → a ≡ b -ℤ pos 1 → b ≡ a +ℤ pos 1
opposite_sides a b is = omega (arith, ints, is)

atom_cases : (term : Term) (a b : Side) (x y : ℤ) → highest_below a x ≡ highest_below b y
    → (let one : Lit = record { term = term; side = a; bound = x } in let other : Lit = record { term = term; side = b; bound = y } in (one ≡ other) ⊎ (one ≡ negation other))
atom_cases term Le Le x y is = inl (λ i. record { term = term; side = Le; bound = is i })
atom_cases term Ge Ge x y is = let same = same_sides Ge x y is in inl (λ i. record { term = term; side = Ge; bound = same i })
atom_cases term Le Ge x y is = inr (λ i. record { term = term; side = Le; bound = is i })
atom_cases term Ge Le x y is = let same : x ≡ y +ℤ pos 1 = opposite_sides y x (sym is) in inr (λ i. record { term = term; side = Ge; bound = same i })

-- literals of one atom are the same or each other's negations
pub same_atom : (one other : Lit) → atom one ≡ atom other → (one ≡ other) ⊎ (one ≡ negation other)
same_atom one other is =
    let terms : one.term ≡ other.term = ap (λ a. a.0) is in
    let numbers : highest_below one.side one.bound ≡ highest_below other.side other.bound = ap (λ a. a.1) is in
    let here : Lit = record { term = other.term; side = one.side; bound = one.bound } in
    let moved : one ≡ here = λ i. record { term = terms i; side = one.side; bound = one.bound } in
    ⊎_elim (λ equal. inl (moved ∙ equal)) (λ opposite. inr (moved ∙ opposite)) (atom_cases other.term one.side other.side one.bound other.bound numbers)

-- A lemma

module _ (it : LevelSearch) (kept : IsKept it) where
  -- the goal's literal holds in a box of the level
  abbrev pub GoalIsSafe : List Lit → Type 0
  GoalIsSafe box = GoalHolds it.search.store (available (level_of it) it.steps.items) it.goal it.numbers.items kept.numbered box

  pub same_single_box : SayTheSame (single_bounds it.search) (box_of (level_of it) it.steps.items)
  same_single_box =
      subst (λ (ranges : List (ℤ × ℤ)). SayTheSame (range_bounds ranges ++ unit_bounds it.search.store) (box_of (level_of it) it.steps.items)) (sym kept.over.ranges)
      (same_box it.search.store (available (level_of it) it.steps.items) it.goal it.numbers.items kept.numbered (range_bounds it.system.now.ranges))

  pub lemma_on : (lits : List Lit) (hints : List ℕ) → IsClause (length it.system.now.ranges) (length it.system.now.rows) lits
      → GoalIsSafe (map negation lits ++ box_of (level_of it) it.steps.items)
      → Follows lits hints (single_bounds it.search) (store_known it.search)
      → IsStepOn (level_of it) it.steps.items (Lemma lits (local_hints it.numbers.items hints))
  lemma_on lits hints clause safe follows =
      let negations = map negation lits in
      let own = box_of (level_of it) it.steps.items in
      record {
        kind = tt;
        passes = record {
          names = clause.known;
          numbers = negations_fit lits clause.inner;
          shows = propagates_local it.search.store (available (level_of it) it.steps.items) it.goal it.numbers.items kept.numbered (negations ++ own) hints safe
              (Propagates-same (store_known it.search) (negations ++ single_bounds it.search) (negations ++ own) hints (same_behind negations (single_bounds it.search) own same_single_box) follows);
        };
      }

  goal_in_box : (lit : Lit) → IsIn (option_to_list it.goal) lit → IsIn (box_of (level_of it) it.steps.items) lit
  goal_in_box lit by_goal =
      let ranges = range_bounds it.system.now.ranges in
      IsIn-append_left (ranges ++ option_to_list it.goal) (unit_bounds (available (level_of it) it.steps.items)) lit (IsIn-append_right ranges (option_to_list it.goal) lit by_goal)

  goal_stands : (goal : Option Lit) → IfSome goal (λ g. ¬ IsFalseIn (box_of (level_of it) it.steps.items) g) → (lit : Lit) → IsIn (option_to_list goal) lit → ¬ IsFalseIn (box_of (level_of it) it.steps.items) lit
  goal_stands None stands lit by_goal false = IsIn-none lit by_goal
  goal_stands (Some g) stands lit by_goal false =
      ⊎_elim (λ entails. stands (IsIn-entailed (box_of (level_of it) it.steps.items) (negation lit) (negation g) false (negation_entails g lit entails))) (λ none. IsIn-none lit none) (IsIn-cons_cases g [] lit by_goal)

  -- where the level's bounds don't contradict the goal
  pub safe_where_it_stands : GoalStands (level_of it) it.steps.items → GoalIsSafe (map negation [] ++ box_of (level_of it) it.steps.items)
  safe_where_it_stands stands = record { within = goal_in_box; stands = goal_stands it.goal stands }

  -- Above level 0

  module _ (ok : IsTrail it.search.trail) (quiet : WasQuiet it.search) (above : 0 < present_level it.search) where
    one_is_true : (bounds : List Lit) (only : Lit) → IsSettled bounds (only ∷ []) → IsIn bounds only
    one_is_true bounds only settled = ⊎_elim (λ has. Any-one_holds (IsIn bounds) only has) (λ two. absurd (omega (arith, two.apart, two.other.within))) settled

    pub units_are_true : (lit : Lit) → IsIn (unit_bounds it.search.store) lit → IsIn (box_at it.search.trail 0) lit
    units_are_true lit within =
        let from = from_single it.search.store lit within in
        let inside = slice_get_within it.search.store from.at (from.only ∷ []) from.among in
        let item = get_or_from_slice_get it.search.store from.at (from.only ∷ []) (from.only ∷ []) from.among in
        let settled : IsSettled (box_at it.search.trail 0) (from.only ∷ []) = subst (IsSettled (box_at it.search.trail 0)) item (quiet 0 above from.at (from.only ∷ []) inside) in
        IsIn-entailed (box_at it.search.trail 0) from.only lit (one_is_true (box_at it.search.trail 0) from.only settled) from.entails

    units_in_box : (lit : Lit) → IsIn (unit_bounds it.search.store) lit → IsIn (box it.search.trail) lit
    units_in_box lit within = in_box it.search.trail (level_end it.search.trail 0) lit (units_are_true lit within)

    singles_in_box : (lit : Lit) → IsIn (single_bounds it.search) lit → IsIn (box it.search.trail) lit
    singles_in_box lit within =
        ⊎_elim (λ here. IsIn-append_left (range_bounds it.search.trail.ranges) it.search.trail.lits lit here) (units_in_box lit)
        (IsIn-append_cases (range_bounds it.search.trail.ranges) (unit_bounds it.search.store) lit within)

    negated_in_box : (lits : List Lit) → All (IsFalseIn (box it.search.trail)) lits → (lit : Lit) → IsIn (map negation lits) lit → IsIn (box it.search.trail) lit
    negated_in_box [] false lit within = absurd (IsIn-none lit within)
    negated_in_box (first ∷ lits) false lit within =
        ⊎_elim (λ entails. IsIn-entailed (box it.search.trail) (negation first) lit (All-head (IsFalseIn (box it.search.trail)) first lits false) entails)
        (λ there. negated_in_box lits (All-tail (IsFalseIn (box it.search.trail)) first lits false) lit there)
        (IsIn-cons_cases (negation first) (map negation lits) lit within)

    -- a clause that is false on the trail: its negations and the level's bounds don't contradict the goal
    pub safe_on_trail : (lits : List Lit) → All (IsFalseIn (box it.search.trail)) lits → GoalIsSafe (map negation lits ++ box_of (level_of it) it.steps.items)
    safe_on_trail lits false = record {
      within = λ lit by_goal. IsIn-append_right (map negation lits) (box_of (level_of it) it.steps.items) lit (goal_in_box lit by_goal);
      stands = λ lit by_goal against. ⊎_elim
          (λ here. consistent_box it.search.trail ok lit (units_in_box lit (kept.numbered.goal_too lit by_goal)) (negated_in_box lits false (negation lit) here))
          (λ there. consistent_box it.search.trail ok lit (units_in_box lit (kept.numbered.goal_too lit by_goal)) (singles_in_box (negation lit) ((same_single_box (negation lit)).1 there)))
          (IsIn-append_cases (map negation lits) (box_of (level_of it) it.steps.items) (negation lit) against);
    }

    -- Which literals it has

    pub false_by_level : (lits : List Lit) (level : ℕ) → IsAsserting it.search lits level → All (λ lit. (own : ℕ) × (0 < own) × BecameFalse it.search.trail lit own) lits
    false_by_level lits level asserting =
        let P : Lit → Type 0 = λ lit. (own : ℕ) × (0 < own) × BecameFalse it.search.trail lit own in
        let others : All P (asserting.before ++ asserting.after) = All-weaker (BecameFalseBy it.search level) P (λ lit by. (by.own, by.above, by.became_false)) (asserting.before ++ asserting.after) asserting.others in
        let front = all_front P asserting.before asserting.after others in
        let back = all_back P asserting.before asserting.after others in
        subst (All P) (sym asserting.split) (All-append P asserting.before (asserting.point ∷ asserting.after) front (All-cons P asserting.point asserting.after (present_level it.search, above, asserting.at_present) back))

    pub false_on_trail : (lit : Lit) (own : ℕ) → BecameFalse it.search.trail lit own → IsFalseIn (box it.search.trail) lit
    false_on_trail lit own became = in_box it.search.trail (level_end it.search.trail own) (negation lit) became.there

    -- a literal that was set has its truth from level 0 on, so a literal of its atom didn't become false above it
    not_of_set : (lit other : Lit) (own : ℕ) → 0 < own → BecameFalse it.search.trail lit own → Contains it.search.store (other ∷ []) → atom other ≡ atom lit → ⊥
    not_of_set lit other own above_zero became set same =
        let is_true : IsIn (box_at it.search.trail 0) other = units_are_true other (contained_unit it.search.store other set) in
        ⊎_elim
        (λ equal. consistent_box it.search.trail ok lit (in_box it.search.trail (level_end it.search.trail 0) lit (subst (IsIn (box_at it.search.trail 0)) equal is_true)) (false_on_trail lit own became))
        (λ opposite. became.before 0 above_zero (subst (IsIn (box_at it.search.trail 0)) opposite is_true))
        (same_atom other lit same)

    allowed_named : (lit other : Lit) → ((own : ℕ) × (0 < own) × BecameFalse it.search.trail lit own) → IsAllowed it.system.now it.search.store other → atom other ≡ atom lit → IsNamed it.system.now lit
    allowed_named lit other became allowed same =
        ⊎_elim
        (λ named. Any-weaker (λ (clause : List Lit). Any (λ (l : Lit). atom l ≡ atom other) clause) (λ clause. Any (λ (l : Lit). atom l ≡ atom lit) clause)
        (λ clause any. Any-weaker (λ (l : Lit). atom l ≡ atom other) (λ l. atom l ≡ atom lit) (λ l is. is ∙ same) clause any) it.system.now.clauses named)
        (λ set. absurd (not_of_set lit other became.0 became.1 became.2 set.1 same)) allowed

    known_named : (lit : Lit) → ((own : ℕ) × (0 < own) × BecameFalse it.search.trail lit own) → HasKnownAtom it.search lit → IsNamed it.system.now lit
    known_named lit became has = ⊎_elim
        (λ put. let other = Any-with_all (IsAllowed it.system.now it.search.store) (λ (l : Lit). atom l ≡ atom lit) it.search.trail.lits kept.over.put put in
        allowed_named lit other.0 became other.1 other.2)
        (λ stored. let clause = Any-with_all (All (IsAllowed it.system.now it.search.store)) (λ (c : List Lit). Any (λ (l : Lit). atom l ≡ atom lit) c) it.search.store kept.over.stored stored in
        let other = Any-with_all (IsAllowed it.system.now it.search.store) (λ (l : Lit). atom l ≡ atom lit) clause.0 clause.1 clause.2 in
        allowed_named lit other.0 became other.1 other.2)
        has

    pub learnt_is_named : (lits : List Lit) (hints : List ℕ) (level : ℕ) → IsLearnt it.search lits hints level → All (IsNamed it.system.now) lits
    learnt_is_named lits hints level learnt = λ k d within.
        known_named (get_or lits k d) (false_by_level lits level learnt.asserting k d within) (learnt.atoms k d within)

    pub learnt_is_false : (lits : List Lit) (level : ℕ) → IsAsserting it.search lits level → All (IsFalseIn (box it.search.trail)) lits
    learnt_is_false lits level asserting = λ k d within. let by = false_by_level lits level asserting k d within in false_on_trail (get_or lits k d) by.0 by.2
