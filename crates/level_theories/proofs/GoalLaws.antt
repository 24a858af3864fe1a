-- The empty clause against a goal that the level's bounds contradict.
use Rattle.std.proofs.Common.{◌≡◌, ℕ, ◌+◌, ◌<◌, List, [], ◌∷◌, ◌++◌, length, get_or, Option, Some, None, IfSome, ℤ, pos, negsuc, ◌+ℤ◌, ◌-ℤ◌, ◌*ℤ◌, ◌≤ℤ◌, ◌<ℤ◌, refl, sym, ◌∙◌, ap, subst, ⊎_elim, arith, All}
use Rattle.std.specs.Prelude.{FitsSigned, slice_get, neg_ℤ, ◌^◌, ◌==◌, cond, Bool, true}
use Rattle.std.proofs.Common.{eq-eqb}
use Rattle.std.proofs.lemmas.Bool.{cond-true}
use Rattle.std.proofs.lemmas.List.{append-nil}
use Rattle.wx_num.specs.declared.excess.NumOp.TheVariants.{Times}
use Rattle.wx_num.specs.declared.excess.Excess.{Excess}
use Rattle.std.specs.Int.{w128}
use Rattle.std.specs.Option.{option_to_list}
use Rattle.std.specs.List.{flat_map}
use Rattle.std.proofs.lemmas.Int.{ints}
use Rattle.std.proofs.lemmas.Option.{slice_get_within}
use Rattle.std.proofs.lemmas.List.Elements.{All-nil, All-cons, All-from_recursion}
use Rattle.mix_system.specs.declared.literal.Term.TheVariants.{Var}
use Rattle.mix_system.specs.declared.literal.Side.{Side}
use Rattle.mix_system.specs.declared.literal.Side.TheVariants.{Le, Ge}
use Rattle.mix_system.specs.declared.literal.Lit.{Lit}
use Rattle.mix_system.specs.declared.farkas.FarkasPart.{FarkasPart}
use Rattle.mix_system.specs.declared.farkas.Farkas.{Farkas}
use Rattle.mix_system.specs.declared.row.Part.{Part}
use Rattle.mix_system.specs.Lit.{negation, other_side, negated_bound}
use Rattle.mix_system.specs.System.{IsInner, Exists}
use Rattle.mix_system.specs.Bounds.{Entails, IsIn, IsFalseIn, range_bounds, unit_bounds}
use Rattle.mix_system.specs.FarkasSum.{FarkasRefutes, by_side, coeff_on, parts_of, weight, bound_weight, leaf_steps, term_steps, sum_op}
use Rattle.mix_system.specs.Sum.{int_sum_by}
use Rattle.mix_system.proofs.BoundLaws.{IsIn-none, IsIn-here, IsIn-cons_cases, IsIn-append_left, IsIn-append_right, IsIn-append_cases, IsIn-entailed, range_bounds_say}
use Rattle.bound_trail.proofs.EntailmentLaws.{falsifies_each_other, not_against_itself, sides_differ}
use Rattle.proof_term.specs.declared.tree.Node.{Node}
use Rattle.proof_term.specs.declared.tree.Node.TheVariants.{Leaf}
use Rattle.proof_term.specs.declared.step.Step.TheVariants.{Lemma, Theory}
use Rattle.proof_term.specs.Steps.{StaysWithin, NodeNames, NamesTerm, node_steps}
use Rattle.level_steps.specs.Level.{available, box_of}
use Rattle.level_steps.specs.Steps.{IsStepOn}
use Rattle.level_search.specs.declared.level.LevelSearch.{LevelSearch}
use Rattle.level_search.specs.Local.{IsNumber}
use Rattle.level_search.specs.Kept.{level_of, IsGoal, IsKept}
use Rattle.level_search.proofs.KeptLaws.{small_is_inner}
use Rattle.level_search.proofs.LocalLaws.{from_single}
use Rattle.level_theories.specs.Goal.{IsAgainst, IsBoth}

module _ (it : LevelSearch) (kept : IsKept it) (goal : Lit) (is_goal : it.goal ≡ Some goal) where
  goal_bounds : option_to_list it.goal ≡ goal ∷ []
  goal_bounds = ap option_to_list is_goal

  pub goal_in_box : IsIn (box_of (level_of it) it.steps.items) goal
  goal_in_box =
      let ranges = range_bounds it.system.now.ranges in
      let units = unit_bounds (available (level_of it) it.steps.items) in
      subst (λ (goals : List Lit). IsIn (ranges ++ goals ++ units) goal) (sym goal_bounds)
      (IsIn-append_left (ranges ++ goal ∷ []) units goal (IsIn-append_right ranges (goal ∷ []) goal (IsIn-here goal [])))

  pub goal_ok : IsGoal it.system.now goal
  goal_ok = subst (λ (g : Option Lit). IfSome g (IsGoal it.system.now)) is_goal kept.goal_is

  -- by a clause of one literal
  pub against_on : (number : ℕ) → IsAgainst it goal number → IsStepOn (level_of it) it.steps.items (Lemma [] (number ∷ []))
  against_on number against =
      let own = box_of (level_of it) it.steps.items in
      let false : IsFalseIn own against.only = IsIn-entailed own goal (negation against.only) goal_in_box against.excluded in
      record {
        kind = tt;
        passes = record {
          names = All-nil (NamesTerm it.system.now);
          numbers = All-nil StaysWithin;
          shows = (against.only ∷ [], against.among, All-cons (IsFalseIn own) against.only [] false (All-nil (IsFalseIn own)));
        };
      }

  goals_number : (only : Lit) (number : Option ℕ) → number ≡ None → IsNumber (available (level_of it) it.steps.items) it.goal (only ∷ []) number → Entails goal only
  goals_number only None none is =
      let same : is.0 ≡ only = cc is.1 in
      let within : IsIn (goal ∷ []) is.0 = subst (λ (goals : List Lit). IsIn goals is.0) goal_bounds is.2 in
      ⊎_elim (λ entails. subst (Entails goal) same entails) (λ none. absurd (IsIn-none is.0 none)) (IsIn-cons_cases goal [] is.0 within)
  goals_number only (Some number) none is = absurd (cc none)

  both_ways : (only : Lit) → Entails goal only → Entails goal (negation only) → ⊥
  both_ways only says excludes = sides_differ only.side (sym says.same_side ∙ excludes.same_side)

  -- where each single clause that the goal makes false is a goal's, the ranges do
  pub by_range : ((k : ℕ) (only : Lit) → k < length it.search.store → slice_get it.search.store k ≡ Some (only ∷ []) → Entails goal (negation only) → get_or it.numbers.items k None ≡ None)
      → IsFalseIn (box_of (level_of it) it.steps.items) goal → IsIn (range_bounds it.system.now.ranges) (negation goal)
  by_range none false =
      let ranges = range_bounds it.system.now.ranges in
      let units = unit_bounds (available (level_of it) it.steps.items) in
      ⊎_elim
      (λ front. ⊎_elim
      (λ here. here)
      (λ by_goal. ⊎_elim (λ entails. absurd (not_against_itself goal entails)) (λ empty. absurd (IsIn-none (negation goal) empty))
      (IsIn-cons_cases goal [] (negation goal) (subst (λ (goals : List Lit). IsIn goals (negation goal)) goal_bounds by_goal)))
      (IsIn-append_cases ranges (option_to_list it.goal) (negation goal) front))
      (λ by_unit. let from = from_single it.search.store (negation goal) (kept.numbered.units (negation goal) by_unit) in
      let excluded : Entails goal (negation from.only) = falsifies_each_other from.only goal from.entails in
      let within = slice_get_within it.search.store from.at (from.only ∷ []) from.among in
      let unnumbered = none from.at from.only within from.among excluded in
      absurd (both_ways from.only (goals_number from.only (get_or it.numbers.items from.at None) unnumbered (kept.numbered.each from.at (from.only ∷ []) from.among)) excluded))
      (IsIn-append_cases (ranges ++ option_to_list it.goal) units (negation goal) false)

-- A leaf of a literal on a variable and its negation

fits : (z : ℤ) → neg_ℤ (pos (2 ^ 127)) ≤ℤ z → z <ℤ pos (2 ^ 127) → FitsSigned w128 z
fits (pos n) low high = first_of (omega (arith, ints), grind (arith, ints))
fits (negsuc n) low high = first_of (omega (arith, ints), grind (arith, ints))

opposite : (side : Side) (x : ℤ) → (by_side side x +ℤ (by_side (other_side side) x +ℤ pos 0)) ≡ pos 0
opposite Le x = omega (arith, ints)
opposite Ge x = omega (arith, ints)

below_none : (side : Side) (bound : ℤ) → (by_side side (pos 1 *ℤ bound) +ℤ (by_side (other_side side) (pos 1 *ℤ negated_bound side bound) +ℤ pos 0)) <ℤ pos 0
below_none Le bound = omega (arith, ints)
below_none Ge bound = omega (arith, ints)

-- what two literals, taken so often, add up to
abbrev Vanishes : List (List Part) → Lit → ℤ → Lit → ℤ → Type 0
Vanishes rows a times b more =
    (var : ℕ) → (by_side a.side (times *ℤ int_sum_by (coeff_on var) (parts_of rows a.term)) +ℤ (by_side b.side (more *ℤ int_sum_by (coeff_on var) (parts_of rows b.term)) +ℤ pos 0)) ≡ pos 0

abbrev IsBelow : Lit → ℤ → Lit → ℤ → Type 0
IsBelow a times b more = (by_side a.side (times *ℤ a.bound) +ℤ (by_side b.side (more *ℤ b.bound) +ℤ pos 0)) <ℤ pos 0

-- the numbers of working them
abbrev two_steps : List (List Part) → Lit → ℤ → Lit → ℤ → List Excess
two_steps rows a times b more =
    term_steps a.side times (λ _. pos 0) (parts_of rows a.term)
    ++ (record { op = Times; x = times; y = a.bound }) ∷ (record { op = sum_op a.side; x = pos 0; y = times *ℤ a.bound })
    ∷ (term_steps b.side more (λ var. pos 0 +ℤ by_side a.side (times *ℤ int_sum_by (coeff_on var) (parts_of rows a.term))) (parts_of rows b.term)
    ++ (record { op = Times; x = more; y = b.bound }) ∷ (record { op = sum_op b.side; x = pos 0 +ℤ by_side a.side (times *ℤ a.bound); y = more *ℤ b.bound }) ∷ [])

once : (b : Bool) → b ≡ true → cond b (pos 1) (pos 0) ≡ pos 1
once b is = cond-true {A = ℤ} b (pos 1) (pos 0) is

twice_fits_down : (n bound : ℤ) → n ≡ pos 1 → FitsSigned w128 ((pos 0 +ℤ neg_ℤ (pos 1 *ℤ (n +ℤ pos 0))) +ℤ (pos 1 *ℤ pos 1))
twice_fits_down n bound is = fits ((pos 0 +ℤ neg_ℤ (pos 1 *ℤ (n +ℤ pos 0))) +ℤ (pos 1 *ℤ pos 1)) (omega (arith, ints)) (omega (arith, ints))

twice_fits_up : (n bound : ℤ) → n ≡ pos 1 → FitsSigned w128 ((pos 0 +ℤ (pos 1 *ℤ (n +ℤ pos 0))) -ℤ (pos 1 *ℤ pos 1))
twice_fits_up n bound is = fits ((pos 0 +ℤ (pos 1 *ℤ (n +ℤ pos 0))) -ℤ (pos 1 *ℤ pos 1)) (omega (arith, ints)) (omega (arith, ints))

pair_fits : (rows : List (List Part)) (var : ℕ) (side : Side) (bound : ℤ) → IsInner bound
    → All StaysWithin (two_steps rows (record { term = Var var; side = side; bound = bound }) (pos 1) (negation (record { term = Var var; side = side; bound = bound })) (pos 1))
pair_fits rows var Ge bound inner =
    let lit : Lit = record { term = Var var; side = Ge; bound = bound } in
    let one = once (var == var) (eq-eqb var var refl) in
    All-from_recursion StaysWithin (two_steps rows lit (pos 1) (negation lit) (pos 1)) (
      fits (pos 1 *ℤ pos 1) (omega (arith, ints)) (omega (arith, ints)),
      (
        fits (pos 0 -ℤ (pos 1 *ℤ pos 1)) (omega (arith, ints)) (omega (arith, ints)),
        (
          fits (pos 1 *ℤ bound) (omega (arith, ints, inner.above_least)) (omega (arith, ints, inner.below_greatest)),
          (
            fits (pos 0 -ℤ (pos 1 *ℤ bound)) (omega (arith, ints, inner.below_greatest)) (omega (arith, ints, inner.above_least)),
            (
              fits (pos 1 *ℤ pos 1) (omega (arith, ints)) (omega (arith, ints)),
              (
                twice_fits_down (cond (var == var) (pos 1) (pos 0)) bound one,
                (
                  fits (pos 1 *ℤ (bound -ℤ pos 1)) (omega (arith, ints, inner.above_least)) (omega (arith, ints, inner.below_greatest)),
                  (fits ((pos 0 +ℤ neg_ℤ (pos 1 *ℤ bound)) +ℤ (pos 1 *ℤ (bound -ℤ pos 1))) (omega (arith, ints)) (omega (arith, ints)), tt),
                ),
              ),
            ),
          ),
        ),
      ),
    )
pair_fits rows var Le bound inner =
    let lit : Lit = record { term = Var var; side = Le; bound = bound } in
    let one = once (var == var) (eq-eqb var var refl) in
    All-from_recursion StaysWithin (two_steps rows lit (pos 1) (negation lit) (pos 1)) (
      fits (pos 1 *ℤ pos 1) (omega (arith, ints)) (omega (arith, ints)),
      (
        fits (pos 0 +ℤ (pos 1 *ℤ pos 1)) (omega (arith, ints)) (omega (arith, ints)),
        (
          fits (pos 1 *ℤ bound) (omega (arith, ints, inner.above_least)) (omega (arith, ints, inner.below_greatest)),
          (
            fits (pos 0 +ℤ (pos 1 *ℤ bound)) (omega (arith, ints, inner.above_least)) (omega (arith, ints, inner.below_greatest)),
            (
              fits (pos 1 *ℤ pos 1) (omega (arith, ints)) (omega (arith, ints)),
              (
                twice_fits_up (cond (var == var) (pos 1) (pos 0)) bound one,
                (
                  fits (pos 1 *ℤ (bound +ℤ pos 1)) (omega (arith, ints, inner.above_least)) (omega (arith, ints, inner.below_greatest)),
                  (fits ((pos 0 +ℤ (pos 1 *ℤ bound)) -ℤ (pos 1 *ℤ (bound +ℤ pos 1))) (omega (arith, ints)) (omega (arith, ints)), tt),
                ),
              ),
            ),
          ),
        ),
      ),
    )

module _ (it : LevelSearch) (kept : IsKept it) (goal : Lit) (is_goal : it.goal ≡ Some goal) where
  variable_of : IsIn (range_bounds it.system.now.ranges) (negation goal) → (var : ℕ) × (goal.term ≡ Var var)
  variable_of said = let from = range_bounds_say it.system.now.ranges (negation goal) said in (0 + from.at, from.term)

  module _ (nodes : List Node) (both : IsBoth goal nodes) (said : IsIn (range_bounds it.system.now.ranges) (negation goal)) where
    parts_are : both.farkas.parts ≡ both.first ∷ both.second ∷ []
    parts_are = both.parts

    vanishes : (var : ℕ) → int_sum_by (weight it.system.now.rows var) (both.first ∷ both.second ∷ []) ≡ pos 0
    vanishes =
        let rows = it.system.now.rows in
        subst (λ (b : ℤ). Vanishes rows both.first.lit both.first.by both.second.lit b) (sym both.second_by)
        (subst (λ (b : Lit). Vanishes rows both.first.lit both.first.by b (pos 1)) (sym both.second_lit)
        (subst (λ (a : ℤ). Vanishes rows both.first.lit a (negation goal) (pos 1)) (sym both.first_by)
        (subst (λ (a : Lit). Vanishes rows a (pos 1) (negation goal) (pos 1)) (sym both.first_lit)
        (λ var. opposite goal.side (pos 1 *ℤ int_sum_by (coeff_on var) (parts_of rows goal.term))))))

    contradictory : int_sum_by bound_weight (both.first ∷ both.second ∷ []) <ℤ pos 0
    contradictory =
        subst (λ (b : ℤ). IsBelow both.first.lit both.first.by both.second.lit b) (sym both.second_by)
        (subst (λ (b : Lit). IsBelow both.first.lit both.first.by b (pos 1)) (sym both.second_lit)
        (subst (λ (a : ℤ). IsBelow both.first.lit a (negation goal) (pos 1)) (sym both.first_by)
        (subst (λ (a : Lit). IsBelow a (pos 1) (negation goal) (pos 1)) (sym both.first_lit) (below_none goal.side goal.bound))))

    in_box : All (λ (part : FarkasPart). IsIn (box_of (level_of it) it.steps.items) part.lit) (both.first ∷ both.second ∷ [])
    in_box =
        let box = box_of (level_of it) it.steps.items in
        let P : FarkasPart → Type 0 = λ part. IsIn box part.lit in
        let ranges = range_bounds it.system.now.ranges in
        let against : IsIn box (negation goal) = IsIn-append_left (ranges ++ option_to_list it.goal) (unit_bounds (available (level_of it) it.steps.items)) (negation goal)
        (IsIn-append_left ranges (option_to_list it.goal) (negation goal) said) in
        All-cons P both.first (both.second ∷ []) (subst (IsIn box) (sym both.first_lit) (goal_in_box it kept goal is_goal))
        (All-cons P both.second [] (subst (IsIn box) (sym both.second_lit) against) (All-nil P))

    refutes : FarkasRefutes it.system.now.rows (box_of (level_of it) it.steps.items) both.farkas.parts
    refutes = subst (FarkasRefutes it.system.now.rows (box_of (level_of it) it.steps.items)) (sym parts_are)
        (record { in_box = in_box; vanishes = vanishes; contradictory = contradictory })

    numbers : All StaysWithin (leaf_steps it.system.now.rows (both.first ∷ both.second ∷ []))
    numbers =
        let rows = it.system.now.rows in
        let var = variable_of said in
        let lit : Lit = record { term = Var var.0; side = goal.side; bound = goal.bound } in
        let moved : lit ≡ goal = λ i. record { term = sym var.1 i; side = goal.side; bound = goal.bound } in
        let there : All StaysWithin (two_steps rows goal (pos 1) (negation goal) (pos 1)) =
        subst (λ (l : Lit). All StaysWithin (two_steps rows l (pos 1) (negation l) (pos 1))) moved (pair_fits rows var.0 goal.side goal.bound (small_is_inner goal.bound (goal_ok it kept goal is_goal).small)) in
        subst (λ (b : ℤ). All StaysWithin (two_steps rows both.first.lit both.first.by both.second.lit b)) (sym both.second_by)
        (subst (λ (b : Lit). All StaysWithin (two_steps rows both.first.lit both.first.by b (pos 1))) (sym both.second_lit)
        (subst (λ (a : ℤ). All StaysWithin (two_steps rows both.first.lit a (negation goal) (pos 1))) (sym both.first_by)
        (subst (λ (a : Lit). All StaysWithin (two_steps rows a (pos 1) (negation goal) (pos 1))) (sym both.first_lit) there)))

    named_parts : All (λ (part : FarkasPart). NamesTerm it.system.now part.lit) (both.first ∷ both.second ∷ [])
    named_parts =
        let P : FarkasPart → Type 0 = λ part. NamesTerm it.system.now part.lit in
        let known : Exists (length it.system.now.ranges) (length it.system.now.rows) goal.term = (goal_ok it kept goal is_goal).known in
        let there : NamesTerm it.system.now (negation goal) = known in
        All-cons P both.first (both.second ∷ []) (subst (NamesTerm it.system.now) (sym both.first_lit) known)
        (All-cons P both.second [] (subst (NamesTerm it.system.now) (sym both.second_lit) there) (All-nil P))

    -- by the leaf of the goal and a bound of a range
    pub theory_on : IsStepOn (level_of it) it.steps.items (Theory [] (record { nodes = nodes }))
    theory_on =
        let rows = it.system.now.rows in
        let box = box_of (level_of it) it.steps.items in
        let leaf = Leaf both.farkas in
        let leaf_names : NodeNames it.system.now leaf = subst (All (λ (part : FarkasPart). NamesTerm it.system.now part.lit)) (sym parts_are) named_parts in
        let leaf_numbers : All StaysWithin (leaf_steps rows both.farkas.parts) = subst (λ (ps : List FarkasPart). All StaysWithin (leaf_steps rows ps)) (sym parts_are) numbers in
        let flat : leaf_steps rows both.farkas.parts ≡ flat_map (node_steps rows) (leaf ∷ []) = sym (append-nil (leaf_steps rows both.farkas.parts)) in
        let on : IsStepOn (level_of it) it.steps.items (Theory [] (record { nodes = leaf ∷ [] })) = record {
          kind = tt;
          passes = record {
            names = (All-nil (NamesTerm it.system.now), All-cons (NodeNames it.system.now) leaf [] leaf_names (All-nil (NodeNames it.system.now)));
            numbers = subst (All StaysWithin) flat leaf_numbers;
            shows = (refutes, tt);
          };
        } in
        subst (λ (ns : List Node). IsStepOn (level_of it) it.steps.items (Theory [] (record { nodes = ns }))) (sym both.node) on

-- a clause of one literal
pub single_of : (clause : List Lit) (d : Lit) → length clause ≡ 1 → clause ≡ get_or clause 0 d ∷ []
single_of [] d count = absurd (omega arith)
single_of (only ∷ []) d count = refl
single_of (only ∷ other ∷ lits) d count = absurd (omega arith)

-- the leaf of a literal and its negation, as it is put together
pub both_made : (lit : Lit) (first second : FarkasPart) (farkas : Farkas) (none one two : List FarkasPart) (empty nodes : List Node) → none ≡ [] → one ≡ none ++ first ∷ [] → two ≡ one ++ second ∷ []
    → farkas.parts ≡ two → empty ≡ [] → nodes ≡ empty ++ Leaf farkas ∷ [] → first.lit ≡ lit → first.by ≡ pos 1 → second.lit ≡ negation lit → second.by ≡ pos 1 → IsBoth lit nodes
both_made lit first second farkas none one two empty nodes no_parts one_is two_is parts no_nodes nodes_are first_lit first_by second_lit second_by = record {
  first = first;
  second = second;
  farkas = farkas;
  node = nodes_are ∙ ap (λ (ns : List Node). ns ++ Leaf farkas ∷ []) no_nodes;
  parts = parts ∙ two_is ∙ ap (λ (ps : List FarkasPart). ps ++ second ∷ []) (one_is ∙ ap (λ (ps : List FarkasPart). ps ++ first ∷ []) no_parts);
  first_lit = first_lit;
  second_lit = second_lit;
  first_by = first_by;
  second_by = second_by;
}
