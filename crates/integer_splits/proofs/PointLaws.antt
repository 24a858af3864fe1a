-- A kept point whose numbers are whole, and a box in which each variable is fixed.
use Rattle.std.proofs.Common.{◌≡◌, ℕ, ◌+◌, ◌<◌, ◌≤◌, List, [], ◌∷◌, ◌++◌, length, length-append, ⊎_elim, get_or, Option, None, Some, ℤ, pos, ◌+ℤ◌, ◌*ℤ◌, ◌≤ℤ◌, ◌<ℤ◌, All, refl, sym, ap, ◌∙◌, subst, arith}
use Rattle.std.specs.Prelude.{fold}
use Rattle.std.proofs.lemmas.Int.{ints}
use Rattle.std.proofs.lemmas.Bool.{cases_lt}
use Rattle.std.proofs.lemmas.List.{get_or_append_left, get_or_at}
use Rattle.std.proofs.lemmas.List.Sums.{fold-append}
use Rattle.std.proofs.lemmas.List.Elements.{All-head, All-tail}
use Rattle.mix_system.specs.declared.literal.Term.{Term}
use Rattle.mix_system.specs.declared.literal.Term.TheVariants.{Var, Row}
use Rattle.mix_system.specs.declared.literal.Lit.{Lit}
use Rattle.mix_system.specs.declared.literal.Side.{Side}
use Rattle.mix_system.specs.declared.literal.Side.TheVariants.{Le, Ge}
use Rattle.mix_system.specs.declared.row.Part.{Part}
use Rattle.mix_system.specs.Fits.{term_value}
use Rattle.mix_system.specs.Lit.{IsWithin}
use Rattle.mix_system.specs.Row.{number_at, product_at, row_value}
use Rattle.mix_system.specs.Sum.{int_sum_by}
use Rattle.mix_system.specs.System.{Exists, IsWellFormed}
use Rattle.tableau_rows.specs.declared.equation.Equation.{Equation}
use Rattle.tableau_rows.proofs.RingLaws.{mul-add, mul_assoc, mul_comm}
use Rattle.bounded_simplex.specs.Combination.{IsCalmBox}
use Rattle.bounded_simplex.specs.InForce.{BoundChanges, after_change, from_ranges, in_force, Contradict}
use Rattle.bounded_simplex.specs.Point.{Admits, NoneContradict, IsPoint}
use Rattle.bounded_simplex.specs.Refutation.{bound_on}
use Rattle.bounded_simplex.specs.Sums.{IsFixedAt, KeepsSum}
use Rattle.bounded_simplex.proofs.CoefficientLaws.{term_of_var, term_of_row}
use Rattle.bounded_simplex.proofs.EndLaws.{var_end, left_after}
use Rattle.bounded_simplex.proofs.PointLaws.{admits_same}
use Rattle.integer_splits.specs.Boxes.{with_splits}
use Rattle.integer_splits.specs.WholePoint.{IsWholePoint, IsValueOf, AreValuesOf}
use Rattle.integer_splits.specs.Work.{AreNarrow}

swapped : (c d v : ℤ) → c *ℤ (d *ℤ v) ≡ d *ℤ (c *ℤ v)
swapped c d v = sym (mul_assoc c d v) ∙ ap (λ z. z *ℤ v) (mul_comm c d) ∙ mul_assoc d c v

-- a sum of multiples is a multiple of the sum
sum_times : (denominator : ℤ) (number : ℕ → ℤ) (point : List ℤ) (vars : ℕ) (parts : List Part) → All (λ part. part.var < vars) parts
    → ((var : ℕ) → var < vars → number var ≡ denominator *ℤ number_at point var)
    → int_sum_by (λ part. part.coeff *ℤ number part.var) parts ≡ denominator *ℤ row_value parts point
sum_times denominator number point vars [] known is = omega (arith, ints)
sum_times denominator number point vars (part ∷ parts) known is =
    let first = ap (λ z. part.coeff *ℤ z) (is part.var (All-head (λ (part : Part). part.var < vars) part parts known)) ∙ swapped part.coeff denominator (number_at point part.var) in
    let rest = sum_times denominator number point vars parts (All-tail (λ (part : Part). part.var < vars) part parts known) is in
    (λ i. first i +ℤ rest i) ∙ sym (mul-add denominator (product_at point part) (row_value parts point))

-- the kept point is whole, where its variables are: then it lies inside all bounds as the kept point does
pub whole_inside : (bounds : BoundChanges) (rows : List Equation) (values point : List ℤ) → IsWellFormed bounds.system → IsPoint bounds rows values → length point ≡ length bounds.system.ranges
    → AreValuesOf bounds rows values point → IsWholePoint bounds point
whole_inside bounds rows values point formed kept count whole = record {
  one_each = count;
  inside = of_term;
}
  where
    vars : ℕ
    vars = length bounds.system.ranges

    at : (var : ℕ) → var < length bounds.system.ranges → kept.number var ≡ kept.denominator *ℤ number_at point var
    at var within = whole var (omega (arith, count)) kept.denominator kept.number kept.kept

    keeps : (side : Side) (column : ℕ) (value : ℤ) → column < length bounds.system.ranges + length bounds.system.rows → kept.number column ≡ kept.denominator *ℤ value
        → Admits side (bound_on bounds column side) (pos 1) value
    keeps side column value within is =
        admits_same side (bound_on bounds column side) kept.denominator (kept.number column) (pos 1) value kept.kept.positive (omega (arith, ints)) (omega (arith, ints, is)) (kept.inside column side within)

    of_term : (term : Term) (side : Side) → Exists (length bounds.system.ranges) (length bounds.system.rows) term → Admits side (in_force bounds term side) (pos 1) (term_value bounds.system.rows point term)
    of_term (Var var) side exists =
        subst (λ t. Admits side (in_force bounds t side) (pos 1) (number_at point var)) (term_of_var (length bounds.system.ranges) var exists)
        (keeps side var (number_at point var) (omega (arith, exists)) (at var exists))
    of_term (Row row) side exists =
        let parts = get_or bounds.system.rows row [] in
        let sum = kept.kept.solves row exists ∙ sum_times kept.denominator kept.number point (length bounds.system.ranges) parts (formed.rows row [] exists).known at in
        subst (λ t. Admits side (in_force bounds t side) (pos 1) (row_value parts point)) (term_of_row (length bounds.system.ranges) row)
        (keeps side (length bounds.system.ranges + row) (row_value parts point) (omega (arith, exists)) sum)

-- a box in which no range has two numbers, no bounds contradict each other, and the sums of the rows keep theirs
module _ (bounds : BoundChanges) (point : List ℤ) (narrow : AreNarrow bounds) (apart : NoneContradict bounds)
    (low : (var : ℕ) → var < length bounds.system.ranges → in_force bounds (Var var) Ge ≡ Some (number_at point var)) where
  fixed : IsFixedAt bounds point
  fixed var Ge within = low var within
  fixed var Le within =
      let high = var_end bounds var Le in
      let below = narrow var within (number_at point var) high.bound (low var within) high.is in
      let ordered : ¬ (high.bound <ℤ number_at point var) = λ less.
      apart var (omega (arith, within))
      (subst (λ t. Contradict (in_force bounds t Ge) (in_force bounds t Le)) (sym (term_of_var (length bounds.system.ranges) var within)) (rw (low var within, high.is) less)) in
      let same : high.bound ≡ number_at point var = squeezed high.bound (number_at point var) below ordered in
      high.is ∙ ap Some same
    where
      squeezed : (a b : ℤ) → a ≤ℤ b → ¬ (a <ℤ b) → a ≡ b
      squeezed a b below ordered = grind (arith, ints)

  pub fixed_inside : length point ≡ length bounds.system.ranges → IsCalmBox bounds
      → (IsCalmBox bounds → (point : List ℤ) → IsFixedAt bounds point → (row : ℕ) (side : Side) → row < length bounds.system.rows → KeepsSum bounds point row side)
      → IsWholePoint bounds point
  fixed_inside count calm sums = record {
    one_each = count;
    inside = of_term;
  }
    where
      itself : (side : Side) (v : ℤ) → Admits side (Some v) (pos 1) v
      itself Le v = omega (arith, ints)
      itself Ge v = omega (arith, ints)

      of_term : (term : Term) (side : Side) → Exists (length bounds.system.ranges) (length bounds.system.rows) term → Admits side (in_force bounds term side) (pos 1) (term_value bounds.system.rows point term)
      of_term (Var var) side exists = rw (fixed var side exists) (itself side (number_at point var))
      of_term (Row row) side exists = sums calm point fixed row side exists

-- a point inside all bounds with those of some splits lies inside the bounds without them
pub outer_point : (base : BoundChanges) (splits : List Lit) (point : List ℤ) → IsWholePoint (with_splits base splits) point → IsWholePoint base point
outer_point base splits point whole = record {
  one_each = whole.one_each;
  inside = λ term side exists. looser term side (in_force base term side) refl (whole.inside term side exists);
}
  where
    weaker : (side : Side) (end bound value : ℤ) → IsWithin side end bound → Admits side (Some bound) (pos 1) value → Admits side (Some end) (pos 1) value
    weaker Le end bound value tight keeps = omega (arith, ints, tight, keeps)
    weaker Ge end bound value tight keeps = omega (arith, ints, tight, keeps)

    looser : (term : Term) (side : Side) (end : Option ℤ) → in_force base term side ≡ end → Admits side (in_force (with_splits base splits) term side) (pos 1) (term_value base.system.rows point term)
        → Admits side end (pos 1) (term_value base.system.rows point term)
    looser term side None is keeps = tt
    looser term side (Some end) is keeps =
        let left = left_after term side end splits in
        let now : in_force (with_splits base splits) term side ≡ Some left.bound =
        fold-append (after_change term side) (from_ranges base.system.ranges term side) base.changes splits ∙ ap (λ o. fold (after_change term side) o splits) is ∙ left.is in
        weaker side end left.bound (term_value base.system.rows point term) left.as_tight (subst (λ o. Admits side o (pos 1) (term_value base.system.rows point term)) now keeps)

-- one more value
pub values_push : (bounds : BoundChanges) (rows : List Equation) (values point more : List ℤ) (var : ℕ) (value : ℤ) → length point ≡ var → more ≡ point ++ value ∷ [] → IsValueOf bounds rows values var value
    → AreValuesOf bounds rows values point → AreValuesOf bounds rows values more
values_push bounds rows values point more var value count added here before k within =
    ⊎_elim (λ (lt : k < length point).
    subst (IsValueOf bounds rows values k) (sym (ap (λ ns. number_at ns k) added ∙ get_or_append_left point (value ∷ []) (pos 0) k lt)) (before k lt))
    (λ (le : length point ≤ k).
    let same : k ≡ length point = omega (arith, le, within, ap length added, length-append point (value ∷ [])) in
    subst (IsValueOf bounds rows values k) (sym (ap (λ ns. number_at ns k) added ∙ get_or_at point value [] (pos 0) k (sym same)))
    (subst (λ n. IsValueOf bounds rows values n value) (sym (same ∙ count)) here)) (cases_lt k (length point))
