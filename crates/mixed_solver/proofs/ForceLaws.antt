-- The bounds in force say what is in the box, and are literals of it.
use Rattle.std.proofs.Common.{◌≡◌, zero, suc, Bool, true, false, cond, List, [], ◌∷◌, length, get_or, Option, None, Some, ℤ, pos, ◌⊎◌, refl, sym, ap, ◌∙◌, subst, inl, inr, ⊎_elim, arith}
use Rattle.std.specs.Prelude.{fold, int_lt, Contains}
use Rattle.std.proofs.lemmas.Int.{ints}
use Rattle.std.proofs.lemmas.Bool.{cases_Bool}
use Rattle.std.proofs.lemmas.List.Sums.{fold-append}
use Rattle.mix_system.specs.declared.literal.Term.{Term}
use Rattle.mix_system.specs.declared.literal.Term.TheVariants.{Var}
use Rattle.mix_system.specs.declared.literal.Side.{Side}
use Rattle.mix_system.specs.declared.literal.Side.TheVariants.{Le, Ge}
use Rattle.mix_system.specs.declared.literal.Lit.{Lit}
use Rattle.mix_system.specs.Lit.{IsWithin}
use Rattle.mix_system.specs.System.{Exists}
use Rattle.mix_system.specs.Bounds.{IsIn, range_end, range_bounds}
use Rattle.mix_system.proofs.BoundLaws.{IsIn-none, IsIn-append_cases, IsIn-cons_cases, range_bounds_say}
use Rattle.bounded_simplex.specs.InForce.{BoundChanges, bounds_on, tighter, tightened, after_change, from_ranges, in_force}
use Rattle.bounded_simplex.specs.Refutation.{box_of, SaysInForce}
use Rattle.bounded_simplex.proofs.BoundListLaws.{bounds_on_itself, from_bounds_on}
use Rattle.bounded_simplex.proofs.InBoxLaws.{one_of_both, in_box}
use Rattle.bounded_simplex.proofs.EndLaws.{IsLeft, left_after, var_end}
use Rattle.integer_splits.specs.Boxes.{with_splits}

within_trans : (side : Side) (a b c : ℤ) → IsWithin side a b → IsWithin side b c → IsWithin side a c
within_trans Le a b c one two = omega (arith, ints, one, two)
within_trans Ge a b c one two = omega (arith, ints, one, two)

same_bound : (side : Side) (a b : ℤ) → IsWithin side a b → IsWithin side b a → a ≡ b
same_bound Le a b one two = omega (arith, ints, one, two)
same_bound Ge a b one two = omega (arith, ints, one, two)

within_refl : (side : Side) (a : ℤ) → IsWithin side a a
within_refl Le a = omega (arith, ints)
within_refl Ge a = omega (arith, ints)

tighter_bound : (side : Side) (end bound : ℤ) → IsWithin side bound (tighter side end bound)
tighter_bound Le end bound = of (int_lt bound end) refl
  where
    of : (t : Bool) → int_lt bound end ≡ t → IsWithin Le bound (cond t bound end)
    of true is = within_refl Le bound
    of false is = grind (arith, ints)
tighter_bound Ge end bound = of (int_lt end bound) refl
  where
    of : (t : Bool) → int_lt end bound ≡ t → IsWithin Ge bound (cond t bound end)
    of true is = within_refl Ge bound
    of false is = grind (arith, ints)

-- a bound that is as tight as one that is as tight
left_tighter : (side : Side) (a b : ℤ) (left : Option ℤ) → IsWithin side a b → IsLeft side b left → IsLeft side a left
left_tighter side a b left tight is = record { bound = is.bound; is = is.is; as_tight = within_trans side a b is.bound tight is.as_tight }

-- what a literal of the changes leaves is as tight
left_by_change : (term : Term) (side : Side) (bound : ℤ) (changes : List Lit) (start : Option ℤ) → IsIn changes (record { term = term; side = side; bound = bound })
    → IsLeft side bound (fold (after_change term side) start changes)
left_by_change term side bound [] start within = absurd (IsIn-none _ within)
left_by_change term side bound (lit ∷ changes) start within =
    ⊎_elim
    (λ entails.
    let on : bounds_on term side lit ≡ true = subst (λ s. bounds_on term s lit ≡ true) entails.same_side (subst (λ t. bounds_on t lit.side lit ≡ true) entails.same_term (bounds_on_itself lit)) in
    subst (λ t. IsLeft side bound (fold (after_change term side) (cond t (tightened side start lit.bound) start) changes)) (sym on) (of_first start entails.as_strong))
    (λ later. left_by_change term side bound changes (after_change term side start lit) later)
    (IsIn-cons_cases lit changes _ within)
  where
    of_first : (start : Option ℤ) → IsWithin side bound lit.bound → IsLeft side bound (fold (after_change term side) (tightened side start lit.bound) changes)
    of_first None strong = left_tighter side bound lit.bound _ strong (left_after term side lit.bound changes)
    of_first (Some end) strong =
        left_tighter side bound (tighter side end lit.bound) _ (within_trans side bound lit.bound (tighter side end lit.bound) strong (tighter_bound side end lit.bound))
        (left_after term side (tighter side end lit.bound) changes)

-- the bound in force on a literal's side is as tight, where the box says the literal
pub in_force_says : (bounds : BoundChanges) (lit : Lit) → IsIn (box_of bounds) lit → IsLeft lit.side lit.bound (in_force bounds lit.term lit.side)
in_force_says bounds lit within =
    ⊎_elim
    (λ ranges.
    let from = range_bounds_say bounds.system.ranges lit ranges in
    let term : lit.term ≡ Var from.at = from.term ∙ ap Var (omega arith) in
    left_tighter lit.side lit.bound (range_end lit.side (get_or bounds.system.ranges from.at (pos 0, pos 0))) (in_force bounds lit.term lit.side) from.as_strong
    (subst (λ t. IsLeft lit.side (range_end lit.side (get_or bounds.system.ranges from.at (pos 0, pos 0))) (in_force bounds t lit.side)) (sym term) (var_end bounds from.at lit.side)))
    (λ changes. left_by_change lit.term lit.side lit.bound bounds.changes (from_ranges bounds.system.ranges lit.term lit.side) changes)
    (IsIn-append_cases (range_bounds bounds.system.ranges) bounds.changes lit within)

-- the bound in force is that of a change, or was there before
put_or_before : (term : Term) (side : Side) (bound : ℤ) (changes : List Lit) (start : Option ℤ) → fold (after_change term side) start changes ≡ Some bound
    → (start ≡ Some bound) ⊎ Contains changes (record { term = term; side = side; bound = bound })
put_or_before term side bound [] start is = inl is
put_or_before term side bound (lit ∷ changes) start is =
    ⊎_elim (λ first. ⊎_elim
    (λ on. ⊎_elim
    (λ own. let (of_term, of_side) = from_bounds_on term side lit on in inr (zero, omega arith, λ i. record { term = of_term i; side = of_side i; bound = own i }))
    inl
    (one_of_both side start lit.bound bound (sym (ap (λ b. cond b (tightened side start lit.bound) start) on) ∙ first)))
    (λ apart. inl (sym (ap (λ b. cond b (tightened side start lit.bound) start) apart) ∙ first)) (cases_Bool (bounds_on term side lit)))
    (λ later. inr (suc later.0, omega (arith, later.1), later.2)) (put_or_before term side bound changes (after_change term side start lit) is)

from_range : (bounds : BoundChanges) (lit : Lit) → Exists (length bounds.system.ranges) (length bounds.system.rows) lit.term → from_ranges bounds.system.ranges lit.term lit.side ≡ Some lit.bound
    → IsIn (range_bounds bounds.system.ranges) lit
from_range bounds lit exists is =
    ⊎_elim (λ here. here) (λ none. absurd (IsIn-none lit none))
    (IsIn-append_cases (range_bounds bounds.system.ranges) [] lit (in_box (record bounds { changes = [] }) lit exists is))

-- a literal that says the bound in force is one of the changes, or a range says it
pub in_force_is_put : (bounds : BoundChanges) (lit : Lit) → Exists (length bounds.system.ranges) (length bounds.system.rows) lit.term → SaysInForce bounds lit
    → Contains bounds.changes lit ⊎ IsIn (range_bounds bounds.system.ranges) lit
in_force_is_put bounds lit exists says =
    ⊎_elim (λ start. inr (from_range bounds lit exists start)) inl (put_or_before lit.term lit.side lit.bound bounds.changes (from_ranges bounds.system.ranges lit.term lit.side) says)

-- splits leave the bound in force as it was, where the box without them says it
pub in_force_without : (base : BoundChanges) (splits : List Lit) (lit : Lit) → IsIn (box_of base) lit → SaysInForce (with_splits base splits) lit → SaysInForce base lit
in_force_without base splits lit within says =
    let before = in_force_says base lit within in
    let after = left_after lit.term lit.side before.bound splits in
    let joined : fold (after_change lit.term lit.side) (in_force base lit.term lit.side) splits ≡ Some lit.bound =
    sym (fold-append (after_change lit.term lit.side) (from_ranges base.system.ranges lit.term lit.side) base.changes splits) ∙ says in
    let both : Some after.bound ≡ Some lit.bound = sym after.is ∙ (ap (λ s. fold (after_change lit.term lit.side) s splits) (sym before.is) ∙ joined) in
    let same : after.bound ≡ lit.bound = cc in
    let tight : IsWithin lit.side before.bound lit.bound = subst (IsWithin lit.side before.bound) same after.as_tight in
    before.is ∙ ap Some (same_bound lit.side before.bound lit.bound tight before.as_tight)
