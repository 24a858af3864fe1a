-- A bound in force is in the box of all bounds.
use Rattle.std.proofs.Common.{◌≡◌, cond, List, [], ◌∷◌, length, get_or, Option, None, Some, ℤ, pos, ◌⊎◌, refl, sym, ap, ◌∙◌, subst, inl, inr, ⊎_elim, arith}
use Rattle.std.specs.Prelude.{fold, int_lt}
use Rattle.std.proofs.lemmas.Int.{ints}
use Rattle.std.proofs.lemmas.Bool.{cases_Bool, cases_cond}
use Rattle.mix_system.specs.declared.literal.Term.{Term}
use Rattle.mix_system.specs.declared.literal.Term.TheVariants.{Var, Row}
use Rattle.mix_system.specs.declared.literal.Side.{Side}
use Rattle.mix_system.specs.declared.literal.Side.TheVariants.{Le, Ge}
use Rattle.mix_system.specs.declared.literal.Lit.{Lit}
use Rattle.mix_system.specs.Lit.{IsWithin}
use Rattle.mix_system.specs.System.{Exists}
use Rattle.mix_system.specs.Bounds.{Entails, IsIn, range_end, range_bounds}
use Rattle.mix_system.proofs.BoundLaws.{IsIn-first, IsIn-there, IsIn-append_left, IsIn-append_right, IsIn-range_bounds}
use Rattle.bounded_simplex.specs.InForce.{BoundChanges, bounds_on, tighter, tightened, after_change, from_ranges, in_force}
use Rattle.bounded_simplex.specs.Refutation.{box_of}
use Rattle.bounded_simplex.proofs.BoundListLaws.{from_bounds_on}

within_itself : (side : Side) (bound : ℤ) → IsWithin side bound bound
within_itself Le bound = omega (arith, ints)
within_itself Ge bound = omega (arith, ints)

says_itself : (lit : Lit) (term : Term) (side : Side) (bound : ℤ) → lit.term ≡ term → lit.side ≡ side → lit.bound ≡ bound → Entails lit (record { term = term; side = side; bound = bound })
says_itself lit term side bound of_term of_side of_bound = record {
  same_term = of_term;
  same_side = of_side;
  as_strong = subst (IsWithin side bound) (sym of_bound) (within_itself side bound);
}

-- the tighter bound is one of the two
pub one_of_both : (side : Side) (end : Option ℤ) (bound c : ℤ) → tightened side end bound ≡ Some c → (bound ≡ c) ⊎ (end ≡ Some c)
one_of_both side None bound c e = inl cc
one_of_both Le (Some end) bound c e =
    let is : tighter Le end bound ≡ c = cc in
    ⊎_elim (λ p. inl (sym p ∙ is)) (λ p. inr (ap Some (sym p ∙ is))) (cases_cond (int_lt bound end) bound end (tighter Le end bound) refl)
one_of_both Ge (Some end) bound c e =
    let is : tighter Ge end bound ≡ c = cc in
    ⊎_elim (λ p. inl (sym p ∙ is)) (λ p. inr (ap Some (sym p ∙ is))) (cases_cond (int_lt end bound) bound end (tighter Ge end bound) refl)

from_changes : (term : Term) (side : Side) (c : ℤ) (changes : List Lit) (start : Option ℤ) → fold (after_change term side) start changes ≡ Some c → (start ≡ Some c) ⊎ IsIn changes (record { term = term; side = side; bound = c })
from_changes term side c [] start e = inl e
from_changes term side c (lit ∷ changes) start e =
    ⊎_elim (λ first. ⊎_elim
    (λ on. ⊎_elim
    (λ bound. let (of_term, of_side) = from_bounds_on term side lit on in inr (IsIn-first lit changes _ (says_itself lit term side c of_term of_side bound)))
    inl
    (one_of_both side start lit.bound c (sym (ap (λ b. cond b (tightened side start lit.bound) start) on) ∙ first)))
    (λ apart. inl (sym (ap (λ b. cond b (tightened side start lit.bound) start) apart) ∙ first)) (cases_Bool (bounds_on term side lit)))
    (λ later. inr (IsIn-there lit changes _ later)) (from_changes term side c changes (after_change term side start lit) e)

from_range : (bounds : BoundChanges) (term : Term) (side : Side) (c : ℤ) → Exists (length bounds.system.ranges) (length bounds.system.rows) term → from_ranges bounds.system.ranges term side ≡ Some c
    → IsIn (range_bounds bounds.system.ranges) (record { term = term; side = side; bound = c })
from_range bounds (Var var) side c exists e =
    let is : range_end side (get_or bounds.system.ranges var (pos 0, pos 0)) ≡ c = cc in
    IsIn-range_bounds bounds.system.ranges (record { term = Var var; side = side; bound = c }) var refl exists (subst (IsWithin side c) (sym is) (within_itself side c))
from_range bounds (Row row) side c exists e = cc

pub in_box : (bounds : BoundChanges) (lit : Lit) → Exists (length bounds.system.ranges) (length bounds.system.rows) lit.term → in_force bounds lit.term lit.side ≡ Some lit.bound → IsIn (box_of bounds) lit
in_box bounds lit exists e =
    ⊎_elim (λ start. IsIn-append_left (range_bounds bounds.system.ranges) bounds.changes lit (from_range bounds lit.term lit.side lit.bound exists start))
    (λ later. IsIn-append_right (range_bounds bounds.system.ranges) bounds.changes lit later) (from_changes lit.term lit.side lit.bound bounds.changes (from_ranges bounds.system.ranges lit.term lit.side) e)
