-- Bounds in force are small where the ranges and all changes are.
use Rattle.std.proofs.Common.{◌≡◌, cond, List, [], ◌∷◌, length, get_or, Option, Some, ℤ, pos, All, sym, ap, ◌∙◌, subst, ⊎_elim}
use Rattle.std.specs.Prelude.{fold}
use Rattle.std.proofs.lemmas.Bool.{cases_Bool}
use Rattle.std.proofs.lemmas.List.Elements.{All-head, All-tail}
use Rattle.mix_system.specs.declared.literal.Lit.{Lit}
use Rattle.mix_system.specs.declared.literal.Side.{Side}
use Rattle.mix_system.specs.declared.literal.Side.TheVariants.{Le, Ge}
use Rattle.mix_system.specs.declared.literal.Term.{Term}
use Rattle.mix_system.specs.declared.literal.Term.TheVariants.{Var, Row}
use Rattle.mix_system.specs.Calm.{IsCalm, IsSmall}
use Rattle.mix_system.specs.System.{Exists}
use Rattle.mix_system.specs.Bounds.{range_end}
use Rattle.bounded_simplex.specs.Combination.{AreSmall}
use Rattle.bounded_simplex.specs.InForce.{BoundChanges, bounds_on, tightened, after_change, from_ranges}
use Rattle.bounded_simplex.proofs.InBoxLaws.{one_of_both}

small_after : (term : Term) (side : Side) (bound : ℤ) (changes : List Lit) (start : Option ℤ) → All (λ lit. IsSmall lit.bound) changes → ((end : ℤ) → start ≡ Some end → IsSmall end)
    → fold (after_change term side) start changes ≡ Some bound → IsSmall bound
small_after term side bound [] start small first is = first bound is
small_after term side bound (lit ∷ changes) start small first is =
    small_after term side bound changes (after_change term side start lit) (All-tail (λ (lit : Lit). IsSmall lit.bound) lit changes small)
    (λ end e. ⊎_elim
    (λ on. ⊎_elim (λ own. subst IsSmall own (All-head (λ (lit : Lit). IsSmall lit.bound) lit changes small)) (λ old. first end old)
    (one_of_both side start lit.bound end (sym (ap (λ t. cond t (tightened side start lit.bound) start) on) ∙ e)))
    (λ apart. first end (sym (ap (λ t. cond t (tightened side start lit.bound) start) apart) ∙ e)) (cases_Bool (bounds_on term side lit)))
    is

pub small_bounds : (bounds : BoundChanges) → IsCalm bounds.system → All (λ lit. IsSmall lit.bound) bounds.changes → AreSmall bounds
small_bounds bounds calm small term side bound exists is =
    small_after term side bound bounds.changes (from_ranges bounds.system.ranges term side) small (λ end e. at_first term exists side end e) is
  where
    end_small : (side : Side) (range : ℤ × ℤ) → IsSmall range.0 × IsSmall range.1 → IsSmall (range_end side range)
    end_small Le range both = both.1
    end_small Ge range both = both.0

    at_first : (term : Term) → Exists (length bounds.system.ranges) (length bounds.system.rows) term → (side : Side) (end : ℤ) → from_ranges bounds.system.ranges term side ≡ Some end → IsSmall end
    at_first (Var var) exists side end e =
        let same : range_end side (get_or bounds.system.ranges var (pos 0, pos 0)) ≡ end = cc in
        subst IsSmall same (end_small side (get_or bounds.system.ranges var (pos 0, pos 0)) (calm.ends var (pos 0, pos 0) exists))
    at_first (Row row) exists side end e = cc
