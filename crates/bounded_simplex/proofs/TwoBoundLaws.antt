-- Two bounds of one term that contradict each other.
use Rattle.std.proofs.Common.{◌≡◌, ℕ, [], ◌∷◌, Some, length, ℤ, pos, neg_ℤ, ◌*ℤ◌, ◌<ℤ◌, All, sym, ap, subst, arith}
use Rattle.std.specs.Prelude.{unsigned_abs}
use Rattle.std.proofs.lemmas.Int.{ints}
use Rattle.std.proofs.lemmas.List.Elements.{All-cons, All-nil}
use Rattle.mix_system.specs.declared.literal.Term.{Term}
use Rattle.mix_system.specs.declared.literal.Side.TheVariants.{Le, Ge}
use Rattle.mix_system.specs.declared.literal.Lit.{Lit}
use Rattle.mix_system.specs.declared.farkas.FarkasPart.{FarkasPart}
use Rattle.mix_system.specs.Calm.{IsSmall}
use Rattle.mix_system.specs.System.{Exists}
use Rattle.mix_system.specs.Bounds.{IsIn}
use Rattle.mix_system.specs.FarkasSum.{by_side, weight, bound_weight, FarkasRefutes}
use Rattle.bounded_simplex.specs.InForce.{BoundChanges, in_force}
use Rattle.bounded_simplex.specs.Terms.{times_in}
use Rattle.bounded_simplex.specs.Refutation.{box_of, SaysInForce}
use Rattle.bounded_simplex.specs.Combination.{IsRefutation}
use Rattle.bounded_simplex.proofs.InBoxLaws.{in_box}
use Rattle.bounded_simplex.proofs.LeafSizeLaws.{two_fit}

module _ (bounds : BoundChanges) (term : Term) (low high : ℤ) (exists : Exists (length bounds.system.ranges) (length bounds.system.rows) term)
    (below : in_force bounds term Ge ≡ Some low) (above : in_force bounds term Le ≡ Some high) (p q : FarkasPart)
    (p_lit : p.lit ≡ record { term = term; side = Ge; bound = low }) (q_lit : q.lit ≡ record { term = term; side = Le; bound = high }) (p_once : p.by ≡ pos 1) (q_once : q.by ≡ pos 1) where
  p_says : SaysInForce bounds p.lit
  p_says = subst (SaysInForce bounds) (sym p_lit) below

  q_says : SaysInForce bounds q.lit
  q_says = subst (SaysInForce bounds) (sym q_lit) above

  pub two_say : All (λ part. SaysInForce bounds part.lit) (p ∷ q ∷ [])
  two_say = All-cons (λ (part : FarkasPart). SaysInForce bounds part.lit) p (q ∷ []) p_says (All-cons (λ (part : FarkasPart). SaysInForce bounds part.lit) q [] q_says (All-nil (λ (part : FarkasPart). SaysInForce bounds part.lit)))

  p_in : IsIn (box_of bounds) p.lit
  p_in = subst (IsIn (box_of bounds)) (sym p_lit) (in_box bounds (record { term = term; side = Ge; bound = low }) exists below)

  q_in : IsIn (box_of bounds) q.lit
  q_in = subst (IsIn (box_of bounds)) (sym q_lit) (in_box bounds (record { term = term; side = Le; bound = high }) exists above)

  p_weight : (var : ℕ) → weight bounds.system.rows var p ≡ neg_ℤ (pos 1 *ℤ times_in bounds.system var term)
  p_weight var = (λ i. by_side (p_lit i).side (p_once i *ℤ times_in bounds.system var (p_lit i).term))

  q_weight : (var : ℕ) → weight bounds.system.rows var q ≡ pos 1 *ℤ times_in bounds.system var term
  q_weight var = (λ i. by_side (q_lit i).side (q_once i *ℤ times_in bounds.system var (q_lit i).term))

  p_bound : bound_weight p ≡ neg_ℤ (pos 1 *ℤ low)
  p_bound = (λ i. by_side (p_lit i).side (p_once i *ℤ (p_lit i).bound))

  q_bound : bound_weight q ≡ pos 1 *ℤ high
  q_bound = (λ i. by_side (q_lit i).side (q_once i *ℤ (q_lit i).bound))

  pub two_refute : high <ℤ low → FarkasRefutes bounds.system.rows (box_of bounds) (p ∷ q ∷ [])
  two_refute less = record {
    in_box = All-cons (λ (part : FarkasPart). IsIn (box_of bounds) part.lit) p (q ∷ []) p_in (All-cons (λ (part : FarkasPart). IsIn (box_of bounds) part.lit) q [] q_in (All-nil (λ (part : FarkasPart). IsIn (box_of bounds) part.lit)));
    vanishes = λ var. omega (arith, ints, p_weight var, q_weight var);
    contradictory = omega (arith, ints, p_bound, q_bound, less);
  }

  exists_p : Exists (length bounds.system.ranges) (length bounds.system.rows) p.lit.term
  exists_p = subst (λ (lit : Lit). Exists (length bounds.system.ranges) (length bounds.system.rows) lit.term) (sym p_lit) exists

  exists_q : Exists (length bounds.system.ranges) (length bounds.system.rows) q.lit.term
  exists_q = subst (λ (lit : Lit). Exists (length bounds.system.ranges) (length bounds.system.rows) lit.term) (sym q_lit) exists

  pub two_refutation : high <ℤ low → IsRefutation bounds (p ∷ q ∷ [])
  two_refutation less = record {
    refutes = two_refute less;
    known = All-cons (λ (part : FarkasPart). Exists (length bounds.system.ranges) (length bounds.system.rows) part.lit.term) p (q ∷ []) exists_p
        (All-cons (λ (part : FarkasPart). Exists (length bounds.system.ranges) (length bounds.system.rows) part.lit.term) q [] exists_q
        (All-nil (λ (part : FarkasPart). Exists (length bounds.system.ranges) (length bounds.system.rows) part.lit.term)));
    says = two_say;
    fit = λ calm. two_fit bounds.system calm.formed calm.system p q exists_p exists_q (ap unsigned_abs p_once) (ap unsigned_abs q_once)
        (subst (λ (lit : Lit). IsSmall lit.bound) (sym p_lit) (calm.small term Ge low exists below)) (subst (λ (lit : Lit). IsSmall lit.bound) (sym q_lit) (calm.small term Le high exists above));
  }
