-- What bounds entail, and their negations.
use Rattle.std.proofs.Common.{◌≡◌, ◌⊎◌, ℤ, List, refl, sym, ap, ◌∙◌, subst, inl, inr, ⊎_elim, arith}
use Rattle.std.proofs.lemmas.Int.{ints, by_lt_z}
use Rattle.mix_system.specs.declared.literal.Side.{Side}
use Rattle.mix_system.specs.declared.literal.Side.TheVariants.{Le, Ge}
use Rattle.mix_system.specs.declared.literal.Lit.{Lit}
use Rattle.mix_system.specs.Lit.{IsWithin, other_side, negated_bound, negation}
use Rattle.mix_system.specs.Bounds.{Entails, IsIn}
use Rattle.bound_trail.proofs.AnywhereLaws.{any_weaker}

within_trans : (side : Side) (a b c : ℤ) → IsWithin side b a → IsWithin side c b → IsWithin side c a
within_trans Le a b c h k = omega (arith, ints)
within_trans Ge a b c h k = omega (arith, ints)

within_refl : (side : Side) (a : ℤ) → IsWithin side a a
within_refl Le a = omega (arith, ints)
within_refl Ge a = omega (arith, ints)

pub entails_itself : (lit : Lit) → Entails lit lit
entails_itself lit = record { same_term = refl; same_side = refl; as_strong = within_refl lit.side lit.bound }

pub entails_trans : (a b c : Lit) → Entails a b → Entails b c → Entails a c
entails_trans a b c h k = record {
  same_term = h.same_term ∙ k.same_term;
  same_side = h.same_side ∙ k.same_side;
  as_strong = within_trans c.side a.bound b.bound c.bound (subst (λ side. IsWithin side b.bound a.bound) k.same_side h.as_strong) k.as_strong;
}

pub in_weaker : (box : List Lit) (lit weaker : Lit) → Entails lit weaker → IsIn box lit → IsIn box weaker
in_weaker box lit weaker e a =
    any_weaker (λ bound. Entails bound lit) (λ bound. Entails bound weaker) (λ bound h. entails_trans bound lit weaker h e) box a

other_other : (side : Side) → other_side (other_side side) ≡ side
other_other Le = refl
other_other Ge = refl

negated_twice : (side : Side) (bound : ℤ) → negated_bound (other_side side) (negated_bound side bound) ≡ bound
negated_twice Le bound = omega (arith, ints)
negated_twice Ge bound = omega (arith, ints)

pair_same : (s t : Side) (a b : ℤ) → s ≡ t → a ≡ b → ◌≡◌ {A = Side × ℤ} (s, a) (t, b)
pair_same s t a b e f = cc

pub negation_twice : (lit : Lit) → negation (negation lit) ≡ lit
negation_twice lit =
    let side = other_other lit.side in
    let bound = negated_twice lit.side lit.bound in
    ap (λ (p : Side × ℤ). record { term = lit.term; side = p.0; bound = p.1 }) (pair_same _ _ _ _ side bound)

within_negated : (side : Side) (a b : ℤ) → IsWithin side b a → IsWithin (other_side side) (negated_bound side a) (negated_bound side b)
within_negated Le a b h = omega (arith, ints)
within_negated Ge a b h = omega (arith, ints)

-- a stronger bound has the weaker negation
pub negation_entails : (a b : Lit) → Entails a b → Entails (negation b) (negation a)
negation_entails a b h = record {
  same_term = sym h.same_term;
  same_side = ap other_side (sym h.same_side);
  as_strong = subst (λ side. IsWithin (other_side side) (negated_bound side a.bound) (negated_bound b.side b.bound)) (sym h.same_side) (within_negated b.side a.bound b.bound h.as_strong);
}

-- where one bound makes another one false, that one makes it false too
pub falsifies_each_other : (a b : Lit) → Entails a (negation b) → Entails b (negation a)
falsifies_each_other a b h =
    subst (λ lit. Entails lit (negation a)) (negation_twice b) (negation_entails a (negation b) h)

pub sides_differ : (side : Side) → side ≡ other_side side → ⊥
sides_differ Le e = cc
sides_differ Ge e = cc

pub not_against_itself : (lit : Lit) → Entails lit (negation lit) → ⊥
not_against_itself lit h = sides_differ lit.side h.same_side

within_total : (side : Side) (a b : ℤ) → IsWithin side b a ⊎ IsWithin side a b
within_total Le a b = by_lt_z a b (λ h. inl (omega (arith, ints))) (λ h. inr (omega (arith, ints)))
within_total Ge a b = by_lt_z a b (λ h. inr (omega (arith, ints))) (λ h. inl (omega (arith, ints)))

-- of two bounds on one side of one term, the one that a third doesn't entail is the stronger
pub entails_where_newer : (old put lit : Lit) → put.term ≡ lit.term → put.side ≡ lit.side → Entails old lit → (Entails old put → ⊥) → Entails put lit
entails_where_newer old put lit same_term same_side h newer =
    ⊎_elim
    (λ w. record { same_term = same_term; same_side = same_side; as_strong = w })
    (λ w. absurd (newer (record {
      same_term = h.same_term ∙ sym same_term;
      same_side = h.same_side ∙ sym same_side;
      as_strong = subst (λ side. IsWithin side put.bound old.bound) (sym same_side) (within_trans lit.side old.bound lit.bound put.bound h.as_strong w);
    })))
    (within_total lit.side put.bound lit.bound)
