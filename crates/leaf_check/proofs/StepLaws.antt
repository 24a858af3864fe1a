-- The first step that would overflow, of steps that are put together.
use Rattle.std.proofs.Common.{◌≡◌, ℤ, ◌*ℤ◌, List, [], ◌∷◌, ◌++◌, ◌↔◌, FitsSigned, IsOk, IfErr, Result, Ok, Err, refl, sym, ◌∙◌, ap, subst, append_assoc, All}
use Rattle.std.specs.Int.{w128}
use Rattle.std.proofs.lemmas.Bool.{false≢true}
use Rattle.std.proofs.lemmas.List.Elements.{All-nil, All-cons, All-append}
use Rattle.wx_num.specs.declared.excess.NumOp.TheVariants.{Times}
use Rattle.wx_num.specs.declared.excess.Excess.{Excess}
use Rattle.mix_system.specs.declared.literal.Side.{Side}
use Rattle.mix_system.specs.FarkasSum.{sum_op}
use Rattle.proof_term.specs.Steps.{StaysWithin}
use Rattle.leaf_check.specs.Steps.{product_steps, IsFirstExcess}

pub first_behind : (done rest : List Excess) (excess : Excess) → All StaysWithin done → IsFirstExcess rest excess → IsFirstExcess (done ++ rest) excess
first_behind done rest excess stay first = record {
  before = done ++ first.before;
  after = first.after;
  split = ap (λ (steps : List Excess). done ++ steps) first.split ∙ sym (append_assoc done first.before (excess ∷ first.after));
  stay = All-append StaysWithin done first.before stay first.stay;
  overflows = first.overflows;
}

pub first_in_front : (front rest : List Excess) (excess : Excess) → IsFirstExcess front excess → IsFirstExcess (front ++ rest) excess
first_in_front front rest excess first = record {
  before = first.before;
  after = first.after ++ rest;
  split = ap (λ (steps : List Excess). steps ++ rest) first.split ∙ append_assoc first.before (excess ∷ first.after) rest;
  stay = first.stay;
  overflows = first.overflows;
}

module _ (side : Side) (sum by factor : ℤ) where
  pub product_overflows : (excess : Excess) → excess ≡ record { op = Times; x = by; y = factor } → (FitsSigned w128 (by *ℤ factor) → ⊥) → IsFirstExcess (product_steps side sum by factor) excess
  product_overflows excess is outside = rw is (record {
    before = [];
    after = record { op = sum_op side; x = sum; y = by *ℤ factor } ∷ [];
    split = refl;
    stay = All-nil StaysWithin;
    overflows = outside;
  })

  pub sum_overflows : (excess : Excess) → excess ≡ record { op = sum_op side; x = sum; y = by *ℤ factor } → FitsSigned w128 (by *ℤ factor)
      → (StaysWithin (record { op = sum_op side; x = sum; y = by *ℤ factor }) → ⊥) → IsFirstExcess (product_steps side sum by factor) excess
  sum_overflows excess is product outside = rw is (record {
    before = record { op = Times; x = by; y = factor } ∷ [];
    after = [];
    split = refl;
    stay = All-cons StaysWithin _ [] product (All-nil StaysWithin);
    overflows = outside;
  })

  pub put_excess : (product : ℤ) (result : Result ℤ Excess) → product ≡ by *ℤ factor → FitsSigned w128 product → IfErr result (λ excess. excess ≡ record { op = sum_op side; x = sum; y = product })
      → (IsOk result ↔ StaysWithin (record { op = sum_op side; x = sum; y = product })) → IfErr result (IsFirstExcess (product_steps side sum by factor))
  put_excess product (Ok new) is fits excess within = tt
  put_excess product (Err e) is fits excess within =
      sum_overflows e (rw (← is) excess) (rw (← is) fits) (λ stays. false≢true (within.1 (rw is stays)))

-- the same steps where the numbers are equal
pub stay_as : (side : Side) (sum by other_by factor other_factor : ℤ) → by ≡ other_by → factor ≡ other_factor
    → All StaysWithin (product_steps side sum by factor) → All StaysWithin (product_steps side sum other_by other_factor)
stay_as side sum by other_by factor other_factor e f stay =
    subst (λ (b : ℤ). All StaysWithin (product_steps side sum b other_factor)) e (subst (λ (n : ℤ). All StaysWithin (product_steps side sum by n)) f stay)
