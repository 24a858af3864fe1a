-- What a substitution makes of the sums.
use Rattle.std.proofs.Common.{◌≡◌, ◌≢◌, ℕ, zero, suc, ◌<◌, List, ℤ, pos, negsuc, neg_ℤ, ◌-ℤ◌, ◌*ℤ◌, ◌≤ℤ◌, ◌<ℤ◌, refl, sym, ap, ◌∙◌, arith}
use Rattle.std.proofs.lemmas.Int.{ints}
use Rattle.tableau_rows.specs.declared.entry.Entry.{Entry}
use Rattle.tableau_rows.specs.declared.equation.Equation.{Equation}
use Rattle.tableau_rows.specs.Equation.{total, unit, coefficient}
use Rattle.tableau_rows.specs.Substitution.{taken, sum_at, AreInLowestTerms, IsCombination}
use Rattle.tableau_rows.specs.Proper.{turned}
use Rattle.tableau_rows.proofs.RingLaws.{mul_assoc, neg-mul, mul_comm, mul-eq-zero}

turned_combination : (p q r s : ℤ) → turned p (p *ℤ r -ℤ q *ℤ s) ≡ turned p p *ℤ r -ℤ turned p q *ℤ s
turned_combination (pos p) q r s = refl
turned_combination (negsuc p) q r s = omega (arith, ints, neg-mul (negsuc p) r, neg-mul q s)

pub factor_nonzero : (a b p q : ℤ) → AreInLowestTerms a b p q → a ≢ pos 0 → p ≢ pos 0
factor_nonzero a b p q terms nonzero zero_p = nonzero (terms.first ∙ ap (λ z. z *ℤ pos terms.divisor) zero_p ∙ omega (arith, ints))

turned_nonzero : (p : ℤ) → p ≢ pos 0 → turned p p ≢ pos 0
turned_nonzero (pos p) nonzero e = nonzero e
turned_nonzero (negsuc p) nonzero e = nonzero (omega (arith, ints, e))

own_below : (p q d : ℤ) → p ≢ pos 0 → pos 1 ≤ℤ d → turned p (p *ℤ neg_ℤ d -ℤ q *ℤ pos 0) <ℤ pos 0
own_below p q (negsuc d) nonzero positive = absurd (omega (arith, ints))
own_below p q (pos zero) nonzero positive = absurd (omega (arith, ints))
own_below (pos zero) q (pos (suc d)) nonzero positive = absurd (nonzero refl)
own_below (pos (suc p)) q (pos (suc d)) nonzero positive = omega (arith, ints)
own_below (negsuc p) q (pos (suc d)) nonzero positive = omega (arith, ints)

-- the sums of the entries that a substitution makes
module _ (row pivot : Equation) (p q : ℤ) (entering : ℕ) (entries : List Entry) (terms : AreInLowestTerms (taken pivot entering) (taken row entering) p q) (pivot_takes : taken pivot entering ≢ pos 0)
    (sums : (number : ℕ → ℤ) → total number entries ≡ turned p (p *ℤ sum_at number row -ℤ q *ℤ sum_at number pivot)) where
  pub basic_below : taken pivot row.basic ≡ pos 0 → coefficient entries row.basic <ℤ pos 0
  basic_below without =
      let is : coefficient entries row.basic ≡ turned p (p *ℤ neg_ℤ row.denominator -ℤ q *ℤ pos 0) =
      sums (unit row.basic) ∙ (λ i. turned p (p *ℤ row.sound.solved i -ℤ q *ℤ without i)) in
      rw is (own_below p q row.denominator (factor_nonzero _ _ p q terms pivot_takes) row.sound.positive)

  pub entering_gone : coefficient entries entering ≡ pos 0
  entering_gone =
      let cancel : p *ℤ taken row entering ≡ q *ℤ taken pivot entering =
      rw (terms.first, terms.second) (sym (mul_assoc p q (pos terms.divisor)) ∙ ap (λ z. z *ℤ pos terms.divisor) (mul_comm p q) ∙ mul_assoc q p (pos terms.divisor)) in
      let none : p *ℤ taken row entering -ℤ q *ℤ taken pivot entering ≡ pos 0 = omega (arith, ints) in
      sums (unit entering) ∙ ap (turned p) none ∙ turned_zero p
    where
      turned_zero : (p : ℤ) → turned p (pos 0) ≡ pos 0
      turned_zero (pos p) = refl
      turned_zero (negsuc p) = refl

  module _ (new : Equation) (divisor : ℕ) (positive : 0 < divisor) (divided : (number : ℕ → ℤ) → total number entries ≡ pos divisor *ℤ sum_at number new) where
    divisor_nonzero : pos divisor ≢ pos 0
    divisor_nonzero e = absurd (omega (arith, ints, e))

    pub is_combination : IsCombination new row pivot
    is_combination = record {
      p = turned p p;
      q = turned p q;
      divisor = pos divisor;
      p_nonzero = turned_nonzero p (factor_nonzero _ _ p q terms pivot_takes);
      divisor_nonzero = divisor_nonzero;
      sums = λ number. sym (divided number) ∙ sums number ∙ turned_combination p q (sum_at number row) (sum_at number pivot);
    }

    pub is_gone : taken new entering ≡ pos 0
    is_gone = mul-eq-zero (pos divisor) (taken new entering) divisor_nonzero (sym (divided (unit entering)) ∙ entering_gone)
