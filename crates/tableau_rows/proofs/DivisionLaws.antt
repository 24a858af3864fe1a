-- Entries that are divided by a common divisor.
use Rattle.std.proofs.Common.{◌≡◌, ◌≢◌, ℕ, zero, suc, ◌+◌, ◌*◌, ◌<◌, ◌≤◌, List, [], ◌∷◌, length, get_or, take, set, ℤ, pos, negsuc, neg_ℤ, ◌^◌, ◌*ℤ◌, ◌≤ℤ◌, ◌<ℤ◌, FitsSigned, All, sym, ap, ◌∙◌, subst, ⊎_elim, arith}
use Rattle.std.specs.Prelude.{unsigned_abs}
use Rattle.std.specs.Int.{◌∣◌, IsGcd}
use Rattle.std.proofs.lemmas.Int.{ints, unsigned_abs-mul}
use Rattle.std.specs.Int.{w128}
use Rattle.std.proofs.lemmas.Bool.{cases_lt}
use Rattle.std.proofs.lemmas.List.{get_or-take, length-take, take-take, get_or_default, get_or-set_same, get_or-set_other}
use Rattle.std.proofs.Math.Nat.{mul-dvd-mul_right, dvd_of_mul-dvd-mul_right, eq-one_of_dvd-one, one-mul}
use Rattle.std.proofs.lemmas.List.Elements.{All-more, All-take, All-weaker, All-same}
use Rattle.std.proofs.lemmas.Nat.Gcd.{dvd_trans}
use Rattle.tableau_rows.specs.declared.entry.Entry.{Entry}
use Rattle.tableau_rows.specs.Equation.{total, IsSparse, IsReduced}
use Rattle.tableau_rows.specs.Reduction.{IsDivided, AreDivided}
use Rattle.tableau_rows.proofs.RingLaws.{mul_assoc, mul-add, mul_comm}

abbrev pub Divides : ℕ → Entry → Type 0
Divides d entry = d ∣ unsigned_abs entry.coeff

-- one more entry
pub divides_more : (entries : List Entry) (i : ℕ) (e : Entry) (divisor next : ℕ) → i < length entries → All (Divides divisor) (take i entries) → IsGcd divisor (unsigned_abs (get_or entries i e).coeff) next → All (Divides next) (take (i + 1) entries)
divides_more entries i e divisor next within before gcd =
    All-more (Divides next) entries i e within (All-weaker (Divides divisor) (Divides next) (λ entry h. dvd_trans next (gcd.0) h) (take i entries) before) (gcd.1)

pub greatest_more : (entries : List Entry) (i : ℕ) (e : Entry) (divisor next : ℕ) → i < length entries → ((d : ℕ) → All (Divides d) (take i entries) → d ∣ divisor) → IsGcd divisor (unsigned_abs (get_or entries i e).coeff) next
    → (d : ℕ) → All (Divides d) (take (i + 1) entries) → d ∣ next
greatest_more entries i e divisor next within greatest gcd d all =
    gcd.2 d (greatest d (fewer d all)) (last d all)
  where
    fewer : (d : ℕ) → All (Divides d) (take (i + 1) entries) → All (Divides d) (take i entries)
    fewer d all = All-same (Divides d) (take i entries) (take i (take (i + 1) entries)) (sym (take-take i (i + 1) entries (omega arith))) (All-take (Divides d) i (take (i + 1) entries) all)

    last : (d : ℕ) → All (Divides d) (take (i + 1) entries) → Divides d (get_or entries i e)
    last d all = subst (Divides d) (get_or-take (i + 1) entries i e (omega arith)) (all i e (omega (arith, length-take (i + 1) entries)))

module _ (divisor : ℕ) where
  AreDivided-tail : (x y : Entry) (xs ys : List Entry) → AreDivided divisor (x ∷ xs) (y ∷ ys) → AreDivided divisor xs ys
  AreDivided-tail x y xs ys h = record { as_many = omega (arith, h.as_many); each = λ k d within. h.each (suc k) d (omega arith) }

  pub divided_sums : (entries divided : List Entry) → AreDivided divisor entries divided → (number : ℕ → ℤ) → total number entries ≡ pos divisor *ℤ total number divided
  divided_sums [] [] h number = omega (arith, ints)
  divided_sums (x ∷ xs) [] h number = absurd (omega (arith, h.as_many))
  divided_sums [] (y ∷ ys) h number = absurd (omega (arith, h.as_many))
  divided_sums (x ∷ xs) (y ∷ ys) h number =
      let first = h.each 0 x (omega arith) in
      let rest = divided_sums xs ys (AreDivided-tail x y xs ys h) number in
      let here : x.coeff *ℤ number x.column ≡ pos divisor *ℤ (y.coeff *ℤ number y.column) =
      (λ i. first.coeff i *ℤ number (sym first.column i)) ∙ ap (λ z. z *ℤ number y.column) (mul_comm y.coeff (pos divisor)) ∙ mul_assoc (pos divisor) y.coeff (number y.column) in
      omega (arith, ints, here, rest, mul-add (pos divisor) (y.coeff *ℤ number y.column) (total number ys))

  pub divided_sparse : (entries divided : List Entry) → AreDivided divisor entries divided → IsSparse entries → IsSparse divided
  divided_sparse entries divided h sparse = record {
    rising = λ i j d before within.
        let first = h.each i d (omega (arith, h.as_many)) in
        let second = h.each j d (omega (arith, h.as_many)) in
        let was = sparse.rising i j d before (omega (arith, h.as_many)) in
        omega (arith, first.column, second.column);
    nonzero = λ k d within zero_now.
        let at = h.each k d (omega (arith, h.as_many)) in
        sparse.nonzero k d (omega (arith, h.as_many)) (at.coeff ∙ ap (λ z. z *ℤ pos divisor) zero_now ∙ omega (arith, ints));
  }

  -- what divides the divided entries divides the entries once more
  pub divided_reduced : (entries divided : List Entry) → AreDivided divisor entries divided → 0 < divisor → ((d : ℕ) → All (Divides d) entries → d ∣ divisor) → IsReduced divided
  divided_reduced entries divided h positive greatest d all =
      let multiple : d * divisor ∣ divisor = greatest (d * divisor) (λ k e within.
      let at = h.each k e within in
      let divides = all k e (omega (arith, h.as_many)) in
      subst (λ n. d * divisor ∣ n) (sym (ap unsigned_abs at.coeff ∙ unsigned_abs-mul (get_or divided k e).coeff (pos divisor))) (mul-dvd-mul_right d divides divisor)) in
      eq-one_of_dvd-one (dvd_of_mul-dvd-mul_right d {n = 1} positive (subst (λ n. d * divisor ∣ n) (sym (one-mul divisor)) multiple))

-- one more entry is divided
pub divided_more : (divisor : ℕ) (entries now : List Entry) (i : ℕ) (x : Entry) (number : ℤ) → length now ≡ length entries → i < length entries → x ≡ get_or now i x
    → ((k : ℕ) (d : Entry) → k < i → IsDivided divisor (get_or entries k d) (get_or now k d)) → ((k : ℕ) (d : Entry) → i ≤ k → get_or now k d ≡ get_or entries k d)
    → x.coeff ≡ number *ℤ pos divisor
    → (k : ℕ) (d : Entry) → k < i + 1 → IsDivided divisor (get_or entries k d) (get_or (set now i (record { column = x.column; coeff = number })) k d)
divided_more divisor entries now i x number as_many within read done rest quotient k d before =
    ⊎_elim (λ (lt : k < i). let other : k ≢ i = (λ same. absurd (omega arith)) in rw get_or-set_other (done k d lt))
    (λ (le : i ≤ k). let same : k ≡ i = omega arith in rw same here) (cases_lt k i)
  where
    x_is : x ≡ get_or entries i d
    x_is = read ∙ rest i x (omega arith) ∙ get_or_default entries i x d within

    here : IsDivided divisor (get_or entries i d) (get_or (set now i (record { column = x.column; coeff = number })) i d)
    here = rw (get_or-set_same now i (record { column = x.column; coeff = number }) d (omega arith)) (record { column = ap (λ (e : Entry). e.column) x_is; coeff = sym (ap (λ (e : Entry). e.coeff) x_is) ∙ quotient })

pub divided_kept : (entries now : List Entry) (i : ℕ) (x : Entry) → ((k : ℕ) (d : Entry) → i ≤ k → get_or now k d ≡ get_or entries k d) → (k : ℕ) (d : Entry) → i + 1 ≤ k → get_or (set now i x) k d ≡ get_or entries k d
divided_kept entries now i x rest k d above =
    let other : k ≢ i = (λ same. absurd (omega arith)) in rw get_or-set_other (rest k d (omega arith))

-- the coefficient of the basic column stays below 0, and its negation fits
pub record KeepsBasic (divisor : ℕ) (coeff : ℤ) : Type 0 where
  pub positive : 0 < divisor
  pub fits : FitsSigned w128 (neg_ℤ coeff)
  pub below : pos 1 ≤ℤ neg_ℤ coeff

pub keeps_basic : (divisor : ℕ) (x y : ℤ) → x ≡ pos divisor *ℤ y → x <ℤ pos 0 → FitsSigned w128 (neg_ℤ x) → KeepsBasic divisor y
keeps_basic zero x y e below fits = absurd (omega (arith, ints))
keeps_basic (suc k) x (pos m) e below fits = absurd (omega (arith, ints))
keeps_basic (suc k) x (negsuc m) e below fits =
    let size : (suc k) * (suc m) < 2 ^ 127 = omega (arith, ints) in
    record { positive = omega arith; fits = omega (arith, ints); below = omega (arith, ints) }
