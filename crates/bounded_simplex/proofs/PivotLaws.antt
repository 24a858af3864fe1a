-- What a pivot keeps: the solutions, and that no equation takes the basic column of another.
use Rattle.std.proofs.Common.{◌≡◌, ◌≢◌, ℕ, ◌+◌, ◌<◌, ◌≤◌, List, [], ◌∷◌, ◌++◌, length, get_or, Option, None, Some, ℤ, pos, ◌*ℤ◌, refl, sym, ap, ◌∙◌, subst, ⊎_elim, arith}
use Rattle.std.proofs.lemmas.Int.{ints}
use Rattle.std.proofs.lemmas.Bool.{cases_eq, cases_lt}
use Rattle.std.proofs.lemmas.List.{get_or_default, get_or_append_left, get_or_at}
use Rattle.tableau_rows.specs.Equation.{unit}
use Rattle.tableau_rows.specs.declared.equation.Equation.{Equation}
use Rattle.tableau_rows.specs.Substitution.{taken, sum_at, IsMultiple, IsCombination}
use Rattle.tableau_rows.proofs.RingLaws.{mul-eq-zero}
use Rattle.bounded_simplex.specs.TableauOf.{AllHold, AreApart, AreWithin, TableauOf}
use Rattle.mix_system.specs.System.{System}
use Rattle.bounded_simplex.specs.Pivot.{IsChanged, IsSolvedAnew, ArePivoted, IsFresh, chosen, ArePut}

times_zero : (a b : ℤ) → b ≡ pos 0 → a *ℤ b ≡ pos 0
times_zero a b e = ap (λ z. a *ℤ z) e ∙ omega (arith, ints)

multiple_zero : (new pivot : Equation) → IsMultiple new pivot → (number : ℕ → ℤ) → sum_at number pivot ≡ pos 0 → sum_at number new ≡ pos 0
multiple_zero new pivot m number e = m.sums number ∙ times_zero m.factor _ e

multiple_back : (new pivot : Equation) → IsMultiple new pivot → (number : ℕ → ℤ) → sum_at number new ≡ pos 0 → sum_at number pivot ≡ pos 0
multiple_back new pivot m number e = mul-eq-zero m.factor _ m.factor_nonzero (sym (m.sums number) ∙ e)

combination_zero : (new row pivot : Equation) → IsCombination new row pivot → (number : ℕ → ℤ) → sum_at number row ≡ pos 0 → sum_at number pivot ≡ pos 0 → sum_at number new ≡ pos 0
combination_zero new row pivot c number of_row of_pivot =
    mul-eq-zero c.divisor _ c.divisor_nonzero (omega (arith, ints, c.sums number, times_zero c.p _ of_row, times_zero c.q _ of_pivot))

combination_back : (new row pivot : Equation) → IsCombination new row pivot → (number : ℕ → ℤ) → sum_at number new ≡ pos 0 → sum_at number pivot ≡ pos 0 → sum_at number row ≡ pos 0
combination_back new row pivot c number of_new of_pivot =
    mul-eq-zero c.p _ c.p_nonzero (omega (arith, ints, c.sums number, times_zero c.divisor _ of_new, times_zero c.q _ of_pivot))

module _ (at entering : ℕ) (old new : List Equation) (within : at < length old) (pivoted : ArePivoted at entering old new) where
  at_or_not : {P : Type 0} (k : ℕ) → (k ≡ at → P) → (k ≢ at → P) → P
  at_or_not k same other = ⊎_elim same other (cases_eq k at)

  pub pivot_holds : (number : ℕ → ℤ) → AllHold old number → AllHold new number
  pivot_holds number all k d inside =
      at_or_not k (λ same. let p = pivoted.own d in rw same (multiple_zero (get_or new at d) (get_or old at d) p.multiple number (all at d within)))
      (λ other. let p = pivoted.others k d (omega (arith, pivoted.as_many)) other in
      combination_zero (get_or new k d) (get_or old k d) (get_or old at d) p.combination number (all k d (omega (arith, pivoted.as_many))) (all at d within))

  pub pivot_held : (number : ℕ → ℤ) → AllHold new number → AllHold old number
  pivot_held number all k d inside =
      let of_pivot = multiple_back (get_or new at d) (get_or old at d) (pivoted.own d).multiple number (all at d (omega (arith, pivoted.as_many))) in
      at_or_not k (λ same. rw same of_pivot)
      (λ other. let p = pivoted.others k d inside other in
      combination_back (get_or new k d) (get_or old k d) (get_or old at d) p.combination number (all k d (omega (arith, pivoted.as_many))) of_pivot)

  pub pivot_apart : AreApart old → AreApart new
  pivot_apart apart i j d i_within j_within differ =
      let i_in : i < length old = omega (arith, pivoted.as_many) in
      let j_in : j < length old = omega (arith, pivoted.as_many) in
      at_or_not j (λ same.
      let i_other : i ≢ at = (λ e. differ (e ∙ sym same)) in
      let p = pivoted.others i d i_in i_other in
      rw (same, (pivoted.own d).basic) (p.gone))
      (λ other.
      let basic = (pivoted.others j d j_in other).basic in
      let at_other : at ≢ j = (λ e. other (sym e)) in
      rw basic (at_or_not i (λ same. rw same (multiple_zero (get_or new at d) (get_or old at d) (pivoted.own d).multiple (unit (get_or old j d).basic) (apart at j d within j_in at_other)))
      (λ i_other. combination_zero (get_or new i d) (get_or old i d) (get_or old at d) (pivoted.others i d i_in i_other).combination (unit (get_or old j d).basic) (apart i j d i_in j_in differ) (apart at j d within j_in at_other))))

  pub pivot_known : (columns : ℕ) → AreWithin columns old → AreWithin columns new
  pivot_known columns known k d column inside beyond =
      let before = λ (j : ℕ) (j_within : j < length old). known j d column j_within beyond in
      at_or_not k (λ same. rw same (multiple_zero (get_or new at d) (get_or old at d) (pivoted.own d).multiple (unit column) (before at within)))
      (λ other. let k_within : k < length old = omega (arith, pivoted.as_many) in
      combination_zero (get_or new k d) (get_or old k d) (get_or old at d) (pivoted.others k d k_within other).combination (unit column) (before k k_within) (before at within))

  pub pivot_tableau : (system : System) → TableauOf system old → TableauOf system new
  pivot_tableau system of_old = record {
    apart = pivot_apart of_old.apart;
    one_each = pivoted.as_many ∙ of_old.one_each;
    known = pivot_known (length system.ranges + length system.rows) of_old.known;
    same_solutions = λ number. (λ solves. pivot_holds number ((of_old.same_solutions number).0 solves), λ all. (of_old.same_solutions number).1 (pivot_held number all));
  }

-- an equation that doesn't take the column stays as it is
stays : (row pivot : Equation) (entering : ℕ) → taken row entering ≡ pos 0 → IsChanged row row pivot entering
stays row pivot entering gone = record {
  basic = refl;
  combination = record {
    p = pos 1;
    q = pos 0;
    divisor = pos 1;
    p_nonzero = λ e. absurd (omega (arith, ints, e));
    divisor_nonzero = λ e. absurd (omega (arith, ints, e));
    sums = λ number. omega (arith, ints);
  };
  gone = gone;
}

-- the equations that were formed are put in: that is the pivot
pub pivoted_from_fresh : (at entering : ℕ) (old new : List Equation) (fresh : List (Option Equation)) → at < length old
    → ((k : ℕ) (o : Option Equation) → k < length old → IsFresh old at entering k (get_or fresh k o)) → ArePut old fresh new → ArePivoted at entering old new
pivoted_from_fresh at entering old new fresh within formed put = record {
  as_many = put.as_many;
  own = λ d. rw (put.each at d None within) (own d (get_or fresh at None) (formed at None within));
  others = λ k d inside other. rw (put.each k d None inside) (changed k d inside other (get_or fresh k None) (formed k None inside));
}
  where
    own : (d : Equation) (o : Option Equation) → IsFresh old at entering at o → IsSolvedAnew (chosen o (get_or old at d)) (get_or old at d) entering
    own d None h = absurd (h.0 refl)
    own d (Some x) h = (h d).0 refl

    changed : (k : ℕ) (d : Equation) → k < length old → k ≢ at → (o : Option Equation) → IsFresh old at entering k o → IsChanged (chosen o (get_or old k d)) (get_or old k d) (get_or old at d) entering
    changed k d inside other None h = stays (get_or old k d) (get_or old at d) entering (h.1 d)
    changed k d inside other (Some x) h = (h d).1 other

-- two equations that were read at two places
pub apart_read : (rows : List Equation) (i j : ℕ) (x y : Equation) → AreApart rows → i < length rows → j < length rows → i ≢ j → x ≡ get_or rows i x → y ≡ get_or rows j y → taken x y.basic ≡ pos 0
apart_read rows i j x y apart i_within j_within differ is_x is_y =
    let at_j : y ≡ get_or rows j x = is_y ∙ get_or_default rows j y x j_within in
    (λ t. taken (is_x t) (at_j t).basic) ∙ apart i j x i_within j_within differ

-- an equation takes its own basic column
pub basics_differ : (x y : Equation) → taken x y.basic ≡ pos 0 → y.basic ≢ x.basic
basics_differ x y none same =
    let own : taken x x.basic ≡ pos 0 = sym (ap (taken x) same) ∙ none in
    absurd (omega (arith, ints, own, x.sound.solved, x.sound.positive))

-- one more equation was formed
pub formed_more : (rows : List Equation) (at entering place : ℕ) (fresh more : List (Option Equation)) (slot : Option Equation) → more ≡ fresh ++ slot ∷ [] → length fresh ≡ place → IsFresh rows at entering place slot
    → ((k : ℕ) (o : Option Equation) → k < place → IsFresh rows at entering k (get_or fresh k o)) → (k : ℕ) (o : Option Equation) → k < place + 1 → IsFresh rows at entering k (get_or more k o)
formed_more rows at entering place fresh more slot is count here before k o within =
    ⊎_elim (λ (lt : k < place). subst (IsFresh rows at entering k) (sym (ap (λ l. get_or l k o) is ∙ get_or_append_left fresh (slot ∷ []) o k (omega arith))) (before k o lt))
    (λ (le : place ≤ k).
    let same : k ≡ place = omega arith in
    subst (IsFresh rows at entering k) (sym (ap (λ l. get_or l k o) is ∙ get_or_at fresh slot [] o k (count ∙ sym same))) (subst (λ n. IsFresh rows at entering n slot) (sym same) here)) (cases_lt k place)

-- an equation that was read at a place
pub read_at : (rows : List Equation) (at : ℕ) (x d : Equation) → at < length rows → x ≡ get_or rows at x → x ≡ get_or rows at d
read_at rows at x d within is = is ∙ get_or_default rows at x d within
