-- Numbers and marks as values, and ranges.
use Rattle.std.proofs.Common.{◌≡◌, ◌<◌, ◌≤◌, ◌&&◌, ◌||◌, ⊎_elim, inl, inr, ◌⊎◌, ℕ, ℤ, pos, negsuc, ◌≤ℤ◌, ◌-ℤ◌, leb, ltb, Bool, true, false, cond, not, List, [], ◌∷◌, Option, Some, None, refl, sym, ◌∙◌, ap, arith}
use Rattle.std.specs.Prelude.{unsigned_abs}
use Rattle.std.specs.Ordering.{int_eq}
use Rattle.std.proofs.lemmas.Bool.{true≢false}
use Rattle.std.proofs.lemmas.Bool.Decides.{nat_tests, Decides-int_eq}
use Rattle.std.proofs.lemmas.Int.{ints}
use Rattle.mix_system.specs.declared.literal.Term.TheVariants.{Var}
use Rattle.mix_system.specs.declared.literal.Lit.{Lit}
use Rattle.mix_system.specs.declared.row.Part.{Part}
use Rattle.mix_system.specs.Row.{number_at}
use Rattle.ll_tree.specs.declared.func.Range.{Range}
use Rattle.ir_meaning.specs.declared.value.Val.{Val}
use Rattle.ir_meaning.specs.declared.value.Val.TheVariants.{Poison, Num}
use Rattle.ir_meaning.specs.Value.{poison_if}
use Rattle.ir_runs.specs.Values.{is_in_range, ranged}
use Rattle.wrap_rows.specs.declared.vars.ValueVars.{ValueVars}
use Rattle.wrap_rows.specs.Layout.{at_most, at_least}
use Rattle.wrap_rows.specs.Vars.{IsMark, value_at, is_marked}
use Rattle.wrap_rows.proofs.CaseLaws.{Each, by_test, without_first, only}
use Rattle.wrap_rows.proofs.BlockLaws.{mark_cases, Clause_here}
use Rattle.path_encoding.specs.Ends.{is_off, ranged_clauses}

-- a number that isn't negative
pub size_of : (x : ℤ) → pos 0 ≤ℤ x → x ≡ pos (unsigned_abs x)
size_of (pos n) low = refl
size_of (negsuc n) low = absurd (omega (arith, ints, low))

module _ (value : ValueVars) (point : List ℤ) where
  -- a value whose mark is 0 is its number
  pub number_there : IsMark (number_at point value.mark) → number_at point value.mark ≤ℤ pos 0 → value_at value point ≡ Num (unsigned_abs (number_at point value.number))
  number_there is off =
      by_test (λ (test : Bool). poison_if test (unsigned_abs (number_at point value.number)) ≡ Num (unsigned_abs (number_at point value.number))) (is_marked value point)
      (λ yes. let one = (Decides-int_eq (number_at point value.mark) (pos 1)).0 yes in absurd (omega (arith, ints, one, off)))
      (λ no. refl)

  -- and the mark of a value that is a number is 0
  pub mark_off : (n : ℕ) → IsMark (number_at point value.mark) → value_at value point ≡ Num n → (number_at point value.mark ≤ℤ pos 0) × (unsigned_abs (number_at point value.number) ≡ n)
  mark_off n is same =
      by_test (λ (test : Bool). poison_if test (unsigned_abs (number_at point value.number)) ≡ Num n → (int_eq (number_at point value.mark) (pos 1) ≡ test) → (number_at point value.mark ≤ℤ pos 0) × (unsigned_abs (number_at point value.number) ≡ n)) (is_marked value point)
      (λ yes poison is_one. absurd (cc poison))
      (λ no number is_not. (
        ⊎_elim (λ zero. omega (arith, ints, zero)) (λ one. absurd (true≢false (sym ((Decides-int_eq (number_at point value.mark) (pos 1)).1 one) ∙ no))) (mark_cases (number_at point value.mark) is),
        ap number_of number,
      ))
      same refl
    where
      number_of : Val → ℕ
      number_of Poison = 0
      number_of (Num k) = k

-- ---- ranges

-- the clause of a range that wraps, and those of one that doesn't
abbrev wrapping : ℕ → ValueVars → Range → List (List Lit)
wrapping block value range = (is_off block ∷ at_least (Var value.number) (pos range.lo) ∷ at_most (Var value.number) (pos range.hi -ℤ pos 1) ∷ []) ∷ []

abbrev rising : ℕ → ValueVars → Range → List (List Lit)
rising block value range = (is_off block ∷ at_least (Var value.number) (pos range.lo) ∷ []) ∷ (is_off block ∷ at_most (Var value.number) (pos range.hi -ℤ pos 1) ∷ []) ∷ []

module _ (rows : List (List Part)) (point : List ℤ) (block : ℕ) (value : ValueVars) (n : ℕ) (is : number_at point value.number ≡ pos n) where
  -- a visited block's value lies in the range where the clauses are true
  pub ranged_said : (range : Option Range) → pos 1 ≤ℤ number_at point block → Each (Clause_here rows point) (ranged_clauses block value range) → is_in_range range n ≡ true
  ranged_said None on each = refl
  ranged_said (Some range) on each =
      by_test (λ (test : Bool). Each (Clause_here rows point) (cond test (wrapping block value range) (rising block value range)) → cond test (leb range.lo n || ltb n range.hi) (leb range.lo n && ltb n range.hi) ≡ true) (ltb range.hi range.lo)
      (λ wraps said. ⊎_elim (λ low. let above : range.lo ≤ n = omega (arith, ints, is, low) in grind (arith, nat_tests))
      (λ rest. let below : n < range.hi = omega (arith, ints, is, only rest) in grind (arith, nat_tests))
      (without_first said.0 (λ off. omega (arith, ints, on, off))))
      (λ rises said.
      let low = only (without_first said.0 (λ off. omega (arith, ints, on, off))) in
      let high = only (without_first said.1.0 (λ off. omega (arith, ints, on, off))) in
      let above : range.lo ≤ n = omega (arith, ints, is, low) in
      let below : n < range.hi = omega (arith, ints, is, high) in
      grind (arith, nat_tests))
      each

  or_parts : (a b : Bool) → (a || b) ≡ true → (a ≡ true) ⊎ (b ≡ true)
  or_parts true b passes = inl refl
  or_parts false b passes = inr passes

  and_parts : (a b : Bool) → (a && b) ≡ true → (a ≡ true) × (b ≡ true)
  and_parts true b passes = (refl, passes)
  and_parts false b passes = absurd (true≢false (sym passes))

  -- and the clauses are true where it does
  pub ranged_true : (range : Option Range) → is_in_range range n ≡ true → Each (Clause_here rows point) (ranged_clauses block value range)
  ranged_true None inside = tt
  ranged_true (Some range) inside =
      by_test (λ (test : Bool). cond test (leb range.lo n || ltb n range.hi) (leb range.lo n && ltb n range.hi) ≡ true → Each (Clause_here rows point) (cond test (wrapping block value range) (rising block value range))) (ltb range.hi range.lo)
      (λ wraps yes. (
        inr (⊎_elim (λ low. let above : range.lo ≤ n = grind (arith, nat_tests) in inl (omega (arith, ints, is, above)))
            (λ high. let below : n < range.hi = grind (arith, nat_tests) in inr (inl (omega (arith, ints, is, below))))
            (or_parts (leb range.lo n) (ltb n range.hi) yes)),
        tt,
      ))
      (λ rises yes.
      let parts = and_parts (leb range.lo n) (ltb n range.hi) yes in
      let above : range.lo ≤ n = grind (arith, nat_tests, parts.0) in
      let below : n < range.hi = grind (arith, nat_tests, parts.1) in
      (inr (inl (omega (arith, ints, is, above))), (inr (inl (omega (arith, ints, is, below))), tt)))
      inside

-- an argument is its own value exactly where it lies in its range
pub ranged_is : (range : Option Range) (n : ℕ) → is_in_range range n ≡ true → ranged range n ≡ Num n
ranged_is range n inside = ap (λ (test : Bool). poison_if (not test) n) inside
