-- The row of a number and its bits stands in normal form.
use Rattle.std.proofs.Common.{◌≡◌, ◌≢◌, ℕ, zero, suc, ◌+◌, ◌<◌, ◌≤◌, cond, nat_lt, pos, List, [], ◌∷◌, ◌++◌, append_assoc, refl, ap, sym, ◌∙◌, subst, arith}
use Rattle.std.specs.Prelude.{fold}
use Rattle.std.specs.Ordering.{int_eq}
use Rattle.std.proofs.lemmas.Bool.Decides.{nat_tests}
use Rattle.std.proofs.lemmas.Int.{ints}
use Rattle.std.proofs.lemmas.List.{append-nil}
use Rattle.std.proofs.lemmas.Nat.{pow_pos}
use Rattle.mix_system.specs.declared.row.Part.{Part}
use Rattle.mix_system.specs.System.{IsRow}
use Rattle.wrap_rows.specs.Normal.{merged, with_part, row_of}
use Rattle.wrap_rows.proofs.CaseLaws.{by_test, Each}
use Rattle.wrap_rows.proofs.BlockLaws.{Each-append}
use Rattle.wrap_rows.proofs.ReadLaws.{eq_said}
use Rattle.wrap_rows.proofs.SumLaws.{Rises, row_of-IsRow}
use Rattle.bit_rows.specs.Bits.{minus_bits, bits_row}

-- ---- parts whose variables rise are in normal form

abbrev Below : ℕ → List Part → Type 0
Below vars parts = Each (λ part. part.var < vars) parts

Below-more : (less more : ℕ) (parts : List Part) → less ≤ more → Below less parts → Below more parts
Below-more less more [] order below = tt
Below-more less more (part ∷ parts) order below = (omega (arith, below.0), Below-more less more parts order below.1)

put_last : (sum : List Part) (part : Part) → Below part.var sum → part.coeff ≢ pos 0 → with_part sum part ≡ sum ++ part ∷ []
put_last [] part below some =
    by_test (λ test. cond test [] (part ∷ []) ≡ part ∷ []) (int_eq part.coeff (pos 0)) (λ none. absurd (some (eq_said part.coeff (pos 0) none))) (λ fails. refl)
put_last (next ∷ sum) part below some =
    by_test (λ test. cond test (next ∷ with_part sum part) (merged part (next ∷ sum)) ≡ next ∷ (sum ++ part ∷ [])) (nat_lt next.var part.var)
    (λ before. ap (λ rest. next ∷ rest) (put_last sum part below.1 some))
    (λ behind. absurd (grind (arith, nat_tests, below.0)))

put_all : (vars least : ℕ) (sum parts : List Part) → Below least sum → Rises vars least parts → fold with_part sum parts ≡ sum ++ parts
put_all vars least sum [] below rises = sym (append-nil sum)
put_all vars least sum (part ∷ parts) below rises =
    let here : with_part sum part ≡ sum ++ part ∷ [] = put_last sum part (Below-more least part.var sum rises.0 below) rises.2 in
    let all : Below (part.var + 1) (sum ++ part ∷ []) = Each-append (λ p. p.var < part.var + 1) sum (part ∷ []) (Below-more least (part.var + 1) sum (omega (arith, rises.0)) below) (omega arith, tt) in
    ap (λ made. fold with_part made parts) here
    ∙ put_all vars (part.var + 1) (sum ++ part ∷ []) parts all rises.3
    ∙ append_assoc sum (part ∷ []) parts

Below-rises : (vars least : ℕ) (parts : List Part) → Rises vars least parts → Below vars parts
Below-rises vars least [] rises = tt
Below-rises vars least (part ∷ parts) rises = (rises.1, Below-rises vars (part.var + 1) parts rises.3)

-- ---- the row of a number and its bits

bits_rise : (vars width place least first : ℕ) → least ≤ first → first + width ≤ vars → Rises vars least (minus_bits width place first)
bits_rise vars zero place least first order known = tt
bits_rise vars (suc width) place least first order known =
    (order, omega (arith, known), λ none. omega (arith, ints, none, pow_pos place), bits_rise vars width (place + 1) (first + 1) (first + 1) (omega arith) (omega (arith, known)))

row_rises : (vars width number first : ℕ) → number < first → first + width ≤ vars → Rises vars 0 (bits_row width number first)
row_rises vars width number first before known =
    (omega arith, omega (arith, before, known), λ none. omega (arith, ints, none), bits_rise vars width 0 (number + 1) first (omega (arith, before)) known)

pub row-normal : (vars width number first : ℕ) → number < first → first + width ≤ vars → row_of (bits_row width number first) ≡ bits_row width number first
unfolding row_of
row-normal vars width number first before known = put_all vars 0 [] (bits_row width number first) tt (row_rises vars width number first before known)

pub row-IsRow : (vars width number first : ℕ) → number < first → first + width ≤ vars → IsRow vars (bits_row width number first)
row-IsRow vars width number first before known =
    subst (IsRow vars) (row-normal vars width number first before known)
    (row_of-IsRow vars (bits_row width number first) (Below-rises vars 0 (bits_row width number first) (row_rises vars width number first before known)))
