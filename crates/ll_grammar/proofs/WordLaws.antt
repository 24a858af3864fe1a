-- What numbers and words stand for.
use Rattle.std.proofs.Common.{◌≡◌, ◌+◌, ◌-◌, ◌*◌, ◌<◌, ◌≤◌, ℕ, suc, List, length, drop, get_or, Some, None, refl, ap, cond, drop-cons, add-one}
use Rattle.std.proofs.lemmas.Bool.{le-ltb, lt-ltb}
use Rattle.std.proofs.lemmas.List.{drop_all}
use Rattle.ll_grammar.specs.Words.{value_below}

module _ (limit value digit i : ℕ) (digits : List ℕ) (digit_is : digit ≡ get_or digits i 0 - 48) where
  -- one digit more
  pub value_below-more : i < length digits → 10 * value + digit < limit → value_below limit value (drop i digits) ≡ value_below limit (10 * value + digit) (drop (i + 1) digits)
  unfolding value_below
  value_below-more within below =
      rw (add-one, drop-cons digits i 0, ← digit_is) (ap (λ b. cond b (value_below limit (10 * value + digit) (drop (suc i) digits)) None) (lt-ltb _ _ below))

  -- a digit that reaches the limit
  pub value_below-past : i < length digits → limit ≤ 10 * value + digit → value_below limit value (drop i digits) ≡ None
  unfolding value_below
  value_below-past within past =
      rw (drop-cons digits i 0, ← digit_is) (ap (λ b. cond b (value_below limit (10 * value + digit) (drop (suc i) digits)) None) (le-ltb _ _ past))

pub value_below-end : (limit value i : ℕ) (digits : List ℕ) → length digits ≤ i → value_below limit value (drop i digits) ≡ Some value
unfolding value_below
value_below-end limit value i digits past = rw (drop_all i digits past) refl
