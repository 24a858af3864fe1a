-- The value of digits, one after the other.
use Rattle.std.proofs.Common.{◌≡◌, ◌+◌, ◌-◌, ◌*◌, ◌<◌, ◌≤◌, ◌^◌, ℕ, List, length, take, get_or, Option, Some, None, refl, sym, ◌∙◌, ap, inl, inr, arith, true, cond}
use Rattle.std.specs.List.{AllPass}
use Rattle.std.specs.Prelude.{nat_lt}
use Rattle.std.specs.Char.{digit_value}
use Rattle.std.specs.Str.Parse.{digits_value}
use Rattle.std.proofs.lemmas.Bool.{le-ltb, lt-ltb, ltb-true, ltb-false, and_parts, cases_Bool, cond-true, cond-false}
use Rattle.std.proofs.lemmas.Bool.Decides.{nat_tests}
use Rattle.std.proofs.lemmas.List.{take_all}
use Rattle.std.proofs.lemmas.List.Sums.{AllPass-from_list_all}
use Rattle.std.proofs.lemmas.Int.Digits.{digits_value_more}
use Rattle.std.proofs.lemmas.Str.Parse.{digits_value-take-le}
use Rattle.proof_text.specs.Digits.{is_digit, are_digits, is_numeral}

digit_value_of : (c : ℕ) → is_digit c ≡ true → digit_value c ≡ c - 48
digit_value_of c digit = grind (arith, nat_tests)

-- one digit more
pub value-more : (digits : List ℕ) (i value : ℕ) → AllPass is_digit digits → i < length digits → value ≡ digits_value 10 (take i digits)
    → 10 * value + (get_or digits i 0 - 48) ≡ digits_value 10 (take (i + 1) digits)
value-more digits i value all within is =
    let digit = digit_value_of (get_or digits i 0) (all i 0 within) in
    omega (arith, digits_value_more 10 digits i within, digit)

-- a value that passed the limit doesn't come below it again
pub value-past : (digits : List ℕ) (i value limit : ℕ) → value ≡ digits_value 10 (take i digits) → limit ≤ value → cond {A = Option ℕ} (nat_lt (digits_value 10 digits) limit) (Some (digits_value 10 digits)) None ≡ None
value-past digits i value limit is past =
    let more : digits_value 10 (take i digits) ≤ digits_value 10 digits = digits_value-take-le 10 digits i (omega arith) in
    ap (λ b. cond {A = Option ℕ} b (Some (digits_value 10 digits)) None) (le-ltb (digits_value 10 digits) limit (omega arith))

-- a number's bytes are digits
pub digits_of_numeral : (bytes : List ℕ) → is_numeral bytes ≡ true → AllPass is_digit bytes
unfolding is_numeral
digits_of_numeral bytes numeral = AllPass-from_list_all is_digit bytes (and_parts (are_digits bytes) _ numeral).0

-- what one digit more gives
pub value_some : (digits : List ℕ) (i before value : ℕ) → AllPass is_digit digits → i < length digits → before ≡ digits_value 10 (take i digits)
    → Some value ≡ cond {A = Option ℕ} (nat_lt (10 * before + (get_or digits i 0 - 48)) (2 ^ 128)) (Some (10 * before + (get_or digits i 0 - 48))) None → (value ≡ digits_value 10 (take (i + 1) digits)) × (value < 2 ^ 128)
value_some digits i before value all within is gives =
    let more = value-more digits i before all within is in
    elim (cases_Bool (nat_lt (10 * before + (get_or digits i 0 - 48)) (2 ^ 128))) [
      | inl few ↦ let same : Some value ≡ Some (10 * before + (get_or digits i 0 - 48)) = gives ∙ cond-true {A = Option ℕ} _ _ _ few in
          let is_it : value ≡ 10 * before + (get_or digits i 0 - 48) = cc same in (is_it ∙ more, rw is_it (ltb-true _ _ few))
      | inr many ↦ let none : Some value ≡ None = gives ∙ cond-false {A = Option ℕ} _ _ _ many in absurd (cc none)
    ]

pub value_none : (digits : List ℕ) (i before : ℕ) → AllPass is_digit digits → i < length digits → before ≡ digits_value 10 (take i digits)
    → None ≡ cond {A = Option ℕ} (nat_lt (10 * before + (get_or digits i 0 - 48)) (2 ^ 128)) (Some (10 * before + (get_or digits i 0 - 48))) None
    → None ≡ cond {A = Option ℕ} (nat_lt (digits_value 10 digits) (2 ^ 128)) (Some (digits_value 10 digits)) None
value_none digits i before all within is gives =
    let more = value-more digits i before all within is in
    elim (cases_Bool (nat_lt (10 * before + (get_or digits i 0 - 48)) (2 ^ 128))) [
      | inl few ↦ let none : None ≡ Some (10 * before + (get_or digits i 0 - 48)) = gives ∙ cond-true {A = Option ℕ} _ _ _ few in absurd (cc none)
      | inr many ↦ sym (value-past digits (i + 1) _ (2 ^ 128) more (ltb-false _ _ many))
    ]

pub value_all : (digits : List ℕ) (i value : ℕ) → length digits ≤ i → value < 2 ^ 128 → value ≡ digits_value 10 (take i digits)
    → Some value ≡ cond {A = Option ℕ} (nat_lt (digits_value 10 digits) (2 ^ 128)) (Some (digits_value 10 digits)) None
value_all digits i value past fits is =
    let whole : value ≡ digits_value 10 digits = is ∙ ap (digits_value 10) (take_all i digits past) in
    rw (← whole) (sym (cond-true {A = Option ℕ} (nat_lt value (2 ^ 128)) (Some value) None (lt-ltb value (2 ^ 128) fits)))
