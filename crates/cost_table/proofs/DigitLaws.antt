-- Decimals and their values.
use Rattle.std.proofs.Common.{◌≡◌, ◌+◌, ◌-◌, ◌*◌, ◌<◌, ◌≤◌, ◌^◌, ℕ, true, false, List, [], ◌∷◌, length, take, get_or, Option, Some, None, refl, sym, ◌∙◌, ap, inl, inr, ⊎_elim, arith, cond}
use Rattle.std.specs.Prelude.{◌==◌, nat_lt}
use Rattle.std.specs.Char.{digit_value}
use Rattle.std.specs.Fmt.{decimal}
use Rattle.std.specs.Int.{IsInRange}
use Rattle.std.specs.List.{AllPass}
use Rattle.std.specs.Str.Parse.{digits_value}
use Rattle.std.proofs.lemmas.Bool.{le-ltb, lt-ltb, ltb-true, and_parts, cases_eq, cases_Bool, cond-true, cond-false}
use Rattle.std.proofs.lemmas.Bool.Decides.{nat_tests}
use Rattle.std.proofs.lemmas.Fmt.{decimal-digits_value, digits_decimal, digits_value-decimal, first_decimal, decimal_digit}
use Rattle.std.proofs.lemmas.Int.Digits.{digits_value_more}
use Rattle.std.proofs.lemmas.List.{get_or_default}
use Rattle.std.proofs.lemmas.List.Sums.{AllPass-from_list_all, list_all-from_AllPass}
use Rattle.std.proofs.lemmas.Str.Parse.{IsNumeralModel, numerals_by_value, tells_by_index, digits_value-take-le}
use Rattle.cost_table.specs.Digits.{is_digit, are_digits, is_numeral}

digit_value_of : (c : ℕ) → is_digit c ≡ true → digit_value c ≡ c - 48
digit_value_of c digit = grind (arith, nat_tests)

-- one digit more
pub value-more : (digits : List ℕ) (i value : ℕ) → AllPass is_digit digits → i < length digits → value ≡ digits_value 10 (take i digits)
    → 10 * value + (get_or digits i 0 - 48) ≡ digits_value 10 (take (i + 1) digits)
value-more digits i value all within is =
    let digit = digit_value_of (get_or digits i 0) (all i 0 within) in
    omega (arith, digits_value_more 10 digits i within, digit)

-- a value that passed the limit doesn't come below it again
pub value-past : (digits : List ℕ) (i value limit : ℕ) → value ≡ digits_value 10 (take i digits) → limit ≤ value → cond {A = Option ℕ} (nat_lt (digits_value 10 digits) limit) (Some (digits_value 10 digits)) None ≡ None
value-past digits i value limit is past =
    let more : digits_value 10 (take i digits) ≤ digits_value 10 digits = digits_value-take-le 10 digits i (omega arith) in
    ap (λ b. cond {A = Option ℕ} b (Some (digits_value 10 digits)) None) (le-ltb (digits_value 10 digits) limit (omega arith))

-- a number's bytes are digits, one at least
pub digits_of_numeral : (bytes : List ℕ) → is_numeral bytes ≡ true → AllPass is_digit bytes
unfolding is_numeral
digits_of_numeral bytes numeral = AllPass-from_list_all is_digit bytes (and_parts (are_digits bytes) _ numeral).0

pub some_digit : (bytes : List ℕ) → is_numeral bytes ≡ true → 0 < length bytes
unfolding is_numeral
some_digit [] numeral = absurd (cc numeral)
some_digit (byte ∷ bytes) numeral = omega arith

zero_alone : (bytes : List ℕ) → is_numeral bytes ≡ true → get_or bytes 0 0 ≡ 48 → length bytes ≡ 1
unfolding is_numeral
zero_alone [] numeral first = absurd (cc numeral)
zero_alone (byte ∷ bytes) numeral first =
    let zero : (byte == 48) ≡ true = rw first refl in
    let rest = (and_parts (are_digits (byte ∷ bytes)) _ numeral).1 in
    let one : (length (byte ∷ bytes) == 1) ≡ true = rw zero at rest in
    grind (arith, nat_tests)

model : IsNumeralModel (λ ds. (i : ℕ) → i < length ds → IsInRange 48 57 (get_or ds i 0)) (digits_value 10)
model = numerals_by_value _ tells_by_index

in_range : (ds : List ℕ) → AllPass is_digit ds → (i : ℕ) → i < length ds → IsInRange 48 57 (get_or ds i 0)
in_range ds each i within = let digit : is_digit (get_or ds i 0) ≡ true = each i 0 within in grind (arith, nat_tests)

test_range : (c : ℕ) → IsInRange 48 57 c → is_digit c ≡ true
test_range c h = grind (arith, nat_tests)

-- a numeral below the limit is the decimal of its value
pub numeral_is_decimal : (bytes : List ℕ) (value : ℕ) → is_numeral bytes ≡ true → value < 2 ^ 64 → value ≡ digits_value 10 bytes → bytes ≡ decimal value
numeral_is_decimal bytes value numeral few is =
    rw is (sym (decimal-digits_value model bytes (in_range bytes (digits_of_numeral bytes numeral)) (some_digit bytes numeral) (zero_alone bytes numeral) (omega (arith, few, is))))

pub decimal_digits : (n : ℕ) → n < 2 ^ 64 → AllPass is_digit (decimal n)
decimal_digits n lt i d within = rw (get_or_default (decimal n) i d 0 within) (test_range (get_or (decimal n) i 0) (digits_decimal model n lt i within))

not_zero_first : (bytes : List ℕ) → are_digits bytes ≡ true → 48 < get_or bytes 0 0 → is_numeral bytes ≡ true
unfolding is_numeral
not_zero_first [] digits first = absurd (omega (arith, first))
not_zero_first (byte ∷ bytes) digits first =
    let other : (byte == 48) ≡ false = grind (arith, nat_tests) in
    let some : (length (byte ∷ bytes) == 0) ≡ false = grind (arith, nat_tests) in
    rw (digits, other, some) refl

-- a decimal is a numeral, of its number
pub decimal_is_numeral : (n : ℕ) → n < 2 ^ 64 → is_numeral (decimal n) ≡ true
unfolding is_numeral
decimal_is_numeral n lt =
    ⊎_elim
    (λ none. rw (none, decimal_digit 0 (omega arith)) refl)
    (λ some. not_zero_first (decimal n) (list_all-from_AllPass is_digit (decimal n) (decimal_digits n lt)) (first_decimal n (omega (arith, some)) lt))
    (cases_eq n 0)

pub decimal_value : (n : ℕ) → n < 2 ^ 64 → digits_value 10 (decimal n) ≡ n
decimal_value n lt = digits_value-decimal model n lt

-- what the value's clause gives
pub cost_found : (bytes : List ℕ) (limit value : ℕ) → limit ≤ 2 ^ 32 → is_numeral bytes ≡ true → Some value ≡ cond {A = Option ℕ} (nat_lt (digits_value 10 bytes) limit) (Some (digits_value 10 bytes)) None → bytes ≡ decimal value
cost_found bytes limit value low numeral gives =
    elim (cases_Bool (nat_lt (digits_value 10 bytes) limit)) [
      | inl few ↦ let same : Some value ≡ Some (digits_value 10 bytes) = gives ∙ cond-true {A = Option ℕ} _ _ _ few in
          let is : value ≡ digits_value 10 bytes = cc same in
          let below : digits_value 10 bytes < limit = ltb-true _ _ few in
          numeral_is_decimal bytes value numeral (omega (arith, below, is, low)) is
      | inr many ↦ let none : Some value ≡ None = gives ∙ cond-false {A = Option ℕ} _ _ _ many in absurd (cc none)
    ]

pub cost_again : (n limit : ℕ) → n < limit → limit ≤ 2 ^ 32 → cond {A = Option ℕ} (nat_lt (digits_value 10 (decimal n)) limit) (Some (digits_value 10 (decimal n))) None ≡ Some n
cost_again n limit lt low = rw (decimal_value n (omega (arith, lt, low)), lt-ltb n limit lt) refl
