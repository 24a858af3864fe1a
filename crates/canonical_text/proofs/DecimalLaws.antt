-- The digits of a number write it.
use Rattle.std.proofs.Common.{◌≡◌, ◌<◌, ◌≤◌, ◌+◌, ◌*◌, ◌-◌, ◌/◌, ◌%◌, ◌^◌, ◌&&◌, ℕ, zero, suc, Bool, true, false, ltb, List, [], ◌∷◌, ◌++◌, length, refl, sym, ap, ◌∙◌, subst, arith, length-append}
use Rattle.std.specs.List.{list_all}
use Rattle.std.specs.Char.{is_ascii_digit}
use Rattle.std.specs.Fmt.{decimal}
use Rattle.std.proofs.lemmas.Fmt.{decimal_digit, decimal_step}
use Rattle.std.proofs.lemmas.Bool.{ltb-true, ltb-false, le-leb}
use Rattle.ll_grammar.specs.Spells.{value_behind}
use Rattle.ll_grammar.proofs.TokenLaws.{both_true}

value_behind-append : (value digit : ℕ) (xs : List ℕ) → value_behind value (xs ++ digit ∷ []) ≡ 10 * value_behind value xs + (digit - 48)
value_behind-append value digit [] = refl
value_behind-append value digit (x ∷ xs) = value_behind-append (10 * value + (x - 48)) digit xs

is_digit : (d : ℕ) → d < 10 → is_ascii_digit (48 + d) ≡ true
is_digit d few = rw (le-leb 48 (48 + d) (omega arith), le-leb (48 + d) 57 (omega (arith, few))) refl

all_behind : (xs : List ℕ) (digit : ℕ) → list_all is_ascii_digit xs ≡ true → is_ascii_digit digit ≡ true → list_all is_ascii_digit (xs ++ digit ∷ []) ≡ true
all_behind [] digit all is = ap (λ b. b && true) is
all_behind (x ∷ xs) digit all is =
    let p = both_true (is_ascii_digit x) (list_all is_ascii_digit xs) all in
    ap (λ b. b && list_all is_ascii_digit (xs ++ digit ∷ [])) p.0 ∙ all_behind xs digit p.1 is

-- The digits of a number: one at least, digits, and their value is the number.
pub record IsWritten (n : ℕ) (digits : List ℕ) : Type 0 where
  pub some : 0 < length digits
  pub all : list_all is_ascii_digit digits ≡ true
  pub value : value_behind 0 digits ≡ n

one_digit : (n : ℕ) → n < 10 → IsWritten n ((48 + n) ∷ [])
one_digit n few = record { some = omega arith; all = ap (λ b. b && true) (is_digit n few); value = omega arith }

more_digits : (n : ℕ) (front : List ℕ) → IsWritten (n / 10) front → IsWritten n (front ++ (48 + n % 10) ∷ [])
more_digits n front w = record {
  some = omega (arith, length-append front ((48 + n % 10) ∷ []));
  all = all_behind front (48 + n % 10) w.all (is_digit (n % 10) (omega arith));
  value = value_behind-append 0 (48 + n % 10) front ∙ omega (arith, w.value);
}

decimal_within : (most n : ℕ) → n ≤ most → n < 2 ^ 64 → IsWritten n (decimal n)
decimal_within zero n few fits = subst (IsWritten n) (sym (decimal_digit n (omega (arith, few)))) (one_digit n (omega (arith, few)))
decimal_within (suc most) n few fits = go (ltb n 10) refl (λ m below. decimal_within most m below)
  where
    go : (b : Bool) → ltb n 10 ≡ b → ((m : ℕ) → m ≤ most → m < 2 ^ 64 → IsWritten m (decimal m)) → IsWritten n (decimal n)
    go true e again = subst (IsWritten n) (sym (decimal_digit n (ltb-true n 10 e))) (one_digit n (ltb-true n 10 e))
    go false e again =
        let many : 10 ≤ n = ltb-false n 10 e in
        subst (IsWritten n) (sym (decimal_step n many fits)) (more_digits n (decimal (n / 10)) (again (n / 10) (omega (arith, many, few)) (omega (arith, fits))))

pub decimal_writes : (n : ℕ) → n < 2 ^ 64 → IsWritten n (decimal n)
decimal_writes n fits = decimal_within n n (omega arith) fits
