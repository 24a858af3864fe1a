-- A number's decimal is read as the number, and is the only text that is.
use Rattle.std.proofs.Common.{◌≡◌, ℕ, zero, suc, ◌+◌, ◌*◌, ◌/◌, ◌%◌, ◌<◌, ◌≤◌, ◌^◌, ℤ, pos, negsuc, List, [], ◌∷◌, ◌++◌, length, get_or, Bool, true, false, not, Option, Some, None, refl, sym, ◌∙◌, ap, subst, inl, inr, arith, append_assoc, length-append, FitsSigned}
use Rattle.std.specs.Prelude.{◌==◌, nat_lt, nat_le, cond, decimal, neg_ℤ}
use Rattle.std.specs.Int.{w128}
use Rattle.std.specs.Fmt.{signed_decimal}
use Rattle.std.specs.Char.{digit_value}
use Rattle.std.specs.Str.Parse.{AllDigits, digits_value, digits_value_after}
use Rattle.std.proofs.lemmas.Bool.{and_parts, and_from, le-leb, lt-ltb, ltb-true, leb-true, eqb-true, ne_eqb, eq-eqb, cases_eq, cond_both, cond-false}
use Rattle.std.proofs.lemmas.List.{append-nil, get_or_append_left}
use Rattle.std.proofs.lemmas.Fmt.{decimal_is_IsNumeral_wide, decimal_by_steps_wide, decimal_step_wide, decimal_digit}
use Rattle.std.proofs.lemmas.Str.{digit_value_digit}
use Rattle.std.proofs.lemmas.Str.Parse.{digit_from_value}
use Rattle.proof_text.specs.declared.reading.Reading.{Reading}
use Rattle.proof_text.specs.declared.reading.Reading.TheVariants.{Malformed, Unfit, Fits}
use Rattle.proof_text.specs.Digits.{is_digit, are_digits, begins_with_zero, is_numeral, is_positive}
use Rattle.proof_text.specs.Number.{unsigned, without_minus, natural, number}
use Rattle.proof_text.specs.Reading.{IfFits, mapped}

-- from a number to its text

digits_are : (ds : List ℕ) → AllDigits 10 ds → are_digits ds ≡ true
digits_are [] d = refl
digits_are (c ∷ cs) d =
    let within = digit_from_value c d.0 in
    and_from (is_digit c) (are_digits cs) (and_from (nat_le 48 c) (nat_le c 57) (le-leb 48 c (omega (arith, within))) (le-leb c 57 (omega (arith, within)))) (digits_are cs d.1)

record Leads (n : ℕ) (ds : List ℕ) : Type 0 where
  some : 0 < length ds
  first : 0 < n → 48 < get_or ds 0 0

leads : (n : ℕ) → n < 10 ^ 64 → Leads n (decimal n)
leads = decimal_by_steps_wide Leads (λ m l. record { some = omega arith; first = λ a. omega arith })
    (λ m ds l h. record {
      some = omega (arith, length-append ds ((48 + m % 10) ∷ []));
      first = λ a. omega (arith, get_or_append_left ds ((48 + m % 10) ∷ []) 0 0 h.some, h.first (omega arith));
    })

no_zero : (ds : List ℕ) → 0 < length ds → 48 < get_or ds 0 0 → begins_with_zero ds ≡ false
no_zero [] some first = absurd (omega (arith, some))
no_zero (c ∷ cs) some first = ne_eqb c 48 (λ e. omega (arith, first, e))

some_digits : (ds : List ℕ) → are_digits ds ≡ true → begins_with_zero ds ≡ false → 0 < length ds → is_numeral ds ≡ true
unfolding is_numeral
some_digits ds all first some =
    and_from (are_digits ds) (cond (begins_with_zero ds) (length ds == 1) (not (length ds == 0))) all
    (cond-false {A = Bool} (begins_with_zero ds) (length ds == 1) (not (length ds == 0)) first ∙ ap not (ne_eqb (length ds) 0 (λ e. omega (arith, some, e))))

zero_numeral : is_numeral (48 ∷ []) ≡ true
unfolding is_numeral
zero_numeral = refl

pub numeral_of : (n : ℕ) → n < 10 ^ 64 → is_numeral (decimal n) ≡ true
numeral_of n small = elim (cases_eq n 0) [
  | inl none ↦
      let text : decimal n ≡ 48 ∷ [] = decimal_digit n (omega (arith, none)) ∙ ap (λ (m : ℕ). (48 + m) ∷ []) none in
      subst (λ (ds : List ℕ). is_numeral ds ≡ true) (sym text) zero_numeral
  | inr some ↦
      let l = leads n small in
      some_digits (decimal n) (digits_are (decimal n) (decimal_is_IsNumeral_wide n small).0.1) (no_zero (decimal n) l.some (l.first (omega (arith, some)))) l.some
]

pub positive_of : (n : ℕ) → 0 < n → n < 10 ^ 64 → is_positive (decimal n) ≡ true
positive_of n some small =
    let l = leads n small in
    rw (numeral_of n small, no_zero (decimal n) l.some (l.first some)) refl

pub unsigned_of : (limit n : ℕ) → n < limit → n < 10 ^ 64 → unsigned limit (decimal n) ≡ Fits n
unfolding unsigned
unsigned_of limit n less small = rw (numeral_of n small, (decimal_is_IsNumeral_wide n small).1, lt-ltb n limit less) refl

no_minus : (ds : List ℕ) → AllDigits 10 ds → without_minus ds ≡ None
no_minus [] d = refl
no_minus (c ∷ cs) d =
    let within = digit_from_value c d.0 in
    rw (ne_eqb c 45 (λ e. omega (arith, within, e))) refl

pub natural_of : (limit n : ℕ) → n < limit → n < 10 ^ 64 → natural limit (decimal n) ≡ Fits n
natural_of limit n less small = rw (no_minus (decimal n) (decimal_is_IsNumeral_wide n small).0.1) (unsigned_of limit n less small)

pub number_of : (z : ℤ) → FitsSigned w128 z → number (signed_decimal z) ≡ Fits z
number_of (pos n) fits =
    let small : n < 10 ^ 64 = omega (arith, fits.sfits) in
    rw (no_minus (decimal n) (decimal_is_IsNumeral_wide n small).0.1, unsigned_of (2 ^ 127) n (omega (arith, fits.sfits)) small) refl
number_of (negsuc n) fits =
    let small : suc n < 10 ^ 64 = omega (arith, fits.sfits) in
    rw (positive_of (suc n) (omega arith) small, unsigned_of (2 ^ 127 + 1) (suc n) (omega (arith, fits.sfits)) small) refl

-- from a text to its number

after_more : (n : ℕ) (ds : List ℕ) → n ≤ digits_value_after 10 n ds
after_more n [] = omega arith
after_more n (c ∷ cs) = omega (arith, after_more (n * 10 + digit_value c) cs)

value_after : (n : ℕ) (ds : List ℕ) → 0 < n → AllDigits 10 ds → digits_value_after 10 n ds < 10 ^ 64 → decimal (digits_value_after 10 n ds) ≡ decimal n ++ ds
value_after n [] some d small = sym (append-nil (decimal n))
value_after n (c ∷ cs) some d small =
    let m : ℕ = n * 10 + digit_value c in
    let k = digit_value_digit c (digit_from_value c d.0) in
    let front : m / 10 ≡ n = omega (arith, d.0) in
    let end : 48 + m % 10 ≡ c = omega (arith, d.0) in
    value_after m cs (omega arith) d.1 small
    ∙ ap (λ x. x ++ cs) (decimal_step_wide m (omega arith) (omega (arith, after_more m cs)) ∙ (λ i. decimal (front i) ++ (end i ∷ [])))
    ∙ append_assoc (decimal n) (c ∷ []) cs

-- one digit at least, without a leading zero
record IsPlain (ds : List ℕ) : Type 0 where
  digits : AllDigits 10 ds
  some : 0 < length ds
  lead : get_or ds 0 0 ≡ 48 → length ds ≡ 1

value_text : (ds : List ℕ) → AllDigits 10 ds → 0 < length ds → (get_or ds 0 0 ≡ 48 → length ds ≡ 1) → digits_value 10 ds < 10 ^ 64 → decimal (digits_value 10 ds) ≡ ds
value_text [] d some lead small = absurd (omega (arith, some))
value_text (c ∷ []) d some lead small =
    let k = digit_value_digit c (digit_from_value c d.0) in
    decimal_digit (0 * 10 + digit_value c) (omega (arith, d.0)) ∙ ap (λ x. x ∷ []) (omega arith)
value_text (c ∷ e ∷ cs) d some lead small =
    let k = digit_value_digit c (digit_from_value c d.0) in
    let no : c ≡ 48 → ⊥ = λ z. omega (arith, lead z) in
    let is : 48 + (0 * 10 + digit_value c) ≡ c = omega arith in
    value_after (0 * 10 + digit_value c) (e ∷ cs) (omega arith) d.1 small
    ∙ ap (λ x. x ++ (e ∷ cs)) (decimal_digit (0 * 10 + digit_value c) (omega (arith, d.0)) ∙ ap (λ x. x ∷ []) is)

all_digits : (ds : List ℕ) → are_digits ds ≡ true → AllDigits 10 ds
all_digits [] is = tt
all_digits (c ∷ cs) is =
    let parts = and_parts (is_digit c) (are_digits cs) is in
    let ends = and_parts (nat_le 48 c) (nat_le c 57) parts.0 in
    let low : 48 ≤ c = leb-true 48 c ends.0 in
    let high : c ≤ 57 = leb-true c 57 ends.1 in
    (omega (arith, digit_value_digit c (omega (arith, low, high)), low, high), all_digits cs parts.1)

plain : (ds : List ℕ) → is_numeral ds ≡ true → IsPlain ds
unfolding is_numeral
plain [] is = absurd (cc is)
plain (c ∷ cs) is =
    let parts = and_parts (are_digits (c ∷ cs)) (cond (c == 48) (length (c ∷ cs) == 1) (not (length (c ∷ cs) == 0))) is in
    record {
      digits = all_digits (c ∷ cs) parts.0;
      some = omega arith;
      lead = λ e. eqb-true (length (c ∷ cs)) 1 (subst (λ (b : Bool). cond b (length (c ∷ cs) == 1) (not (length (c ∷ cs) == 0)) ≡ true) (eq-eqb c 48 e) parts.1);
    }

-- what is read of digits is the number that they write
pub record IsDecimal (limit : ℕ) (word : List ℕ) (n : ℕ) : Type 0 where
  pub text : word ≡ decimal n
  pub below : n < limit

pub unsigned_said : (limit : ℕ) (ds : List ℕ) → limit ≤ 10 ^ 64 → IfFits (unsigned limit ds) (IsDecimal limit ds)
unfolding unsigned
unsigned_said limit ds most =
    let value = digits_value 10 ds in
    cond_both {A = Reading ℕ} (is_numeral ds) (cond (nat_lt value limit) (Fits value) Unfit) Malformed (λ r. IfFits r (IsDecimal limit ds))
    (λ numeral. cond_both {A = Reading ℕ} (nat_lt value limit) (Fits value) Unfit (λ r. IfFits r (IsDecimal limit ds))
    (λ less.
    let p = plain ds numeral in
    let below : value < limit = ltb-true value limit less in
    record { text = sym (value_text ds p.digits p.some p.lead (omega (arith, below, most))); below = below })
    (λ more. tt))
    (λ other. tt)

-- a word with a sign, and one without
minus_behind : (word digits : List ℕ) → without_minus word ≡ Some digits → word ≡ 45 ∷ digits
minus_behind [] digits is = absurd (cc is)
minus_behind (c ∷ cs) digits is = go (c == 45) refl
  where
    go : (b : Bool) → (c == 45) ≡ b → c ∷ cs ≡ 45 ∷ digits
    go true e =
        let same : Some cs ≡ Some digits = sym (subst (λ (b : Bool). without_minus (c ∷ cs) ≡ cond {A = Option (List ℕ)} b (Some cs) None) e refl) ∙ is in
        let tail : cs ≡ digits = cc same in
        let head : c ≡ 45 = eqb-true c 45 e in
        rw (head, tail) refl
    go false e =
        let none : None ≡ Some digits = sym (subst (λ (b : Bool). without_minus (c ∷ cs) ≡ cond {A = Option (List ℕ)} b (Some cs) None) e refl) ∙ is in
        absurd (cc none)

natural_by : (limit : ℕ) (word : List ℕ) (minus : Option (List ℕ)) → limit ≤ 10 ^ 64 → without_minus word ≡ minus → IfFits (natural limit word) (IsDecimal limit word)
natural_by limit word None most is = rw is (unsigned_said limit word most)
natural_by limit word (Some digits) most is = rw is (cond_both {A = Reading ℕ} (is_positive digits) Unfit Malformed (λ r. IfFits r (IsDecimal limit word)) (λ _. tt) (λ _. tt))

pub natural_said : (limit : ℕ) (word : List ℕ) → limit ≤ 10 ^ 64 → IfFits (natural limit word) (IsDecimal limit word)
natural_said limit word most = natural_by limit word (without_minus word) most refl

pub record IsSigned (word : List ℕ) (z : ℤ) : Type 0 where
  pub text : word ≡ signed_decimal z
  pub fits : FitsSigned w128 z

pub mapped_fits : {A B : Type 0} (P : A → Type 0) (Q : B → Type 0) (f : A → B) (r : Reading A) → IfFits r P → ((x : A) → P x → Q (f x)) → IfFits (mapped f r) Q
mapped_fits P Q f Malformed is all = tt
mapped_fits P Q f Unfit is all = tt
mapped_fits P Q f (Fits x) is all = all x is

from_natural : (word : List ℕ) (n : ℕ) → IsDecimal (2 ^ 127) word n → IsSigned word (pos n)
from_natural word n d = record { text = d.text; fits = record { sfits = omega (arith, d.below) } }

from_digits : (word digits : List ℕ) (n : ℕ) → word ≡ 45 ∷ digits → is_positive digits ≡ true → IsDecimal (2 ^ 127 + 1) digits n → IsSigned word (neg_ℤ (pos n))
from_digits word digits zero sign positive d =
    let text : digits ≡ 48 ∷ [] = d.text ∙ decimal_digit 0 (omega arith) in
    let parts = and_parts (is_numeral digits) (not (begins_with_zero digits)) positive in
    let none : not (begins_with_zero (48 ∷ [])) ≡ true = subst (λ (ds : List ℕ). not (begins_with_zero ds) ≡ true) text parts.1 in
    absurd (cc none)
from_digits word digits (suc n) sign positive d =
    record { text = sign ∙ ap (λ (ds : List ℕ). 45 ∷ ds) d.text; fits = record { sfits = omega (arith, d.below) } }

number_by : (word : List ℕ) (minus : Option (List ℕ)) → without_minus word ≡ minus → IfFits (number word) (IsSigned word)
number_by word None is =
    rw is (mapped_fits (IsDecimal (2 ^ 127) word) (IsSigned word) pos (unsigned (2 ^ 127) word) (unsigned_said (2 ^ 127) word (omega arith)) (from_natural word))
number_by word (Some digits) is =
    rw is (cond_both {A = Reading ℤ} (is_positive digits) (mapped (λ size. neg_ℤ (pos size)) (unsigned (2 ^ 127 + 1) digits)) Malformed (λ r. IfFits r (IsSigned word))
    (λ positive. mapped_fits (IsDecimal (2 ^ 127 + 1) digits) (IsSigned word) (λ size. neg_ℤ (pos size)) (unsigned (2 ^ 127 + 1) digits) (unsigned_said (2 ^ 127 + 1) digits (omega arith))
    (λ n d. from_digits word digits n (minus_behind word digits is) positive d))
    (λ _. tt))

pub number_said : (word : List ℕ) → IfFits (number word) (IsSigned word)
number_said word = number_by word (without_minus word) refl
