-- A literal's text is read as the literal, and is the only text that is.
use Rattle.std.proofs.Common.{◌≡◌, ℕ, ◌+◌, ◌<◌, ◌^◌, ℤ, List, [], ◌∷◌, ◌++◌, length, take, drop, true, not, Option, Some, None, refl, sym, ◌∙◌, ap, arith}
use Rattle.std.specs.Prelude.{◌==◌, cond, decimal}
use Rattle.std.specs.Fmt.{signed_decimal}
use Rattle.std.specs.List.{prefix_len}
use Rattle.std.specs.Str.Parse.{AllDigits}
use Rattle.std.proofs.lemmas.Bool.{and_from, ne_eqb, eqb-true, cond_both, not_from_false}
use Rattle.std.proofs.lemmas.List.{take-append-drop}
use Rattle.std.proofs.lemmas.Fmt.{decimal_is_IsNumeral_wide}
use Rattle.std.proofs.lemmas.Str.Parse.{digit_from_value}
use Rattle.mix_system.specs.declared.literal.Term.{Term}
use Rattle.mix_system.specs.declared.literal.Term.TheVariants.{Var, Row}
use Rattle.mix_system.specs.declared.literal.Side.{Side}
use Rattle.mix_system.specs.declared.literal.Side.TheVariants.{Le, Ge}
use Rattle.mix_system.specs.declared.literal.Lit.{Lit}
use Rattle.proof_text.specs.declared.reading.Reading.{Reading}
use Rattle.proof_text.specs.declared.reading.Reading.TheVariants.{Malformed, Unfit, Fits}
use Rattle.proof_text.specs.Number.{number}
use Rattle.proof_text.specs.Reading.{both, mapped, IfFits}
use Rattle.proof_text.specs.Literal.{index_of, var_of, term_of, is_term_byte, side_of, bounded, literal_of}
use Rattle.proof_spelling.specs.Text.{term_text, side_text, literal_text}
use Rattle.proof_spelling.specs.Ranges.{TermFits, LitFits}
use Rattle.proof_spelling.proofs.NumberLaws.{IsDecimal, IsSigned, unsigned_of, number_of, unsigned_said, number_said, mapped_fits}

pub both_fit : {A B : Type 0} (P : A → Type 0) (Q : B → Type 0) (a : Reading A) (b : Reading B) → IfFits a P → IfFits b Q → IfFits (both a b) (λ p. P p.0 × Q p.1)
both_fit P Q Malformed b here there = tt
both_fit P Q Unfit Malformed here there = tt
both_fit P Q Unfit Unfit here there = tt
both_fit P Q Unfit (Fits y) here there = tt
both_fit P Q (Fits x) Malformed here there = tt
both_fit P Q (Fits x) Unfit here there = tt
both_fit P Q (Fits x) (Fits y) here there = (here, there)

-- from a term to its text, and back

pub term_of_text : (term : Term) → TermFits term → term_of (term_text term) ≡ Fits term
term_of_text (Var number) fits = ap (λ (r : Reading ℕ). mapped Var r) (unsigned_of (2 ^ 32) number fits (omega (arith, fits)))
term_of_text (Row number) fits = ap (λ (r : Reading ℕ). mapped Row r) (unsigned_of (2 ^ 32) number fits (omega (arith, fits)))

pub record IsTerm (word : List ℕ) (term : Term) : Type 0 where
  pub text : word ≡ term_text term
  pub fits : TermFits term

pub record IsVar (word : List ℕ) (number : ℕ) : Type 0 where
  pub text : word ≡ term_text (Var number)
  pub fits : number < 2 ^ 32

var_digits : (byte : ℕ) (bytes : List ℕ) → byte ≡ 118 → (r : Reading ℕ) → IfFits r (IsDecimal (2 ^ 32) bytes) → IfFits r (IsVar (byte ∷ bytes))
var_digits byte bytes is Malformed d = tt
var_digits byte bytes is Unfit d = tt
var_digits byte bytes is (Fits n) d = record { text = rw is (ap (λ (ds : List ℕ). 118 ∷ ds) d.text); fits = d.below }

pub var_said : (word : List ℕ) → IfFits (var_of word) (IsVar word)
var_said [] = tt
var_said (byte ∷ bytes) = cond_both {A = Reading ℕ} (byte == 118) (index_of bytes) Malformed (λ r. IfFits r (IsVar (byte ∷ bytes)))
    (λ v. var_digits byte bytes (eqb-true byte 118 v) (index_of bytes) (unsigned_said (2 ^ 32) bytes (omega arith)))
    (λ _. tt)

row_said : (byte : ℕ) (bytes : List ℕ) → byte ≡ 114 → IfFits (mapped Row (index_of bytes)) (IsTerm (byte ∷ bytes))
row_said byte bytes is =
    mapped_fits (IsDecimal (2 ^ 32) bytes) (IsTerm (byte ∷ bytes)) Row (index_of bytes) (unsigned_said (2 ^ 32) bytes (omega arith))
    (λ n d. record { text = rw is (ap (λ (ds : List ℕ). 114 ∷ ds) d.text); fits = d.below })

pub term_said : (word : List ℕ) → IfFits (term_of word) (IsTerm word)
term_said [] = tt
term_said (byte ∷ bytes) = cond_both {A = Reading Term} (byte == 114) (mapped Row (index_of bytes)) (mapped Var (var_of (byte ∷ bytes))) (λ r. IfFits r (IsTerm (byte ∷ bytes)))
    (λ row. row_said byte bytes (eqb-true byte 114 row))
    (λ other. mapped_fits (IsVar (byte ∷ bytes)) (IsTerm (byte ∷ bytes)) Var (var_of (byte ∷ bytes)) (var_said (byte ∷ bytes)) (λ n v. record { text = v.text; fits = v.fits }))

-- a side

pub record IsSide (bytes : List ℕ) (side : Side) (behind : List ℕ) : Type 0 where
  pub text : bytes ≡ side_text side ++ behind

abbrev IfSide : List ℕ → Option (Side × List ℕ) → Type 0
IfSide bytes None = Unit {0}
IfSide bytes (Some side) = IsSide bytes side.0 side.1

side_said : (bytes : List ℕ) → IfSide bytes (side_of bytes)
side_said [] = tt
side_said (byte ∷ []) = tt
side_said (byte ∷ next ∷ bytes) =
    let all : List ℕ = byte ∷ next ∷ bytes in
    cond_both {A = Option (Side × List ℕ)} (next == 61) (cond (byte == 60) (Some (Le, bytes)) (cond (byte == 62) (Some (Ge, bytes)) None)) None (IfSide all)
    (λ equal. cond_both {A = Option (Side × List ℕ)} (byte == 60) (Some (Le, bytes)) (cond (byte == 62) (Some (Ge, bytes)) None) (IfSide all)
    (λ less. record { text = two 60 (eqb-true byte 60 less) (eqb-true next 61 equal) })
    (λ other. cond_both {A = Option (Side × List ℕ)} (byte == 62) (Some (Ge, bytes)) None (IfSide all)
    (λ more. record { text = two 62 (eqb-true byte 62 more) (eqb-true next 61 equal) })
    (λ none. tt)))
    (λ none. tt)
  where
    two : (sign : ℕ) → byte ≡ sign → next ≡ 61 → byte ∷ next ∷ bytes ≡ sign ∷ 61 ∷ bytes
    two sign first second = rw (first, second) refl

-- a literal

pub record IsLiteral (word : List ℕ) (lit : Lit) : Type 0 where
  pub text : word ≡ literal_text lit
  pub fits : LitFits lit

bounded_said : (word front back : List ℕ) (side : Option (Side × List ℕ)) → word ≡ front ++ back → IfSide back side → IfFits (bounded (term_of front) side) (IsLiteral word)
bounded_said word front back None whole is = tt
bounded_said word front back (Some side) whole is =
    mapped_fits (λ (p : Term × ℤ). IsTerm front p.0 × IsSigned side.1 p.1) (IsLiteral word) (λ p. record { term = p.0; side = side.0; bound = p.1 }) (both (term_of front) (number side.1))
    (both_fit (IsTerm front) (IsSigned side.1) (term_of front) (number side.1) (term_said front) (number_said side.1))
    (λ p parts. record {
      text = whole ∙ ap (λ (xs : List ℕ). front ++ xs) is.text ∙ ap (λ (xs : List ℕ). front ++ (side_text side.0 ++ xs)) parts.1.text
          ∙ ap (λ (xs : List ℕ). xs ++ (side_text side.0 ++ signed_decimal p.1)) parts.0.text;
      fits = record { term = parts.0.fits; bound = parts.1.fits };
    })

pub literal_said : (word : List ℕ) → IfFits (literal_of word) (IsLiteral word)
unfolding literal_of
literal_said word =
    let n = prefix_len is_term_byte word in
    bounded_said word (take n word) (drop n word) (side_of (drop n word)) (sym (take-append-drop n word)) (side_said (drop n word))

-- from a literal to its text

digits_stand : (ds rest : List ℕ) → AllDigits 10 ds → prefix_len is_term_byte (ds ++ rest) ≡ length ds + prefix_len is_term_byte rest
digits_stand [] rest d = omega arith
digits_stand (c ∷ cs) rest d =
    let within = digit_from_value c d.0 in
    let stands : is_term_byte c ≡ true =
    and_from (not (c == 60)) (not (c == 62)) (not_from_false (c == 60) (ne_eqb c 60 (λ e. omega (arith, within, e)))) (not_from_false (c == 62) (ne_eqb c 62 (λ e. omega (arith, within, e)))) in
    rw stands (omega (arith, digits_stand cs rest d.1))

term_stands : (term : Term) (rest : List ℕ) → TermFits term → prefix_len is_term_byte rest ≡ 0 → prefix_len is_term_byte (term_text term ++ rest) ≡ length (term_text term)
term_stands (Var number) rest fits none = omega (arith, digits_stand (decimal number) rest (decimal_is_IsNumeral_wide number (omega (arith, fits))).0.1, none)
term_stands (Row number) rest fits none = omega (arith, digits_stand (decimal number) rest (decimal_is_IsNumeral_wide number (omega (arith, fits))).0.1, none)

side_stops : (side : Side) (rest : List ℕ) → prefix_len is_term_byte (side_text side ++ rest) ≡ 0
side_stops Le rest = refl
side_stops Ge rest = refl

side_of_text : (side : Side) (rest : List ℕ) → side_of (side_text side ++ rest) ≡ Some (side, rest)
side_of_text Le rest = refl
side_of_text Ge rest = refl

front_of : (xs ys : List ℕ) → take (length xs) (xs ++ ys) ≡ xs
front_of [] ys = refl
front_of (x ∷ xs) ys = ap (λ (zs : List ℕ). x ∷ zs) (front_of xs ys)

back_of : (xs ys : List ℕ) → drop (length xs) (xs ++ ys) ≡ ys
back_of [] ys = refl
back_of (x ∷ xs) ys = back_of xs ys

pub literal_of_text : (lit : Lit) → LitFits lit → literal_of (literal_text lit) ≡ Fits lit
unfolding literal_of
literal_of_text lit fits =
    let front = term_text lit.term in
    let back = side_text lit.side ++ signed_decimal lit.bound in
    let len : prefix_len is_term_byte (front ++ back) ≡ length front = term_stands lit.term back fits.term (side_stops lit.side (signed_decimal lit.bound)) in
    ap (λ (n : ℕ). bounded (term_of (take n (front ++ back))) (side_of (drop n (front ++ back)))) len
    ∙ ap (λ (xs : List ℕ). bounded (term_of xs) (side_of (drop (length front) (front ++ back)))) (front_of front back)
    ∙ ap (λ (xs : List ℕ). bounded (term_of front) (side_of xs)) (back_of front back)
    ∙ ap (λ (side : Option (Side × List ℕ)). bounded (term_of front) side) (side_of_text lit.side (signed_decimal lit.bound))
    ∙ ap (λ (t : Reading Term). mapped (λ (p : Term × ℤ). record { term = p.0; side = lit.side; bound = p.1 }) (both t (number (signed_decimal lit.bound)))) (term_of_text lit.term fits.term)
    ∙ ap (λ (n : Reading ℤ). mapped (λ (p : Term × ℤ). record { term = p.0; side = lit.side; bound = p.1 }) (both (Fits lit.term) n)) (number_of lit.bound fits.bound)
