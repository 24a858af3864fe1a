-- What the tests of the next token say, and what single tokens write.
use Rattle.std.proofs.Common.{◌≡◌, ◌⊎◌, ◌+◌, ◌-◌, ◌*◌, ◌/◌, ◌%◌, ◌^◌, ◌<◌, ◌≤◌, ℕ, Bool, true, false, cond, ◌&&◌, eqb, ltb, leb, List, [], ◌∷◌, ◌++◌, drop, Option, Some, None, refl, sym, ap, ◌∙◌, inl, inr, arith, true≢false, leb-true, ltb-true, eqb-true, le-leb, lt-ltb, eq-eqb, pow_pos, ne_eqb, ltb-false}
use Rattle.std.proofs.lemmas.Bool.{eqb-false}
use Rattle.std.specs.Prelude.{codes}
use Rattle.std.specs.Option.{option_map, option_map_or}
use Rattle.std.specs.Str.{bytes_eq}
use Rattle.std.specs.Fmt.{decimal}
use Rattle.std.proofs.lemmas.Fmt.{decimal_digit, decimal_step}
use Rattle.std.proofs.lemmas.Slice.Eq.{bytes_eq-Decides}
use Rattle.ll_token.specs.declared.token.TokenKind.{TokenKind}
use Rattle.ll_token.specs.declared.token.TokenKind.TheVariants as kinds
use Rattle.ll_grammar.specs.Tokens.{Tok, is_kind, is_empty, word_at, mark_at, kind_at, name_at}
use Rattle.ll_grammar.specs.Words.{digits_width, width_of, value_below, negated, number_of, bit_of, literal_of}
use Rattle.ll_grammar.specs.Spells.{IsWord, IsMark, IsNameOf, IsType, value_behind, WritesNumber, WritesBit}

-- ---- tests

pub both_true : (x y : Bool) → (x && y) ≡ true → (x ≡ true) × (y ≡ true)
both_true true y e = (refl, e)
both_true false y e = absurd (true≢false (sym e))

pub none_is : {A B : Type 0} {x : A} → None ≡ Some x → B
none_is {A} {B} {x} e = absurd (true≢false (ap (λ (o : Option A). option_map_or (λ y. false) o true) e))

pub some_is : {A : Type 0} (x y : A) → Some x ≡ Some y → x ≡ y
some_is x y e = ap (λ o. option_map_or (λ z. z) o x) e

pub some_if : {A : Type 0} (b : Bool) (o : Option A) (x : A) → cond b o None ≡ Some x → (b ≡ true) × (o ≡ Some x)
some_if true o x e = (refl, e)
some_if false o x e = none_is e

pub same_bytes : (xs ys : List ℕ) → bytes_eq xs ys ≡ true → xs ≡ ys
same_bytes xs ys e = (bytes_eq-Decides xs ys).0 e

pub bytes_same : (xs ys : List ℕ) → xs ≡ ys → bytes_eq xs ys ≡ true
bytes_same xs ys e = (bytes_eq-Decides xs ys).1 e

pub same_kind : (a b : TokenKind) → is_kind a b ≡ true → a ≡ b
same_kind kinds.Local kinds.Local e = refl
same_kind kinds.Global kinds.Global e = refl
same_kind kinds.Label kinds.Label e = refl
same_kind kinds.Number kinds.Number e = refl
same_kind kinds.Word kinds.Word e = refl
same_kind kinds.String kinds.String e = refl
same_kind kinds.Meta kinds.Meta e = refl
same_kind kinds.Hash kinds.Hash e = refl
same_kind kinds.Mark kinds.Mark e = refl
same_kind kind other e = absurd (true≢false (sym e))

pub kind_same : (a : TokenKind) → is_kind a a ≡ true
kind_same kinds.Local = refl
kind_same kinds.Global = refl
kind_same kinds.Label = refl
kind_same kinds.Number = refl
kind_same kinds.Word = refl
kind_same kinds.String = refl
kind_same kinds.Meta = refl
kind_same kinds.Hash = refl
kind_same kinds.Mark = refl

-- ---- the next token, by what a test of it says

pub word_is : (word : List ℕ) (ts : List Tok) → is_empty word ≡ false → word_at ts ≡ word → IsWord word ts (drop 1 ts)
unfolding word_at
word_is word [] some e = absurd (true≢false (ap is_empty e ∙ some))
word_is word (t ∷ ts) some e = go (is_kind t.kind kinds.Word) refl e
  where
    go : (b : Bool) → is_kind t.kind kinds.Word ≡ b → cond b t.text [] ≡ word → IsWord word (t ∷ ts) ts
    go true k e = (t, refl, same_kind t.kind kinds.Word k, e)
    go false k e = absurd (true≢false (ap is_empty e ∙ some))

pub mark_is : (byte : ℕ) (ts : List Tok) → mark_at byte ts ≡ true → IsMark byte ts (drop 1 ts)
unfolding mark_at
mark_is byte [] e = absurd (true≢false (sym e))
mark_is byte (t ∷ ts) e = let p = both_true _ _ e in (t, refl, same_kind t.kind kinds.Mark p.0, same_bytes t.text (byte ∷ []) p.1)

pub kind_is : (kind : TokenKind) (ts : List Tok) → kind_at kind ts ≡ true → IsNameOf kind (name_at ts) ts (drop 1 ts)
unfolding kind_at name_at
kind_is kind [] e = absurd (true≢false (sym e))
kind_is kind (t ∷ ts) e = (t, refl, same_kind t.kind kind e, refl)

-- ---- types

digits_width_is : (digits : List ℕ) (w : ℕ) → digits_width digits ≡ Some w → (digits ≡ decimal w) × (1 ≤ w) × (w ≤ 32)
unfolding digits_width
digits_width_is [] w e = none_is e
digits_width_is (one ∷ []) w e =
    let p = some_if _ _ w e in
    let q = both_true _ _ p.0 in
    let v : one - 48 ≡ w = some_is _ _ p.1 in
    let least : 49 ≤ one = leb-true 49 one q.0 in
    let most : one ≤ 57 = leb-true one 57 q.1 in
    let n : one ≡ 48 + w = omega arith in
    (ap (λ (n : ℕ). n ∷ []) n ∙ sym (decimal_digit w (omega arith)), omega arith, omega arith)
digits_width_is (ten ∷ one ∷ []) w e =
    let p = some_if _ _ w e in
    let q = both_true _ _ p.0 in
    let r = both_true _ _ q.0 in
    let s = both_true _ _ q.1 in
    let fits = some_if _ _ w p.1 in
    let v : 10 * (ten - 48) + (one - 48) ≡ w = some_is _ _ fits.1 in
    let few : 10 * (ten - 48) + (one - 48) ≤ 32 = leb-true _ 32 fits.0 in
    let least_ten : 49 ≤ ten = leb-true 49 ten r.0 in
    let most_ten : ten ≤ 57 = leb-true ten 57 r.1 in
    let least_one : 48 ≤ one = leb-true 48 one s.0 in
    let most_one : one ≤ 57 = leb-true one 57 s.1 in
    let tens : w / 10 ≡ ten - 48 = omega arith in
    let ten_is : ten ≡ 48 + w / 10 = omega arith in
    let one_is : one ≡ 48 + w % 10 = omega arith in
    let front : decimal (w / 10) ≡ (48 + w / 10) ∷ [] = decimal_digit (w / 10) (omega arith) in
    let whole : decimal w ≡ (48 + w / 10) ∷ (48 + w % 10) ∷ [] = decimal_step w (omega arith) (omega arith) ∙ ap (λ (xs : List ℕ). xs ++ ((48 + w % 10) ∷ [])) front in
    (ap (λ (n : ℕ). n ∷ one ∷ []) ten_is ∙ ap (λ (n : ℕ). (48 + w / 10) ∷ n ∷ []) one_is ∙ sym whole, omega arith, omega arith)
digits_width_is (a ∷ b ∷ c ∷ more) w e = none_is e

pub width_of_is : (word : List ℕ) (w : ℕ) → width_of word ≡ Some w → (word ≡ codes "i" ++ decimal w) × (1 ≤ w) × (w ≤ 32)
unfolding width_of
width_of_is [] w e = none_is e
width_of_is (byte ∷ digits) w e =
    let p = some_if _ _ w e in
    let q = digits_width_is digits w p.1 in
    (ap (λ (b : ℕ). b ∷ digits) (eqb-true byte 105 p.0) ∙ ap (λ (xs : List ℕ). 105 ∷ xs) q.0, q.1, q.2)

pub type_is : (w : ℕ) (ts : List Tok) → width_of (word_at ts) ≡ Some w → IsType w ts (drop 1 ts)
type_is w ts e = let p = width_of_is (word_at ts) w e in (word_is _ ts refl p.0, p.1, p.2)

digits_width_reads : (w : ℕ) → 1 ≤ w → w ≤ 32 → digits_width (decimal w) ≡ Some w
unfolding digits_width
digits_width_reads w some few = go (ltb w 10) refl
  where
    go : (b : Bool) → ltb w 10 ≡ b → digits_width (decimal w) ≡ Some w
    go true less =
        let below : w < 10 = ltb-true w 10 less in
        let v : 48 + w - 48 ≡ w = omega arith in
        ap digits_width (decimal_digit w below)
        ∙ ap (λ b. cond (b && leb (48 + w) 57) (Some (48 + w - 48)) None) (le-leb 49 (48 + w) (omega arith))
        ∙ ap (λ b. cond b (Some (48 + w - 48)) None) (le-leb (48 + w) 57 (omega arith))
        ∙ ap (λ (n : ℕ). Some n) v
    go false more =
        let past : 10 ≤ w = ltb-false w 10 more in
        let front : decimal (w / 10) ≡ (48 + w / 10) ∷ [] = decimal_digit (w / 10) (omega arith) in
        let whole : decimal w ≡ (48 + w / 10) ∷ (48 + w % 10) ∷ [] = decimal_step w (omega arith) (omega arith) ∙ ap (λ (xs : List ℕ). xs ++ ((48 + w % 10) ∷ [])) front in
        let v : 10 * (48 + w / 10 - 48) + (48 + w % 10 - 48) ≡ w = omega arith in
        ap digits_width whole
        ∙ ap (λ b. cond ((b && leb (48 + w / 10) 57) && (leb 48 (48 + w % 10) && leb (48 + w % 10) 57)) (cond (leb (10 * (48 + w / 10 - 48) + (48 + w % 10 - 48)) 32) (Some (10 * (48 + w / 10 - 48) + (48 + w % 10 - 48))) None) None) (le-leb 49 (48 + w / 10) (omega arith))
        ∙ ap (λ b. cond (b && (leb 48 (48 + w % 10) && leb (48 + w % 10) 57)) (cond (leb (10 * (48 + w / 10 - 48) + (48 + w % 10 - 48)) 32) (Some (10 * (48 + w / 10 - 48) + (48 + w % 10 - 48))) None) None) (le-leb (48 + w / 10) 57 (omega arith))
        ∙ ap (λ b. cond (b && leb (48 + w % 10) 57) (cond (leb (10 * (48 + w / 10 - 48) + (48 + w % 10 - 48)) 32) (Some (10 * (48 + w / 10 - 48) + (48 + w % 10 - 48))) None) None) (le-leb 48 (48 + w % 10) (omega arith))
        ∙ ap (λ b. cond b (cond (leb (10 * (48 + w / 10 - 48) + (48 + w % 10 - 48)) 32) (Some (10 * (48 + w / 10 - 48) + (48 + w % 10 - 48))) None) None) (le-leb (48 + w % 10) 57 (omega arith))
        ∙ ap (λ (n : ℕ). cond (leb n 32) (Some n) None) v
        ∙ ap (λ b. cond b (Some w) None) (le-leb w 32 few)

pub width_of_reads : (w : ℕ) → 1 ≤ w → w ≤ 32 → width_of (codes "i" ++ decimal w) ≡ Some w
unfolding width_of
width_of_reads w some few = digits_width_reads w some few

-- ---- literals

behind_at_least : (value : ℕ) (digits : List ℕ) → value ≤ value_behind value digits
behind_at_least value [] = omega arith
behind_at_least value (digit ∷ digits) = omega (arith, behind_at_least (10 * value + (digit - 48)) digits)

value_below_is : (limit value : ℕ) (digits : List ℕ) (n : ℕ) → value < limit → value_below limit value digits ≡ Some n → (n ≡ value_behind value digits) × (n < limit)
unfolding value_below
value_below_is limit value [] n below e = let v : value ≡ n = some_is _ _ e in (sym v, omega arith)
value_below_is limit value (digit ∷ digits) n below e =
    let p = some_if _ _ n e in
    value_below_is limit (10 * value + (digit - 48)) digits n (ltb-true _ limit p.0) p.1

value_below_reads : (limit value : ℕ) (digits : List ℕ) → value_behind value digits < limit → value_below limit value digits ≡ Some (value_behind value digits)
unfolding value_below
value_below_reads limit value [] below = refl
value_below_reads limit value (digit ∷ digits) below =
    let next : 10 * value + (digit - 48) < limit = omega (arith, behind_at_least (10 * value + (digit - 48)) digits) in
    ap (λ b. cond b (value_below limit (10 * value + (digit - 48)) digits) None) (lt-ltb _ limit next)
    ∙ value_below_reads limit (10 * value + (digit - 48)) digits below

mapped_is : {A B : Type 0} (f : A → B) (o : Option A) (y : B) → option_map f o ≡ Some y → (x : A) × (o ≡ Some x) × (f x ≡ y)
mapped_is f (Some x) y e = (x, refl, some_is _ _ e)
mapped_is f None y e = none_is e

number_of_is : (w n : ℕ) (text : List ℕ) → number_of w text ≡ Some n → WritesNumber w n text
unfolding number_of
number_of_is w n [] e = none_is e
number_of_is w n (byte ∷ digits) e = go (eqb byte 45) refl e
  where
    go : (b : Bool) → eqb byte 45 ≡ b → cond b (option_map (negated w) (value_below (2 ^ w / 2 + 1) 0 digits)) (value_below (2 ^ w) 0 (byte ∷ digits)) ≡ Some n → WritesNumber w n (byte ∷ digits)
    go true minus e =
        let m = mapped_is (negated w) _ n e in
        let p = value_below_is (2 ^ w / 2 + 1) 0 digits m.0 (omega arith) m.1 in
        let few : value_behind 0 digits ≤ 2 ^ w / 2 = omega (arith, p.0, p.1) in
        inr (eqb-true byte 45 minus, few, sym m.2 ∙ ap (λ (v : ℕ). (2 ^ w - v) % 2 ^ w) p.0)
    go false plain e =
        let p = value_below_is (2 ^ w) 0 (byte ∷ digits) n (pow_pos w) e in
        inl (eqb-false byte 45 plain, p.0, p.1)

number_of_reads : (w n : ℕ) (text : List ℕ) → WritesNumber w n text → number_of w text ≡ Some n
unfolding number_of
number_of_reads w n [] writes = absurd writes
number_of_reads w n (byte ∷ digits) (inl p) =
    let below : value_behind 0 (byte ∷ digits) < 2 ^ w = omega (arith, p.1, p.2) in
    ap (λ b. cond b (option_map (negated w) (value_below (2 ^ w / 2 + 1) 0 digits)) (value_below (2 ^ w) 0 (byte ∷ digits))) (ne_eqb byte 45 p.0)
    ∙ value_below_reads (2 ^ w) 0 (byte ∷ digits) below ∙ ap (λ (v : ℕ). Some v) (sym p.1)
number_of_reads w n (byte ∷ digits) (inr p) =
    let few : value_behind 0 digits < 2 ^ w / 2 + 1 = omega (arith, p.1) in
    ap (λ b. cond b (option_map (negated w) (value_below (2 ^ w / 2 + 1) 0 digits)) (value_below (2 ^ w) 0 (byte ∷ digits))) (eq-eqb byte 45 p.0)
    ∙ ap (option_map (negated w)) (value_below_reads (2 ^ w / 2 + 1) 0 digits few) ∙ ap (λ (v : ℕ). Some v) (sym p.2)

bit_of_is : (w n : ℕ) (text : List ℕ) → bit_of w text ≡ Some n → WritesBit w n text
unfolding bit_of
bit_of_is w n text e = let p = some_if _ _ n e in (eqb-true w 1 p.0, go (bytes_eq text (codes "true")) refl p.1)
  where
    go : (b : Bool) → bytes_eq text (codes "true") ≡ b → cond b (Some 1) (cond (bytes_eq text (codes "false")) (Some 0) None) ≡ Some n → ((n ≡ 1) × (text ≡ codes "true")) ⊎ ((n ≡ 0) × (text ≡ codes "false"))
    go true is e = inl (sym (some_is _ _ e), same_bytes text _ is)
    go false other e = let p = some_if _ _ n e in inr (sym (some_is _ _ p.1), same_bytes text _ p.0)

bit_of_reads : (w n : ℕ) (text : List ℕ) → WritesBit w n text → bit_of w text ≡ Some n
unfolding bit_of
bit_of_reads w n text (one, inl (v, is)) = rw (one, is, v) refl
bit_of_reads w n text (one, inr (v, is)) = rw (one, is, v) refl

-- what a literal is, by its token
abbrev pub Writes : ℕ → ℕ → Tok → Type 0
Writes w n t = ((t.kind ≡ kinds.Number) × WritesNumber w n t.text) ⊎ ((t.kind ≡ kinds.Word) × WritesBit w n t.text)

pub literal_of_is : (w n : ℕ) (kind : TokenKind) (text : List ℕ) → literal_of w kind text ≡ Some n → ((kind ≡ kinds.Number) × WritesNumber w n text) ⊎ ((kind ≡ kinds.Word) × WritesBit w n text)
unfolding literal_of
literal_of_is w n kinds.Number text e = inl (refl, number_of_is w n text e)
literal_of_is w n kinds.Word text e = inr (refl, bit_of_is w n text e)
literal_of_is w n kind text e = none_is e

pub literal_of_reads : (w n : ℕ) (kind : TokenKind) (text : List ℕ) → ((kind ≡ kinds.Number) × WritesNumber w n text) ⊎ ((kind ≡ kinds.Word) × WritesBit w n text) → literal_of w kind text ≡ Some n
unfolding literal_of
literal_of_reads w n kind text (inl (k, writes)) = rw k (number_of_reads w n text writes)
literal_of_reads w n kind text (inr (k, writes)) = rw k (bit_of_reads w n text writes)
