-- The inside of a string: what is read is what stands there, and the other way round.
use Rattle.std.proofs.Common.{◌≡◌, ◌⊎◌, ℕ, ◌+◌, Bool, true, false, ◌||◌, eqb, List, [], ◌∷◌, ◌++◌, length, take, drop, Option, Some, None, Result, Ok, Err, refl, sym, ap, subst, ◌∙◌, inl, inr}
use Rattle.std.specs.List.{list_all, prefix_len}
use Rattle.std.proofs.lemmas.List.{take-append-drop, take_at, drop_at, length-take-le}
use Rattle.std.proofs.lemmas.List.Sums.{prefix_len-le-length}
use Rattle.std.proofs.lemmas.Bool.{or_from, or_parts, eqb-true, cond_both}
use Rattle.ll_token.specs.declared.token.FaultKind.TheVariants as faults
use Rattle.ll_token.specs.declared.lexeme.Flaw.{Flaw}
use Rattle.ll_token.specs.Bytes.{is_inner, begins}
use Rattle.ll_token.specs.Names.{StandsFor, IsBadEscape}
use Rattle.ll_token.specs.Lexemes.{IsLead, IsFlaw}
use Rattle.ll_token.specs.Reading.{bad_at, escapes_checked, inside_at}
use Rattle.ll_token.proofs.ListLaws.{prefix_passes, prefix_ends, prefix_is}
use Rattle.ll_token.proofs.PieceLaws.{Answers, bad_right, one_answer}

-- bytes that begin with a byte are it and others
pub begins_is : (c : ℕ) (bytes : List ℕ) → begins (λ b. eqb b c) bytes ≡ true → (rest : List ℕ) × (bytes ≡ c ∷ rest)
begins_is c [] e = absurd cc
begins_is c (b ∷ bytes) e = (bytes, ap (λ (x : ℕ). x ∷ bytes) (eqb-true b c e))

pub begins_neither : (p q : ℕ → Bool) (bytes : List ℕ) → begins p bytes ≡ false → begins q bytes ≡ false → begins (λ b. p b || q b) bytes ≡ false
begins_neither p q [] a b = refl
begins_neither p q (x ∷ bytes) a b = or_from (p x) (q x) a b

pub begins_parts : (p q : ℕ → Bool) (bytes : List ℕ) → begins (λ b. p b || q b) bytes ≡ false → (begins p bytes ≡ false) × (begins q bytes ≡ false)
begins_parts p q [] e = (refl, refl)
begins_parts p q (x ∷ bytes) e = or_parts (p x) (q x) e

-- the inside is whole, and its escapes are
pub record IsInside (bytes : List ℕ) (len : ℕ) : Type 0 where
  pub inner : List ℕ
  pub after : List ℕ
  pub name : List ℕ
  pub parts : bytes ≡ inner ++ 34 ∷ after
  pub len_is : len ≡ length inner
  pub in_line : list_all is_inner inner ≡ true
  pub escapes : StandsFor inner name []

-- the inside has no end in its line
pub record HasNoEnd (bytes : List ℕ) : Type 0 where
  pub inner : List ℕ
  pub after : List ℕ
  pub parts : bytes ≡ inner ++ after
  pub in_line : list_all is_inner inner ≡ true
  pub line_end : begins (λ b. is_inner b || eqb b 34) after ≡ false

-- the inside has an end, and a backslash that begins no escape
pub record IsBad (bytes : List ℕ) (within : ℕ) : Type 0 where
  pub inner : List ℕ
  pub after : List ℕ
  pub parts : bytes ≡ inner ++ 34 ∷ after
  pub in_line : list_all is_inner inner ≡ true
  pub bad : IsBadEscape inner within

abbrev pub open_string : Flaw
open_string = record { kind = faults.OpenString; offset = 0 }

abbrev pub bad_escape : ℕ → Flaw
bad_escape offset = record { kind = faults.BadEscape; offset = offset }

-- what is read of an inside
abbrev pub InsideRight : ℕ → List ℕ → Result ℕ Flaw → Type 0
InsideRight lead bytes (Ok len) = IsInside bytes len
InsideRight lead bytes (Err flaw) = ((flaw ≡ open_string) × HasNoEnd bytes) ⊎ ((within : ℕ) × (flaw ≡ bad_escape (lead + within)) × IsBad bytes within)

closed_right : (lead : ℕ) (bytes inner after : List ℕ) → bytes ≡ inner ++ 34 ∷ after → list_all is_inner inner ≡ true → (answer : Option ℕ) → Answers inner answer → InsideRight lead bytes (escapes_checked lead answer (length inner))
closed_right lead bytes inner after parts in_line None w = record { inner = inner; after = after; name = w.0; parts = parts; len_is = refl; in_line = in_line; escapes = w.1 }
closed_right lead bytes inner after parts in_line (Some within) w = inr (within, refl, record { inner = inner; after = after; parts = parts; in_line = in_line; bad = w })

pub inside_right : (lead : ℕ) (bytes : List ℕ) → InsideRight lead bytes (inside_at lead bytes)
unfolding inside_at
inside_right lead bytes =
    let len : ℕ = prefix_len is_inner bytes in
    let inner : List ℕ = take len bytes in
    let rest : List ℕ = drop len bytes in
    let whole : bytes ≡ inner ++ rest = sym (take-append-drop len bytes) in
    let in_line : list_all is_inner inner ≡ true = prefix_passes is_inner bytes in
    let long : length inner ≡ len = length-take-le len bytes (prefix_len-le-length is_inner bytes) in
    cond_both (begins (λ b. eqb b 34) rest) (escapes_checked lead (bad_at inner) len) (Err open_string) (InsideRight lead bytes)
    (λ closed.
    let quote = begins_is 34 rest closed in
    subst (λ (n : ℕ). InsideRight lead bytes (escapes_checked lead (bad_at inner) n)) long
    (closed_right lead bytes inner quote.0 (whole ∙ ap (λ (x : List ℕ). inner ++ x) quote.1) in_line (bad_at inner) (bad_right inner)))
    (λ open_end. inl (
      refl,
      record {
        inner = inner;
        after = rest;
        parts = whole;
        in_line = in_line;
        line_end = begins_neither is_inner (λ b. eqb b 34) rest (prefix_ends is_inner bytes) open_end;
      },
    ))

-- what is read of an inside that has an end
ended : (lead : ℕ) (inner after : List ℕ) (answer : Option ℕ) → list_all is_inner inner ≡ true → Answers inner answer → inside_at lead (inner ++ 34 ∷ after) ≡ escapes_checked lead answer (length inner)
unfolding inside_at
ended lead inner after answer in_line right =
    let len : prefix_len is_inner (inner ++ 34 ∷ after) ≡ length inner = prefix_is is_inner inner (34 ∷ after) in_line refl in
    let same : bad_at inner ≡ answer = one_answer inner (bad_at inner) answer (bad_right inner) right in
    rw (len, take_at inner (34 ∷ after) (length inner) refl, drop_at inner (34 ∷ after) (length inner) refl, same) refl

pub inside_again : (lead : ℕ) (inner after name : List ℕ) → list_all is_inner inner ≡ true → StandsFor inner name [] → inside_at lead (inner ++ 34 ∷ after) ≡ Ok (length inner)
inside_again lead inner after name in_line escapes = ended lead inner after None in_line (name, escapes)

pub bad_again : (lead : ℕ) (inner after : List ℕ) (within : ℕ) → list_all is_inner inner ≡ true → IsBadEscape inner within → inside_at lead (inner ++ 34 ∷ after) ≡ Err (bad_escape (lead + within))
bad_again lead inner after within in_line bad = ended lead inner after (Some within) in_line bad

pub open_again : (lead : ℕ) (inner after : List ℕ) → list_all is_inner inner ≡ true → begins (λ b. is_inner b || eqb b 34) after ≡ false → inside_at lead (inner ++ after) ≡ Err open_string
unfolding inside_at
open_again lead inner after in_line line_end =
    let ends = begins_parts is_inner (λ b. eqb b 34) after line_end in
    let len : prefix_len is_inner (inner ++ after) ≡ length inner = prefix_is is_inner inner after in_line ends.0 in
    rw (len, drop_at inner after (length inner) refl, ends.1) refl

-- a fault of a string, by what stands before its inside
pub flaw_right : (lead bytes : List ℕ) (flaw : Flaw) → IsLead lead → InsideRight (length lead) bytes (Err flaw) → IsFlaw flaw.kind (lead ++ bytes) flaw.offset
flaw_right lead bytes flaw is_lead (inl w) =
    let o = w.1 in
    subst (λ (f : Flaw). IsFlaw f.kind (lead ++ bytes) f.offset) (sym w.0)
    (record { lead = lead; inner = o.inner; after = o.after; parts = ap (λ (x : List ℕ). lead ++ x) o.parts; begins_string = is_lead; in_line = o.in_line; line_end = o.line_end }, refl)
flaw_right lead bytes flaw is_lead (inr w) =
    let b = w.2 in
    subst (λ (f : Flaw). IsFlaw f.kind (lead ++ bytes) f.offset) (sym w.1)
    (record { lead = lead; inner = b.inner; after = b.after; parts = ap (λ (x : List ℕ). lead ++ x) b.parts; begins_string = is_lead; in_line = b.in_line; within = w.0; bad = b.bad; here = refl })
