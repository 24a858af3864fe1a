-- The name of a define line.
use Rattle.std.proofs.Common.{◌≡◌, ℕ, zero, suc, ◌+◌, ◌<◌, Bool, true, false, not, ◌&&◌, cond, eqb, List, [], ◌∷◌, ◌++◌, length, take, drop, get_or, min, Option, Some, None, Result, Ok, Err, IfOk, IfSome, refl, sym, ap, subst, ◌∙◌, arith, inl, inr, length-append, count_by}
use Rattle.std.specs.List.{prefix_len, list_all}
use Rattle.std.proofs.lemmas.Bool.{eqb-true, and_parts, false≢true, cases_lt, cases_order, ne_eqb}
use Rattle.std.proofs.lemmas.List.{take_at, take-append-drop, append_assoc, drop_more}
use Rattle.std.proofs.lemmas.List.Sums.{count_by_more_yes, count_by_more_no}
use Rattle.ll_token.specs.declared.token.TokenKind.TheVariants as kinds
use Rattle.ll_token.specs.Bytes.{is_run_byte, is_inner}
use Rattle.ll_token.specs.Names.{IsRun, Writes}
use Rattle.ll_token.specs.Lexemes.{HoldsName}
use Rattle.ll_token.specs.Scan.{IsLocalName}
use Rattle.ll_token.proofs.ListLaws.{apart, prefix_ends, prefix_is}
use Rattle.ll_reader.specs.DefineLine.{is_outside, is_sigil_at, IsFirstSigil, IsNamed, StandsBehind, name_len}

-- ---- the first `@` outside of a string

-- No `@` outside of a string stands before this place, and a string is open there or not.
pub record NoSigilBefore (line : List ℕ) (at : ℕ) (in_string : Bool) : Type 0 where
  pub state : in_string ≡ not (is_outside (take at line))
  pub none : (other : ℕ) → other < at → is_sigil_at line other ≡ false

pub no_sigil : (line : List ℕ) → NoSigilBefore line 0 false
unfolding is_outside
no_sigil line = record { state = refl; none = λ other before. absurd (omega arith) }

module _ (line : List ℕ) (at : ℕ) (in_string : Bool) (so_far : NoSigilBefore line at in_string) (within : at < length line) where
  extend : is_sigil_at line at ≡ false → (other : ℕ) → other < at + 1 → is_sigil_at line other ≡ false
  extend here other before = elim (cases_lt other at) [
    | inl earlier ↦ so_far.none other earlier
    | inr later ↦ let same : other ≡ at = omega arith in rw same here
  ]

  is_quote : ℕ → Bool
  is_quote byte = eqb byte 34

  pub pass_quote : get_or line at 0 ≡ 34 → NoSigilBefore line (at + 1) (not in_string)
  unfolding is_outside is_sigil_at is_quote
  pass_quote quote = record {
    state =
        let counted = count_by_more_yes (λ byte. eqb byte 34) line at 0 within (rw quote refl) in
        let e : count_by (λ byte. eqb byte 34) (take at line) + 1 ≡ suc (count_by (λ byte. eqb byte 34) (take at line)) = omega arith in
        rw (counted, e) (ap not so_far.state);
    none = extend (rw quote refl);
  }

  pub pass_other : (get_or line at 0 ≡ 34 → ⊥) → is_sigil_at line at ≡ false → NoSigilBefore line (at + 1) in_string
  unfolding is_outside
  pass_other no_quote here = let other = ne_eqb (get_or line at 0) 34 no_quote in record {
    state =
        let counted = count_by_more_no (λ byte. eqb byte 34) line at 0 within other in
        rw counted so_far.state;
    none = extend here;
  }

  pub sigil_here : get_or line at 0 ≡ 64 → in_string ≡ false → IsFirstSigil line (Some at)
  unfolding is_sigil_at
  sigil_here sigil plain =
      let open_now : not (is_outside (take at line)) ≡ false = sym so_far.state ∙ plain in
      (within, rw sigil (not_false (is_outside (take at line)) open_now), so_far.none)
    where
      not_false : (b : Bool) → not b ≡ false → b ≡ true
      not_false true e = refl
      not_false false e = absurd (false≢true (sym e))

  -- neither a quote nor a `@`, or a `@` in a string
  pub no_sigil_here : (get_or line at 0 ≡ 64 → in_string ≡ true) → is_sigil_at line at ≡ false
  unfolding is_sigil_at
  no_sigil_here inside = go (eqb (get_or line at 0) 64) refl
    where
      go : (t : Bool) → eqb (get_or line at 0) 64 ≡ t → (t && is_outside (take at line)) ≡ false
      go false e = refl
      go true e = not_true (is_outside (take at line)) (sym so_far.state ∙ inside (eqb-true (get_or line at 0) 64 e))
        where
          not_true : (b : Bool) → not b ≡ true → b ≡ false
          not_true true n = absurd (false≢true n)
          not_true false n = refl

-- ---- the name behind it

module _ (bytes : List ℕ) where
  written : List ℕ
  written = take (name_len bytes) bytes

  behind : List ℕ
  behind = drop (name_len bytes) bytes

-- what a run or a string at the front writes, it writes before the bytes behind it
same_name : (bytes name : List ℕ) → Writes (take (name_len bytes) bytes) [] name → Writes (take (name_len bytes) bytes) (drop (name_len bytes) bytes) name
unfolding name_len
same_name [] name (inl w) = absurd (let some = w.0.some in omega arith)
same_name (b ∷ rest) name (inl w) = go (eqb b 34) refl w
  where
    go : (t : Bool) → eqb b 34 ≡ t → let n : ℕ = cond t (min (prefix_len is_inner rest + 2) (suc (length rest))) (prefix_len is_run_byte (b ∷ rest)) in
        IsRun (take n (b ∷ rest)) [] × (name ≡ take n (b ∷ rest)) → Writes (take n (b ∷ rest)) (drop n (b ∷ rest)) name
    go false other run = inl (record { some = run.0.some; each = run.0.each; longest = prefix_ends is_run_byte (b ∷ rest) }, run.1)
    go true quote run = absurd (no_quote b rest (min (prefix_len is_inner rest + 2) (suc (length rest))) run.0.some run.0.each (eqb-true b 34 quote))
      where
        no_quote : (b : ℕ) (rest : List ℕ) (n : ℕ) → 0 < length (take n (b ∷ rest)) → list_all is_run_byte (take n (b ∷ rest)) ≡ true → b ≡ 34 → ⊥
        no_quote b rest zero some each quote = absurd (omega arith)
        no_quote b rest (suc n) some each quote =
            let first = (and_parts (is_run_byte b) (list_all is_run_byte (take n rest)) each).0 in
            false≢true (rw quote at first)
same_name bytes name (inr q) = inr q

-- a name that bytes begin with is what the run or string at the front writes
run_len : (body after : List ℕ) → IsRun body after → name_len (body ++ after) ≡ length body
unfolding name_len
run_len [] after run = absurd (let some = run.some in omega arith)
run_len (b ∷ body) after run =
    let first = (and_parts (is_run_byte b) (list_all is_run_byte body) run.each).0 in
    let plain : eqb b 34 ≡ false = apart is_run_byte b 34 first refl in
    rw plain (prefix_is is_run_byte (b ∷ body) after run.each run.longest)

string_len : (inner after : List ℕ) → list_all is_inner inner ≡ true → name_len (34 ∷ (inner ++ 34 ∷ after)) ≡ length inner + 2
unfolding name_len
string_len inner after in_line =
    let n : prefix_len is_inner (inner ++ 34 ∷ after) ≡ length inner = prefix_is is_inner inner (34 ∷ after) in_line refl in
    let l = length-append inner (34 ∷ after) in
    rw n (omega (arith, l))

name_is : (body after name : List ℕ) → Writes body after name → take (name_len (body ++ after)) (body ++ after) ≡ body
name_is body after name (inl w) = rw (run_len body after w.0) (take_at body after (length body) refl)
name_is body after name (inr q) =
    let inner : List ℕ = q.inner in
    let whole : body ++ after ≡ 34 ∷ (inner ++ 34 ∷ after) = ap (λ (x : List ℕ). x ++ after) q.quotes ∙ ap (λ (x : List ℕ). 34 ∷ x) (append_assoc inner (34 ∷ []) after) in
    let len : length body ≡ length inner + 2 = ap length q.quotes ∙ omega (arith, length-append inner (34 ∷ [])) in
    let n : name_len (body ++ after) ≡ length body = ap name_len whole ∙ string_len inner after q.in_line ∙ sym len in
    rw n (take_at body after (length body) refl)

plain_end : (body after name : List ℕ) → Writes body after name → Writes body [] name
plain_end body after name (inl w) = inl (record { some = w.0.some; each = w.0.each; longest = refl }, w.1)
plain_end body after name (inr q) = inr q

-- behind a `%`, the same name stands as behind a `@`
module _ (bytes local : List ℕ) (local_is : local ≡ 37 ∷ take (name_len bytes) bytes) where
  pub global_of : (name : List ℕ) → IsLocalName local name → (text after : List ℕ) × (64 ∷ bytes ≡ text ++ after) × HoldsName kinds.Global text after name
  global_of name (body, is, w, some) =
      let body_is : body ≡ take (name_len bytes) bytes = sym (ap (drop 1) is) ∙ ap (drop 1) local_is in (
        64 ∷ take (name_len bytes) bytes,
        drop (name_len bytes) bytes,
        ap (λ (x : List ℕ). 64 ∷ x) (sym (take-append-drop (name_len bytes) bytes)),
        (take (name_len bytes) bytes, refl, same_name bytes name (subst (λ (x : List ℕ). Writes x [] name) body_is w), some),
      )

  pub local_of : (text after name : List ℕ) → 64 ∷ bytes ≡ text ++ after → HoldsName kinds.Global text after name → IsLocalName local name
  local_of text after name whole (body, is, w, some) =
      let bytes_are : bytes ≡ body ++ after = ap (drop 1) whole ∙ ap (λ (x : List ℕ). drop 1 (x ++ after)) is in
      let local_body : local ≡ 37 ∷ body = local_is ∙ ap (λ (x : List ℕ). 37 ∷ take (name_len x) x) bytes_are ∙ ap (λ (x : List ℕ). 37 ∷ x) (name_is body after name w) in
      (body, local_body, plain_end body after name w, some)

module _ (bytes local : List ℕ) (local_is : local ≡ 37 ∷ take (name_len bytes) bytes) {E : Type 0} where
  pub name_found : (made : Result (Option (List ℕ)) E) → IfOk made (λ found. IfSome found (IsLocalName local)) → IfOk made (λ found. IfSome found (StandsBehind bytes))
  name_found (Ok (Some name)) is = global_of bytes local local_is name is
  name_found (Ok None) is = tt
  name_found (Err e) is = tt

  pub name_only : (made : Result (Option (List ℕ)) E) → ((name : List ℕ) → IsLocalName local name → IfOk made (λ found. found ≡ Some name))
      → (name : List ℕ) → StandsBehind bytes name → IfOk made (λ found. found ≡ Some name)
  name_only made only name (text, after, whole, holds) = only name (local_of bytes local local_is text after name whole holds)

-- ---- the name of a line

-- a line has one first `@` outside of a string
one_sigil : (line : List ℕ) (at other : ℕ) → IsFirstSigil line (Some at) → IsFirstSigil line (Some other) → at ≡ other
one_sigil line at other (in_line, here, first) (other_in_line, there, other_first) = elim (cases_order at other) [
  | inl same ↦ same
  | inr (inl before) ↦ absurd (false≢true (sym (other_first at before) ∙ here))
  | inr (inr behind) ↦ absurd (false≢true (sym (first other behind) ∙ there))
]

-- without a `@` there is no name
pub no_name : (line name : List ℕ) → IsFirstSigil line None → IsNamed line name → ⊥
no_name line name none named = let (in_line, here, first) = named.first in false≢true (sym (none named.at in_line) ∙ here)

module _ (line behind : List ℕ) (at : ℕ) (first : IsFirstSigil line (Some at)) (behind_is : behind ≡ drop (at + 1) line) where
  from_sigil : drop at line ≡ 64 ∷ behind
  unfolding is_sigil_at
  from_sigil =
      let byte : get_or line at 0 ≡ 64 = eqb-true (get_or line at 0) 64 (and_parts (eqb (get_or line at 0) 64) (is_outside (take at line)) first.1).0 in
      drop_more line at 0 first.0 ∙ rw (byte, behind_is) refl

  pub has_found : (found name : List ℕ) → StandsBehind behind found → found ≡ name → IsNamed line name
  has_found found name (text, after, whole, holds) same = record {
    at = at;
    text = text;
    after = after;
    first = first;
    parts = from_sigil ∙ whole;
    holds = subst (HoldsName kinds.Global text after) same holds;
  }

  pub found_is : (found : Option (List ℕ)) (name : List ℕ) → ((name : List ℕ) → StandsBehind behind name → found ≡ Some name) → IsNamed line name → found ≡ Some name
  found_is found name only named =
      let same : named.at ≡ at = one_sigil line named.at at named.first first in
      only name (named.text, named.after, sym from_sigil ∙ ap (λ (x : ℕ). drop x line) (sym same) ∙ named.parts, named.holds)

pub some_is : {A : Type 0} {x y : A} → Some x ≡ Some y → x ≡ y
some_is {A} {x} e = ap (λ (o : Option A). option_or o x) e
  where
    option_or : Option A → A → A
    option_or (Some y) x = y
    option_or None x = x

pub some_not_none : {A : Type 0} {x : A} {B : Type 0} → Some x ≡ None → B
some_not_none e = absurd cc
