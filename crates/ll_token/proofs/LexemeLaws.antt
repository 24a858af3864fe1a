-- The token at the front: what is read is a token, or the fault that stands there.
use Rattle.std.proofs.Common.{◌≡◌, ℕ, ◌+◌, ◌<◌, true, false, cond, eqb, List, [], ◌∷◌, ◌++◌, length, take, drop, Result, Ok, Err, refl, sym, ap, subst, ◌∙◌, arith, inl, inr, length-append}
use Rattle.std.specs.List.{prefix_len}
use Rattle.std.proofs.lemmas.List.{take-append-drop, drop_at, length-take-le, append_assoc, nil_from_length}
use Rattle.std.proofs.lemmas.List.Sums.{prefix_len-le-length}
use Rattle.std.proofs.lemmas.Bool.{or_from, eqb-true, eqb-false, not_from_false, false≢true, false_from_ne_true, cond_both}
use Rattle.ll_token.specs.declared.token.TokenKind.{TokenKind}
use Rattle.ll_token.specs.declared.token.TokenKind.TheVariants as kinds
use Rattle.ll_token.specs.declared.lexeme.Lexeme.{Lexeme}
use Rattle.ll_token.specs.declared.lexeme.Flaw.{Flaw}
use Rattle.ll_token.specs.Bytes.{begins_gap, is_run_byte, is_mark, is_sigil, begins, is_number}
use Rattle.ll_token.specs.Names.{IsRun, IsQuoted, Writes, StandsFor}
use Rattle.ll_token.specs.Lexemes.{IsToken, IsFlaw, IsLead, BeginsNoToken}
use Rattle.ll_token.specs.Lexemes.BeginsNoToken.{other_byte, no_name, no_hash, empty_name, empty_label}
use Rattle.ll_token.specs.Reading.{◌>>=◌, lexeme, bad_byte, inside_at, bare_name, quoted_name, name_at, string_at, run_at, lexeme_at}
use Rattle.ll_token.proofs.ListLaws.{prefix_passes, prefix_ends}
use Rattle.ll_token.proofs.StringLaws.{begins_is, begins_neither, InsideRight, IsInside, inside_right, flaw_right}

-- what is read as a token is one
pub record IsLexeme (bytes : List ℕ) (read : Lexeme) : Type 0 where
  pub text : List ℕ
  pub after : List ℕ
  pub parts : bytes ≡ text ++ after
  pub len_is : read.len ≡ length text
  pub some : 0 < length text
  pub form : IsToken read.kind text after

abbrev pub Right : List ℕ → Result Lexeme Flaw → Type 0
Right bytes (Ok read) = IsLexeme bytes read
Right bytes (Err flaw) = IsFlaw flaw.kind bytes flaw.offset

nothing_there : (bytes : List ℕ) → BeginsNoToken bytes → Right bytes bad_byte
nothing_there bytes none = (none, refl)

-- the run at the front of some bytes
front_run : (bytes : List ℕ) → eqb (prefix_len is_run_byte bytes) 0 ≡ false → IsRun (take (prefix_len is_run_byte bytes) bytes) (drop (prefix_len is_run_byte bytes) bytes)
front_run bytes some =
    let long : length (take (prefix_len is_run_byte bytes) bytes) ≡ prefix_len is_run_byte bytes = length-take-le (prefix_len is_run_byte bytes) bytes (prefix_len-le-length is_run_byte bytes) in
    let more = eqb-false (prefix_len is_run_byte bytes) 0 some in
    record { some = omega arith; each = prefix_passes is_run_byte bytes; longest = prefix_ends is_run_byte bytes }

no_run : (bytes : List ℕ) → eqb (prefix_len is_run_byte bytes) 0 ≡ true → begins is_run_byte bytes ≡ false
no_run bytes none = subst (λ (n : ℕ). begins is_run_byte (drop n bytes) ≡ false) (eqb-true (prefix_len is_run_byte bytes) 0 none) (prefix_ends is_run_byte bytes)

bare_right : (first : ℕ) (kind : TokenKind) (bytes : List ℕ) → ((text after : List ℕ) → IsRun text after → IsToken kind (first ∷ text) after) → (begins is_run_byte bytes ≡ false → BeginsNoToken (first ∷ bytes)) → Right (first ∷ bytes) (bare_name kind bytes)
unfolding bare_name
bare_right first kind bytes token none =
    let len : ℕ = prefix_len is_run_byte bytes in
    let long : length (take len bytes) ≡ len = length-take-le len bytes (prefix_len-le-length is_run_byte bytes) in
    cond_both (eqb len 0) bad_byte (lexeme kind (len + 1)) (Right (first ∷ bytes))
    (λ e. nothing_there (first ∷ bytes) (none (no_run bytes e)))
    (λ e. record {
      text = first ∷ take len bytes;
      after = drop len bytes;
      parts = ap (λ (x : List ℕ). first ∷ x) (sym (take-append-drop len bytes));
      len_is = omega arith;
      some = omega arith;
      form = token (take len bytes) (drop len bytes) (front_run bytes e);
    })

-- a name that isn't empty is written with some byte
named : (inner name : List ℕ) → 0 < length inner → StandsFor inner name [] → 0 < length name
named inner [] some stands = let same = ap length stands in absurd (omega arith)
named inner (byte ∷ name) some stands = omega arith

bind_right : (bytes : List ℕ) (read : Result ℕ Flaw) (f : ℕ → Result Lexeme Flaw) (lead : ℕ) (inside : List ℕ) → InsideRight lead inside read → ((len : ℕ) → IsInside inside len → Right bytes (f len)) → ((flaw : Flaw) → InsideRight lead inside (Err flaw) → IsFlaw flaw.kind bytes flaw.offset) → Right bytes (read >>= f)
bind_right bytes (Ok len) f lead inside right whole broken = whole len right
bind_right bytes (Err flaw) f lead inside right whole broken = broken flaw right

no_inner : (bytes : List ℕ) (len : ℕ) (is : IsInside bytes len) → eqb len 0 ≡ true → bytes ≡ 34 ∷ is.after
no_inner bytes len is none =
    let len_is = is.len_is in
    let zero_len : len ≡ 0 = eqb-true len 0 none in
    is.parts ∙ ap (λ (x : List ℕ). x ++ 34 ∷ is.after) (nil_from_length is.inner (omega arith))

quoted_right : (first : ℕ) (kind : TokenKind) (bytes : List ℕ) → is_sigil first ≡ true → IsLead (first ∷ 34 ∷ []) → ((body after name : List ℕ) → Writes body after name → 0 < length name → IsToken kind (first ∷ body) after) → Right (first ∷ 34 ∷ bytes) (quoted_name kind bytes)
unfolding quoted_name
quoted_right first kind bytes sigil is_lead token =
    bind_right (first ∷ 34 ∷ bytes) (inside_at 2 bytes) (λ len. cond (eqb len 0) bad_byte (lexeme kind (len + 3))) 2 bytes (inside_right 2 bytes)
    (λ len is.
    cond_both (eqb len 0) bad_byte (lexeme kind (len + 3)) (Right (first ∷ 34 ∷ bytes))
    (λ e. nothing_there (first ∷ 34 ∷ bytes) (subst (λ (x : List ℕ). BeginsNoToken (first ∷ 34 ∷ x)) (sym (no_inner bytes len is e)) (empty_name first is.after sigil)))
    (λ e.
    let more = eqb-false len 0 e in
    let len_is = is.len_is in
    let long = length-append is.inner (34 ∷ []) in
    record {
      text = first ∷ 34 ∷ (is.inner ++ 34 ∷ []);
      after = is.after;
      parts = ap (λ (x : List ℕ). first ∷ 34 ∷ x) (is.parts ∙ sym (append_assoc is.inner (34 ∷ []) is.after));
      len_is = omega arith;
      some = omega arith;
      form = token (34 ∷ (is.inner ++ 34 ∷ [])) is.after is.name
          (inr (record { inner = is.inner; quotes = refl; in_line = is.in_line; escapes = is.escapes }))
          (named is.inner is.name (omega arith) is.escapes);
    }))
    (λ flaw broken. flaw_right (first ∷ 34 ∷ []) bytes flaw is_lead broken)

pub name_right : (first : ℕ) (kind : TokenKind) (bytes : List ℕ) → is_sigil first ≡ true → IsLead (first ∷ 34 ∷ []) → ((body after name : List ℕ) → Writes body after name → 0 < length name → IsToken kind (first ∷ body) after) → Right (first ∷ bytes) (name_at kind bytes)
unfolding name_at
name_right first kind bytes sigil is_lead token =
    cond_both (begins (λ b. eqb b 34) bytes) (quoted_name kind (drop 1 bytes)) (bare_name kind bytes) (Right (first ∷ bytes))
    (λ e.
    let quote = begins_is 34 bytes e in
    subst (λ (x : List ℕ). Right (first ∷ x) (quoted_name kind (drop 1 x))) (sym quote.1) (quoted_right first kind quote.0 sigil is_lead token))
    (λ e. bare_right first kind bytes (λ text after run. token text after text (inl (run, refl)) run.some) (λ none. no_name first bytes sigil (begins_neither is_run_byte (λ b. eqb b 34) bytes none e)))

string_right : (bytes : List ℕ) → Right (34 ∷ bytes) (string_at bytes)
unfolding string_at
string_right bytes =
    bind_right (34 ∷ bytes) (inside_at 1 bytes) (λ len. cond (begins (λ b. eqb b 58) (drop (len + 1) bytes)) (cond (eqb len 0) bad_byte (lexeme kinds.Label (len + 3))) (lexeme kinds.String (len + 2))) 1 bytes (inside_right 1 bytes)
    (λ len is.
    let len_is = is.len_is in
    let long : length (is.inner ++ 34 ∷ []) ≡ len + 1 = let l = length-append is.inner (34 ∷ []) in omega arith in
    let regrouped : bytes ≡ (is.inner ++ 34 ∷ []) ++ is.after = is.parts ∙ sym (append_assoc is.inner (34 ∷ []) is.after) in
    let behind : drop (len + 1) bytes ≡ is.after = ap (drop (len + 1)) regrouped ∙ drop_at (is.inner ++ 34 ∷ []) is.after (len + 1) long in
    let quoted : IsQuoted (34 ∷ (is.inner ++ 34 ∷ [])) is.name = record { inner = is.inner; quotes = refl; in_line = is.in_line; escapes = is.escapes } in
    cond_both (begins (λ b. eqb b 58) (drop (len + 1) bytes)) (cond (eqb len 0) bad_byte (lexeme kinds.Label (len + 3))) (lexeme kinds.String (len + 2)) (Right (34 ∷ bytes))
    (λ colon.
    let next = begins_is 58 (drop (len + 1) bytes) colon in
    let rest : is.after ≡ 58 ∷ next.0 = sym behind ∙ next.1 in
    cond_both (eqb len 0) bad_byte (lexeme kinds.Label (len + 3)) (Right (34 ∷ bytes))
    (λ e. nothing_there (34 ∷ bytes) (subst (λ (x : List ℕ). BeginsNoToken (34 ∷ x)) (sym (no_inner bytes len is e ∙ ap (λ (x : List ℕ). 34 ∷ x) rest)) (empty_label next.0)))
    (λ e.
    let more = eqb-false len 0 e in
    let body : List ℕ = 34 ∷ (is.inner ++ 34 ∷ []) in
    let longer = length-append body (58 ∷ []) in
    record {
      text = body ++ 58 ∷ [];
      after = next.0;
      parts = ap (λ (x : List ℕ). 34 ∷ x) (regrouped ∙ ap (λ (x : List ℕ). (is.inner ++ 34 ∷ []) ++ x) rest) ∙ sym (append_assoc body (58 ∷ []) next.0);
      len_is = omega arith;
      some = omega arith;
      form = (is.name, (body, refl, inr quoted, named is.inner is.name (omega arith) is.escapes));
    }))
    (λ plain. record {
      text = 34 ∷ (is.inner ++ 34 ∷ []);
      after = is.after;
      parts = ap (λ (x : List ℕ). 34 ∷ x) regrouped;
      len_is = omega arith;
      some = omega arith;
      form = (is.name, (quoted, subst (λ (x : List ℕ). begins (λ b. eqb b 58) x ≡ false) behind plain));
    }))
    (λ flaw broken. flaw_right (34 ∷ []) bytes flaw (inl refl) broken)

run_right : (bytes : List ℕ) → begins is_run_byte bytes ≡ true → Right bytes (run_at bytes)
unfolding run_at
run_right bytes begins_run =
    let len : ℕ = prefix_len is_run_byte bytes in
    let text : List ℕ = take len bytes in
    let rest : List ℕ = drop len bytes in
    let whole : bytes ≡ text ++ rest = sym (take-append-drop len bytes) in
    let long : length text ≡ len = length-take-le len bytes (prefix_len-le-length is_run_byte bytes) in
    let run : IsRun text rest = front_run bytes (false_from_ne_true (eqb len 0) (λ none. false≢true (sym (no_run bytes none) ∙ begins_run))) in
    let some : 0 < length text = run.some in
    cond_both (begins (λ b. eqb b 58) rest) (lexeme kinds.Label (len + 1)) (cond (is_number text) (lexeme kinds.Number len) (lexeme kinds.Word len)) (Right bytes)
    (λ colon.
    let next = begins_is 58 rest colon in
    let longer = length-append text (58 ∷ []) in
    record {
      text = text ++ 58 ∷ [];
      after = next.0;
      parts = whole ∙ ap (λ (x : List ℕ). text ++ x) next.1 ∙ sym (append_assoc text (58 ∷ []) next.0);
      len_is = omega arith;
      some = omega arith;
      form = (text, (text, refl, inl (subst (IsRun text) next.1 run, refl), some));
    })
    (λ plain.
    cond_both (is_number text) (lexeme kinds.Number len) (lexeme kinds.Word len) (Right bytes)
    (λ number. record { text = text; after = rest; parts = whole; len_is = sym long; some = some; form = ((run, plain), number) })
    (λ word. record { text = text; after = rest; parts = whole; len_is = sym long; some = some; form = ((run, plain), word) }))

meta_right : (rest : List ℕ) → Right (33 ∷ rest) (lexeme kinds.Meta (prefix_len is_run_byte rest + 1))
meta_right rest =
    let len : ℕ = prefix_len is_run_byte rest in
    let long : length (take len rest) ≡ len = length-take-le len rest (prefix_len-le-length is_run_byte rest) in
    record {
      text = 33 ∷ take len rest;
      after = drop len rest;
      parts = ap (λ (x : List ℕ). 33 ∷ x) (sym (take-append-drop len rest));
      len_is = omega arith;
      some = omega arith;
      form = (take len rest, refl, prefix_passes is_run_byte rest, prefix_ends is_run_byte rest);
    }

-- behind no gap, what is read is a token or the fault that stands there
pub lexeme_right : (first : ℕ) (rest : List ℕ) → begins_gap first ≡ false → Right (first ∷ rest) (lexeme_at (first ∷ rest))
unfolding lexeme_at
lexeme_right first rest no_gap =
    cond_both (eqb first 37) (name_at kinds.Local rest) _ (Right (first ∷ rest))
    (λ e. subst (λ (b : ℕ). Right (b ∷ rest) (name_at kinds.Local rest)) (sym (eqb-true first 37 e)) (name_right 37 kinds.Local rest refl (inr (inl refl)) (λ body after name w some. (name, (body, refl, w, some)))))
    (λ not_local.
    cond_both (eqb first 64) (name_at kinds.Global rest) _ (Right (first ∷ rest))
    (λ e. subst (λ (b : ℕ). Right (b ∷ rest) (name_at kinds.Global rest)) (sym (eqb-true first 64 e)) (name_right 64 kinds.Global rest refl (inr (inr refl)) (λ body after name w some. (name, (body, refl, w, some)))))
    (λ not_global.
    cond_both (eqb first 34) (string_at rest) _ (Right (first ∷ rest))
    (λ e. subst (λ (b : ℕ). Right (b ∷ rest) (string_at rest)) (sym (eqb-true first 34 e)) (string_right rest))
    (λ no_string.
    cond_both (eqb first 33) (lexeme kinds.Meta (prefix_len is_run_byte rest + 1)) _ (Right (first ∷ rest))
    (λ e. subst (λ (b : ℕ). Right (b ∷ rest) (lexeme kinds.Meta (prefix_len is_run_byte rest + 1))) (sym (eqb-true first 33 e)) (meta_right rest))
    (λ no_meta.
    cond_both (eqb first 35) (bare_name kinds.Hash rest) _ (Right (first ∷ rest))
    (λ e. subst (λ (b : ℕ). Right (b ∷ rest) (bare_name kinds.Hash rest)) (sym (eqb-true first 35 e)) (bare_right 35 kinds.Hash rest (λ text after run. (text, refl, run)) (no_hash rest)))
    (λ not_hash.
    cond_both (is_run_byte first) (run_at (first ∷ rest)) _ (Right (first ∷ rest))
    (λ e. run_right (first ∷ rest) e)
    (λ not_run.
    cond_both (is_mark first) (lexeme kinds.Mark 1) bad_byte (Right (first ∷ rest))
    (λ e. record { text = first ∷ []; after = rest; parts = refl; len_is = refl; some = omega arith; form = (first, refl, e) })
    (λ not_mark. nothing_there (first ∷ rest) (other_byte first rest (not_from_false _ (or_from _ _ (or_from _ _ (or_from _ _ (or_from _ _ (or_from _ _ (or_from _ _ no_gap not_run) not_mark) (or_from _ _ not_local not_global)) no_string) no_meta) not_hash))))))))))
