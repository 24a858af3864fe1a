-- The name that a token holds.
use Rattle.std.proofs.Common.{◌≡◌, ℕ, suc, ◌+◌, ◌-◌, true, false, cond, eqb, List, [], ◌∷◌, ◌++◌, length, take, drop, Some, None, Result, Ok, Err, IfOk, refl, sym, ap, subst, ◌∙◌, arith, inl, inr, length-append}
use Rattle.std.specs.List.{prefix_len}
use Rattle.std.proofs.lemmas.List.{take_at, append-nil, nil_from_length}
use Rattle.std.proofs.lemmas.Bool.{false≢true, cond_both}
use Rattle.ll_token.specs.declared.token.TokenKind.{TokenKind}
use Rattle.ll_token.specs.declared.token.TokenKind.TheVariants as kinds
use Rattle.ll_token.specs.declared.token.Token.{Token}
use Rattle.ll_token.specs.declared.lexeme.Lexeme.{Lexeme}
use Rattle.ll_token.specs.declared.lexeme.Flaw.{Flaw}
use Rattle.ll_token.specs.Bytes.{begins, is_run_byte}
use Rattle.ll_token.specs.Names.{IsQuoted, Writes, StandsFor}
use Rattle.ll_token.specs.Lexemes.{has_name, HoldsName, IsToken}
use Rattle.ll_token.specs.Scan.{text_of, IsTokenOf, GivesName, IsLocalName}
use Rattle.ll_token.specs.Reading.{◌>>=◌, lexeme, bad_byte, inside_at, bare_name, quoted_name, name_at, body_of}
use Rattle.ll_token.proofs.ListLaws.{apart, front_byte}
use Rattle.ll_token.proofs.PieceLaws.{one_name}
use Rattle.ll_token.proofs.StringLaws.{begins_is}
use Rattle.ll_token.proofs.LexemeLaws.{IsLexeme, Right, name_right}
use Rattle.ll_token.proofs.AgainLaws.{name_again}

-- ---- a run or a string

quoted_body : (body after name : List ℕ) → Writes body after name → true ≡ begins (λ b. eqb b 34) body → IsQuoted body name
quoted_body body after name (inl w) quote =
    let run = w.0 in
    let bare : begins (λ b. eqb b 34) (body ++ []) ≡ false = front_byte is_run_byte (λ b. eqb b 34) body [] run.some run.each (λ b is_run. apart is_run_byte b 34 is_run refl) in
    absurd (false≢true (sym bare ∙ ap (begins (λ b. eqb b 34)) (append-nil body) ∙ sym quote))
quoted_body body after name (inr q) quote = q

bare_body : (body after name : List ℕ) → Writes body after name → false ≡ begins (λ b. eqb b 34) body → name ≡ body
bare_body body after name (inl w) bare = w.1
bare_body body after name (inr q) bare = absurd (false≢true (bare ∙ ap (begins (λ b. eqb b 34)) q.quotes))

-- between the quotes
inside_is : (body name : List ℕ) (q : IsQuoted body name) → take (length (drop 1 body) - 1) (drop 1 body) ≡ q.inner
inside_is body name q =
    let behind : drop 1 body ≡ q.inner ++ 34 ∷ [] = ap (drop 1) q.quotes in
    let len : length (q.inner ++ 34 ∷ []) - 1 ≡ length q.inner = omega (arith, length-append q.inner (34 ∷ [])) in
    ap (λ (x : List ℕ). take (length x - 1) x) behind ∙ ap (λ (n : ℕ). take n (q.inner ++ 34 ∷ [])) len ∙ take_at q.inner (34 ∷ []) (length q.inner) refl

module _ (body behind inner : List ℕ) (behind_is : behind ≡ drop 1 body) (inner_is : inner ≡ take (length behind - 1) behind) where
  inner_of : (name : List ℕ) (q : IsQuoted body name) → q.inner ≡ inner
  inner_of name q = sym (inner_is ∙ ap (λ (x : List ℕ). take (length x - 1) x) behind_is ∙ inside_is body name q)

  pub quoted_gives : {E : Type 0} (made : Result (List ℕ) E) → true ≡ begins (λ b. eqb b 34) body → IfOk made (λ name. StandsFor inner name []) → IfOk made (λ name. (after other : List ℕ) → Writes body after other → name ≡ other)
  quoted_gives (Ok name) quote stands = λ after other w.
      let q = quoted_body body after other w quote in
      (one_name inner name [] other [] stands refl (subst (λ (x : List ℕ). StandsFor x other []) (inner_of other q) q.escapes) refl).0
  quoted_gives (Err e) quote stands = tt

pub bare_gives : {E : Type 0} (body : List ℕ) (made : Result (List ℕ) E) → false ≡ begins (λ b. eqb b 34) body → IfOk made (λ name. name ≡ body) → IfOk made (λ name. (after other : List ℕ) → Writes body after other → name ≡ other)
bare_gives body (Ok name) bare is = λ after other w. is ∙ sym (bare_body body after other w bare)
bare_gives body (Err e) bare is = tt

-- ---- a token

-- a token with a name holds one
holds_some : (kind : TokenKind) (text after : List ℕ) → has_name kind ≡ true → IsToken kind text after → (name : List ℕ) × HoldsName kind text after name
holds_some kinds.Local text after named is = is
holds_some kinds.Global text after named is = is
holds_some kinds.Label text after named is = is
holds_some kinds.String text after named is = is
holds_some kinds.Number text after named is = absurd (false≢true named)
holds_some kinds.Word text after named is = absurd (false≢true named)
holds_some kinds.Meta text after named is = absurd (false≢true named)
holds_some kinds.Hash text after named is = absurd (false≢true named)
holds_some kinds.Mark text after named is = absurd (false≢true named)

-- its body writes it
body_writes : (kind : TokenKind) (text after name : List ℕ) → HoldsName kind text after name → (next : List ℕ) × Writes (body_of kind text) next name
body_writes kinds.Local text after name (body, e, w, some) = (after, subst (λ (x : List ℕ). Writes x after name) (sym (ap (drop 1) e)) w)
body_writes kinds.Global text after name (body, e, w, some) = (after, subst (λ (x : List ℕ). Writes x after name) (sym (ap (drop 1) e)) w)
body_writes kinds.Label text after name (body, e, w, some) =
    let len : length (body ++ 58 ∷ []) - 1 ≡ length body = omega (arith, length-append body (58 ∷ [])) in
    let front : take (length text - 1) text ≡ body = ap (λ (x : List ℕ). take (length x - 1) x) e ∙ ap (λ (n : ℕ). take n (body ++ 58 ∷ [])) len ∙ take_at body (58 ∷ []) (length body) refl in
    (58 ∷ after, subst (λ (x : List ℕ). Writes x (58 ∷ after) name) (sym front) w)
body_writes kinds.String text after name (q, plain) = (after, inr q)
body_writes kinds.Number text after name holds = absurd holds
body_writes kinds.Word text after name holds = absurd holds
body_writes kinds.Meta text after name holds = absurd holds
body_writes kinds.Hash text after name holds = absurd holds
body_writes kinds.Mark text after name holds = absurd holds

module _ (text : List ℕ) (token : Token) (bytes body : List ℕ) (bytes_is : bytes ≡ text_of text token) where
  -- the body of a token writes each name that the token holds
  written : body ≡ body_of token.kind bytes → (name : List ℕ) → GivesName text token name → (next : List ℕ) × Writes body next name
  written body_is name is =
      let w = body_writes token.kind (text_of text token) (drop token.end text) name is in
      (w.0, subst (λ (x : List ℕ). Writes x w.0 name) (sym (body_is ∙ ap (body_of token.kind) bytes_is)) w.1)

  pub body_gives : {E : Type 0} (made : Result (List ℕ) E) → has_name token.kind ≡ true → body ≡ body_of token.kind bytes → IsTokenOf text token → IfOk made (λ name. (after other : List ℕ) → Writes body after other → name ≡ other) → IfOk made (GivesName text token)
  body_gives (Ok name) named body_is is gives =
      let holds = holds_some token.kind (text_of text token) (drop token.end text) named is.form in
      let w = written body_is holds.0 holds.1 in
      subst (GivesName text token) (sym (gives w.0 holds.0 w.1)) holds.1
  body_gives (Err e) named body_is is gives = tt

  pub only_gives : {E : Type 0} (made : Result (List ℕ) E) → body ≡ body_of token.kind bytes → IfOk made (λ name. (after other : List ℕ) → Writes body after other → name ≡ other) → (name : List ℕ) → GivesName text token name → IfOk made (λ found. found ≡ name)
  only_gives (Ok found) body_is gives name is = let w = written body_is name is in gives w.0 name w.1
  only_gives (Err e) body_is gives name is = tt

-- ---- a text that is one local name

abbrev OfKind : TokenKind → Result Lexeme Flaw → Type 0
OfKind kind (Ok read) = read.kind ≡ kind
OfKind kind (Err flaw) = Unit {0}

name_of_kind : (kind : TokenKind) (bytes : List ℕ) → OfKind kind (name_at kind bytes)
unfolding name_at quoted_name bare_name
name_of_kind kind bytes =
    cond_both (begins (λ b. eqb b 34) bytes) (quoted_name kind (drop 1 bytes)) (bare_name kind bytes) (OfKind kind)
    (λ _. elim (inside_at 2 (drop 1 bytes)) as (λ (read : Result ℕ Flaw). OfKind kind (read >>= λ len. cond (eqb len 0) bad_byte (lexeme kind (len + 3)))) [
      | Ok len ↦ cond_both (eqb len 0) bad_byte (lexeme kind (len + 3)) (OfKind kind) (λ _. tt) (λ _. refl)
      | Err flaw ↦ tt
    ])
    (λ _. cond_both (eqb (prefix_len is_run_byte bytes) 0) bad_byte (lexeme kind (prefix_len is_run_byte bytes + 1)) (OfKind kind) (λ _. tt) (λ _. refl))

-- a name that takes all bytes
whole_local : (body : List ℕ) (read : Lexeme) → Ok read ≡ name_at kinds.Local body → read.len ≡ suc (length body) → (name : List ℕ) × IsLocalName (37 ∷ body) name
whole_local body read e len =
    let is : IsLexeme (37 ∷ body) read = subst (Right (37 ∷ body)) (sym e) (name_right 37 kinds.Local body refl (inr (inl refl)) (λ inside after name w some. (name, (inside, refl, w, some)))) in
    let kind : read.kind ≡ kinds.Local = subst (OfKind kinds.Local) (sym e) (name_of_kind kinds.Local body) in
    let len_is = is.len_is in
    let nothing : is.after ≡ [] = nil_from_length is.after (omega (arith, ap length is.parts, length-append is.text is.after)) in
    let all : 37 ∷ body ≡ is.text = is.parts ∙ ap (λ (x : List ℕ). is.text ++ x) nothing ∙ append-nil is.text in
    subst (λ (x : List ℕ). IsToken kinds.Local x []) (sym all) (subst (λ (x : List ℕ). IsToken kinds.Local is.text x) nothing (subst (λ (k : TokenKind). IsToken k is.text is.after) kind is.form))

module _ (text body : List ℕ) (body_is : body ≡ drop 1 text) (sigil : true ≡ begins (λ b. eqb b 37) text) where
  text_is : text ≡ 37 ∷ body
  text_is =
      let first = begins_is 37 text (sym sigil) in
      first.1 ∙ ap (λ (x : List ℕ). 37 ∷ x) (sym (body_is ∙ ap (drop 1) first.1))

  local_is : (read : Lexeme) → Ok read ≡ name_at kinds.Local body → read.len ≡ length text → (name : List ℕ) × IsLocalName text name
  local_is read e len =
      subst (λ (x : List ℕ). (name : List ℕ) × IsLocalName x name) (sym text_is) (whole_local body read e (omega (arith, len, ap length text_is)))

  pub body_is_name : (read : Lexeme) → Ok read ≡ name_at kinds.Local body → read.len ≡ length text → (after name : List ℕ) × Writes body after name
  body_is_name read e len =
      let is = local_is read e len in
      ([], is.0, subst (λ (x : List ℕ). Writes x [] is.0) (sym (body_is ∙ ap (drop 1) is.1.1)) is.1.2)

  pub is_named : (read : Lexeme) (name : List ℕ) → Ok read ≡ name_at kinds.Local body → read.len ≡ length text → ((after other : List ℕ) → Writes body after other → name ≡ other) → IsLocalName text name
  is_named read name e len gives =
      let is = local_is read e len in
      let w : Writes body [] is.0 = subst (λ (x : List ℕ). Writes x [] is.0) (sym (body_is ∙ ap (drop 1) is.1.1)) is.1.2 in
      subst (IsLocalName text) (sym (gives [] is.0 w)) is.1

  pub only_name : (name other : List ℕ) → ((after other : List ℕ) → Writes body after other → name ≡ other) → IsLocalName text other → name ≡ other
  only_name name other gives is = gives [] other (subst (λ (x : List ℕ). Writes x [] other) (sym (body_is ∙ ap (drop 1) is.1)) is.2)

  -- what is a local name is read as one
  pub read_again : (name : List ℕ) → IsLocalName text name → name_at kinds.Local body ≡ lexeme kinds.Local (length text)
  read_again name is =
      let inside : body ≡ is.0 = body_is ∙ ap (drop 1) is.1 in
      ap (name_at kinds.Local) (inside ∙ sym (append-nil is.0)) ∙ name_again kinds.Local is.0 [] name is.2 is.3 ∙ ap (λ (x : List ℕ). lexeme kinds.Local (length x)) (sym is.1)

  pub not_read : (flaw : Flaw) (name : List ℕ) → Err flaw ≡ name_at kinds.Local body → IsLocalName text name → None ≡ Some name
  not_read flaw name e is = let again = read_again name is in absurd cc

  pub not_whole : (read : Lexeme) (name : List ℕ) → Ok read ≡ name_at kinds.Local body → (read.len ≡ length text → ⊥) → IsLocalName text name → None ≡ Some name
  not_whole read name e differs is =
      let same : read ≡ record { kind = kinds.Local; len = length text } = let again = read_again name is in cc in
      absurd (differs (ap (λ (x : Lexeme). x.len) same))
