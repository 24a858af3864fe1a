-- What spells a token is read as it.
use Rattle.std.proofs.Common.{◌≡◌, ℕ, Bool, true, false, ◌&&◌, eqb, List, [], ◌∷◌, ◌++◌, drop, Option, Some, None, refl, sym, ap, ◌∙◌, eq-eqb}
use Rattle.std.specs.Prelude.{codes, if◌then◌else◌}
use Rattle.std.specs.Option.{option_map_or}
use Rattle.std.specs.Str.{bytes_eq}
use Rattle.std.specs.Fmt.{decimal}
use Rattle.ll_token.specs.declared.token.TokenKind.{TokenKind}
use Rattle.ll_token.specs.declared.token.TokenKind.TheVariants as kinds
use Rattle.ll_grammar.specs.declared.stop.Place.{Place}
use Rattle.ll_grammar.specs.Tokens.{Tok, is_kind, word_at, mark_at, kind_at, name_at}
use Rattle.ll_grammar.specs.Words.{width_of, has_width}
use Rattle.ll_grammar.specs.Reading.{Read, Done, ◌>>=◌, take_if, take_some, mark, keyword, name, metadatum, width, one_width, literal_at, literal}
use Rattle.ll_grammar.specs.Spells.{IsWord, IsMark, IsNameOf, IsType, IsLiteral}
use Rattle.ll_grammar.proofs.TokenLaws.{bytes_same, same_bytes, kind_same, width_of_reads, literal_of_reads, none_is}

-- ---- readings put together

pub then_reads : {A B : Type 0} {x : A} {ts : List Tok} {y : Read B} (r : Read A) (f : A → List Tok → Read B) → r ≡ Done x ts → f x ts ≡ y → (r >>= f) ≡ y
then_reads r f e more = ap (λ r. r >>= f) e ∙ more

pub if_reads : {A : Type 0} {y : A} (b : Bool) (r s : A) → b ≡ true → r ≡ y → (if b then r else s) ≡ y
if_reads b r s is e = ap (λ b. if b then r else s) is ∙ e

pub else_reads : {A : Type 0} {y : A} (b : Bool) (r s : A) → b ≡ false → s ≡ y → (if b then r else s) ≡ y
else_reads b r s other e = ap (λ b. if b then r else s) other ∙ e

pub take_if_reads : {A : Type 0} {t : Tok} (b : Bool) (x : A) (at : Place) (ts rest : List Tok) → ts ≡ t ∷ rest → b ≡ true → take_if b x at ts ≡ Done x rest
take_if_reads b x at ts rest e is = ap (λ b. take_if b x at ts) is ∙ ap (λ (l : List Tok). Done x (drop 1 l)) e

pub take_some_reads : {A : Type 0} {t : Tok} {x : A} (o : Option A) (at : Place) (ts rest : List Tok) → ts ≡ t ∷ rest → o ≡ Some x → take_some o at ts ≡ Done x rest
take_some_reads {A} {t} {x} o at ts rest e is = ap (λ o. take_some o at ts) is ∙ ap (λ (l : List Tok). Done x (drop 1 l)) e

-- ---- tests of the next token

module _ (ts rest : List Tok) where
  pub behind_first : (t : Tok) → ts ≡ t ∷ rest → drop 1 ts ≡ rest
  behind_first t e = ap (λ (l : List Tok). drop 1 l) e

  -- the word of a token of this kind
  pub at_token : (t : Tok) → ts ≡ t ∷ rest → (kind : TokenKind) → t.kind ≡ kind → word_at ts ≡ (if is_kind kind kinds.Word then t.text else [])
  unfolding word_at
  at_token t e kind k = ap word_at e ∙ ap (λ k. if is_kind k kinds.Word then t.text else []) k

  pub at_word : (word : List ℕ) → IsWord word ts rest → word_at ts ≡ word
  at_word word (t, e, k, is) = at_token t e kinds.Word k ∙ is

  pub at_kind : (t : Tok) → ts ≡ t ∷ rest → (kind : TokenKind) → t.kind ≡ kind → (asked : TokenKind) → kind_at asked ts ≡ is_kind kind asked
  unfolding kind_at
  at_kind t e kind k asked = ap (kind_at asked) e ∙ ap (λ k. is_kind k asked) k

  pub at_mark : (t : Tok) → ts ≡ t ∷ rest → (kind : TokenKind) → t.kind ≡ kind → (byte : ℕ) → mark_at byte ts ≡ (is_kind kind kinds.Mark && bytes_eq t.text (byte ∷ []))
  unfolding mark_at
  at_mark t e kind k byte = ap (mark_at byte) e ∙ ap (λ k. is_kind k kinds.Mark && bytes_eq t.text (byte ∷ [])) k

  pub at_name : (kind : TokenKind) (name : List ℕ) → IsNameOf kind name ts rest → name_at ts ≡ name
  unfolding name_at
  at_name kind name (t, e, k, is) = ap name_at e ∙ is

  pub mark_there : (byte : ℕ) → IsMark byte ts rest → mark_at byte ts ≡ true
  mark_there byte (t, e, k, is) = at_mark t e kinds.Mark k byte ∙ bytes_same _ _ is

  pub other_mark : (byte other : ℕ) → eqb byte other ≡ false → IsMark byte ts rest → mark_at other ts ≡ false
  other_mark byte other apart (t, e, k, is) = at_mark t e kinds.Mark k other ∙ ap (λ (x : List ℕ). bytes_eq x (other ∷ [])) is ∙ ap (λ b. b && true) apart

  pub kind_there : (kind : TokenKind) (name : List ℕ) → IsNameOf kind name ts rest → kind_at kind ts ≡ true
  kind_there kind name (t, e, k, is) = at_kind t e kind k kind ∙ kind_same kind

  -- a type is no word that isn't one
  pub type_word : (w : ℕ) → IsType w ts rest → word_at ts ≡ codes "i" ++ decimal w
  type_word w t = at_word _ t.0

  pub type_reads : (w : ℕ) → IsType w ts rest → width_of (word_at ts) ≡ Some w
  type_reads w t = ap width_of (type_word w t) ∙ width_of_reads w t.1 t.2

  pub type_apart : (w : ℕ) (word : List ℕ) → IsType w ts rest → width_of word ≡ None → bytes_eq (word_at ts) word ≡ false
  type_apart w word t none = go (bytes_eq (word_at ts) word) refl
    where
      go : (b : Bool) → bytes_eq (word_at ts) word ≡ b → bytes_eq (word_at ts) word ≡ false
      go false e = e
      go true e = none_is (sym none ∙ ap width_of (sym (same_bytes _ _ e)) ∙ type_reads w t)

  -- ---- single tokens

  pub mark_reads : (byte : ℕ) → IsMark byte ts rest → mark byte ts ≡ Done (tt {0}) rest
  unfolding mark
  mark_reads byte is = take_if_reads _ _ _ ts rest is.1 (mark_there byte is)

  pub keyword_reads : (word : List ℕ) → IsWord word ts rest → keyword word ts ≡ Done (tt {0}) rest
  unfolding keyword
  keyword_reads word is = take_if_reads _ _ _ ts rest is.1 (bytes_same _ _ (at_word word is))

  pub name_reads : (kind : TokenKind) (at : Place) (n : List ℕ) → IsNameOf kind n ts rest → name kind at ts ≡ Done n rest
  unfolding name
  name_reads kind at n is = take_if_reads _ _ _ ts rest is.1 (kind_there kind n is) ∙ ap (λ (n : List ℕ). Done n rest) (at_name kind n is)

  pub metadatum_reads : (t : Tok) → ts ≡ t ∷ rest → t.kind ≡ kinds.Meta → metadatum ts ≡ Done (tt {0}) rest
  unfolding metadatum
  metadatum_reads t e k = take_if_reads _ _ _ ts rest e (at_kind t e kinds.Meta k kinds.Meta)

  pub width_reads : (w : ℕ) → IsType w ts rest → width ts ≡ Done w rest
  unfolding width
  width_reads w t = take_some_reads _ _ ts rest t.0.1 (type_reads w t)

  pub has_width_reads : (w : ℕ) → IsType w ts rest → has_width w (word_at ts) ≡ true
  has_width_reads w t = ap (λ o. option_map_or (λ v. eqb v w) o false) (type_reads w t) ∙ eq-eqb w w refl

  pub one_width_reads : (w : ℕ) → IsType w ts rest → one_width w ts ≡ Done (tt {0}) rest
  unfolding one_width
  one_width_reads w t = take_if_reads _ _ _ ts rest t.0.1 (has_width_reads w t)

  pub literal_at_reads : (w n : ℕ) → IsLiteral w n ts rest → literal_at w ts ≡ Some n
  unfolding literal_at
  literal_at_reads w n (t, e, writes) = ap (literal_at w) e ∙ literal_of_reads w n t.kind t.text writes

  pub literal_reads : (w n : ℕ) → IsLiteral w n ts rest → literal w ts ≡ Done n rest
  unfolding literal
  literal_reads w n is = take_some_reads _ _ ts rest is.1 (literal_at_reads w n is)
