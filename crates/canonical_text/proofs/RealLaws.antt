-- A token of a text that holds a name holds one byte at least.
use Rattle.std.proofs.Common.{◌≡◌, ◌<◌, ◌≤◌, ◌^◌, ℕ, zero, suc, true, leb, List, [], ◌∷◌, ◌++◌, refl, sym, ap, ◌∙◌, subst, inl, inr, arith}
use Rattle.std.specs.Prelude.{if◌then◌else◌}
use Rattle.std.specs.List.{list_all}
use Rattle.std.specs.Char.{is_ascii_digit}
use Rattle.std.specs.Fmt.{decimal}
use Rattle.std.proofs.lemmas.Bool.{leb-true}
use Rattle.ll_token.specs.declared.token.TokenKind.{TokenKind}
use Rattle.ll_token.specs.declared.token.TokenKind.TheVariants as kinds
use Rattle.ll_token.specs.Names.{IsPiece, StandsFor, Writes}
use Rattle.ll_token.specs.Lexemes.{HoldsName, IsToken, has_name}
use Rattle.ll_tree.specs.Pieces.{Piece}
use Rattle.ll_grammar.specs.Tokens.{Tok, name_in, held_name}
use Rattle.ll_grammar.specs.Spells.{Is, IsNameOf, IsLiteral, AreWords, AreMetadata, ArePassed}
use Rattle.ll_grammar.proofs.NameLaws.{holds-name_in}
use Rattle.ll_grammar.proofs.TokenLaws.{both_true}
use Rattle.canonical_text.specs.Named.{AreBytes, IsName, AreNamed, IsReal, AreReal}
use Rattle.canonical_text.proofs.DecimalLaws.{decimal_writes}

-- ---- bytes

front_bytes : (front rest : List ℕ) → AreBytes (front ++ rest) → AreBytes front × AreBytes rest
front_bytes [] rest bytes = (tt, bytes)
front_bytes (b ∷ front) rest (one, bytes) = let p = front_bytes front rest bytes in ((one, p.0), p.1)

piece_byte : (piece : List ℕ) (byte : ℕ) → IsPiece piece byte → AreBytes piece → byte < 256
piece_byte piece byte (inl (e, plain)) bytes = (subst AreBytes e bytes).0
piece_byte piece byte (inr (inl (e, is))) bytes = omega (arith, is)
piece_byte piece byte (inr (inr (high, low, e, few_high, few_low, is))) bytes = omega (arith, few_high, few_low, is)

name_bytes : (inner name rest : List ℕ) → StandsFor inner name rest → AreBytes inner → AreBytes name
name_bytes inner [] rest stands bytes = tt
name_bytes inner (byte ∷ name) rest (piece, after, e, is, stands) bytes =
    let p = front_bytes piece after (subst AreBytes e bytes) in
    (piece_byte piece byte is p.0, name_bytes after name rest stands p.1)

written_bytes : (body after name : List ℕ) → Writes body after name → AreBytes body → AreBytes name
written_bytes body after name (inl (run, e)) bytes = subst AreBytes (sym e) bytes
written_bytes body after name (inr q) bytes =
    let inside : AreBytes (q.inner ++ 34 ∷ []) = (subst AreBytes q.quotes bytes).1 in
    name_bytes q.inner name [] q.escapes (front_bytes q.inner (34 ∷ []) inside).0

-- ---- names of tokens

-- the kinds of the names in a function
abbrev pub IsNameKind : TokenKind → Type 0
IsNameKind kinds.Local = Unit {0}
IsNameKind kinds.Global = Unit {0}
IsNameKind kinds.Label = Unit {0}
IsNameKind kinds.Number = ⊥
IsNameKind kinds.Word = ⊥
IsNameKind kinds.String = ⊥
IsNameKind kinds.Meta = ⊥
IsNameKind kinds.Hash = ⊥
IsNameKind kinds.Mark = ⊥

holds_name : (kind : TokenKind) (text after name : List ℕ) → IsNameKind kind → HoldsName kind text after name → AreBytes text → IsName name
holds_name kinds.Local text after name named (body, e, writes, some) bytes = (some, written_bytes body after name writes (subst AreBytes e bytes).1)
holds_name kinds.Global text after name named (body, e, writes, some) bytes = (some, written_bytes body after name writes (subst AreBytes e bytes).1)
holds_name kinds.Label text after name named (body, e, writes, some) bytes = (some, written_bytes body (58 ∷ after) name writes (front_bytes body (58 ∷ []) (subst AreBytes e bytes)).0)
holds_name kinds.Number text after name named holds bytes = absurd named
holds_name kinds.Word text after name named holds bytes = absurd named
holds_name kinds.String text after name named holds bytes = absurd named
holds_name kinds.Meta text after name named holds bytes = absurd named
holds_name kinds.Hash text after name named holds bytes = absurd named
holds_name kinds.Mark text after name named holds bytes = absurd named

some_name : (kind : TokenKind) (text after : List ℕ) → IsNameKind kind → IsToken kind text after → (name : List ℕ) × HoldsName kind text after name
some_name kinds.Local text after named is = is
some_name kinds.Global text after named is = is
some_name kinds.Label text after named is = is
some_name kinds.Number text after named is = absurd named
some_name kinds.Word text after named is = absurd named
some_name kinds.String text after named is = absurd named
some_name kinds.Meta text after named is = absurd named
some_name kinds.Hash text after named is = absurd named
some_name kinds.Mark text after named is = absurd named

kind_named : (kind : TokenKind) → IsNameKind kind → has_name kind ≡ true
kind_named kinds.Local named = refl
kind_named kinds.Global named = refl
kind_named kinds.Label named = refl
kind_named kinds.Number named = absurd named
kind_named kinds.Word named = absurd named
kind_named kinds.String named = absurd named
kind_named kinds.Meta named = absurd named
kind_named kinds.Hash named = absurd named
kind_named kinds.Mark named = absurd named

held_is_name : (kind : TokenKind) (text after : List ℕ) → IsNameKind kind → IsToken kind text after → AreBytes text → IsName (held_name kind text)
unfolding held_name
held_is_name kind text after named is bytes =
    let (name, holds) = some_name kind text after named is in
    let same : name ≡ held_name kind text = holds-name_in kind text after name holds ∙ sym (ap (λ b. if b then name_in kind text else []) (kind_named kind named)) in
    subst IsName same (holds_name kind text after name named holds bytes)

-- a token that holds a name, and those behind it
pub name_real : (kind : TokenKind) (name : List ℕ) (ts rest : List Tok) → IsNameKind kind → IsNameOf kind name ts rest → AreReal ts → IsName name × AreReal rest
name_real kind name ts rest named (t, e, k, is) real =
    let r : IsReal t × AreReal rest = subst AreReal e real in
    let at_kind : IsNameKind t.kind = subst IsNameKind (sym k) named in
    (subst IsName is (held_is_name t.kind t.text r.0.1.0 at_kind r.0.1.1 r.0.0), r.1)

-- ---- what stands behind

pub one_real : (kind : TokenKind) (text : List ℕ) (ts rest : List Tok) → Is kind text ts rest → AreReal ts → AreReal rest
one_real kind text ts rest (t, e, k, is) real = let r : IsReal t × AreReal rest = subst AreReal e real in r.1

pub literal_real : (w n : ℕ) (ts rest : List Tok) → IsLiteral w n ts rest → AreReal ts → AreReal rest
literal_real w n ts rest (t, e, writes) real = let r : IsReal t × AreReal rest = subst AreReal e real in r.1

pub words_real : (words : List (List ℕ)) (ts rest : List Tok) → AreWords words ts rest → AreReal ts → AreReal rest
words_real [] ts rest e real = subst AreReal e real
words_real (word ∷ words) ts rest (a, is, more) real = words_real words a rest more (one_real kinds.Word word ts a is real)

pub behind_real : (front rest : List Tok) → AreReal (front ++ rest) → AreReal rest
behind_real [] rest real = real
behind_real (t ∷ front) rest (is, real) = behind_real front rest real

pub metadata_real : (n : ℕ) (ts rest : List Tok) → AreMetadata n ts rest → AreReal ts → AreReal rest
metadata_real zero ts rest e real = subst AreReal e real
metadata_real (suc more) ts rest (c, m, n, a, e, ck, cx, mk, nk, others) real = metadata_real more a rest others (behind_real (c ∷ m ∷ n ∷ []) a (subst AreReal e real))

pub passed_real : (n : ℕ) (ts rest : List Tok) → ArePassed n ts rest → AreReal ts → AreReal rest
passed_real zero ts rest e real = subst AreReal e real
passed_real (suc more) ts rest (t, others, a, e, debug, same, leaves, lines) real = passed_real more a rest lines (behind_real (t ∷ others) a (subst AreReal e real))

-- ---- decimal names

digits_bytes : (digits : List ℕ) → list_all is_ascii_digit digits ≡ true → AreBytes digits
digits_bytes [] all = tt
digits_bytes (d ∷ digits) all =
    let p = both_true (is_ascii_digit d) (list_all is_ascii_digit digits) all in
    let few : d ≤ 57 = leb-true d 57 (both_true (leb 48 d) (leb d 57) p.0).1 in
    (omega (arith, few), digits_bytes digits p.1)

pub decimal_name : (n : ℕ) → n < 2 ^ 64 → IsName (decimal n)
decimal_name n fits = let w = decimal_writes n fits in (w.some, digits_bytes (decimal n) w.all)

-- ---- pieces in a row

pub named_both : (front behind : List Piece) → AreNamed front → AreNamed behind → AreNamed (front ++ behind)
named_both [] behind one other = other
named_both (piece ∷ front) behind (is, one) other = (is, named_both front behind one other)
