-- What the grammar sees of a token.
use Rattle.std.specs.Prelude.{◌≡◌, ℕ, zero, suc, ◌-◌, Bool, true, false, not, ◌&&◌, ◌||◌, ◌==◌, List, [], ◌∷◌, length, take, drop, codes, Option, Some, None, if◌then◌else◌}
use Rattle.std.specs.List.{prefix_len}
use Rattle.std.specs.Str.{bytes_eq}
use Rattle.ll_token.specs.declared.token.Token.{Token}
use Rattle.ll_token.specs.declared.token.TokenKind.{TokenKind}
use Rattle.ll_token.specs.declared.token.TokenKind.TheVariants as kinds
use Rattle.ll_token.specs.Bytes.{begins}
use Rattle.ll_token.specs.Lexemes.{has_name}
use Rattle.ll_token.specs.Reading.{piece_at, body_of}
use Rattle.ll_token.specs.Scan.{text_of}

-- A token: its kind, its bytes, its line, and whether its line is one that has no meaning where a statement may start.
pub record Tok : Type 0 where
  pub kind : TokenKind
  pub text : List ℕ
  pub line : ℕ
  pub debug : Bool

abbrev pub is_kind : TokenKind → TokenKind → Bool
is_kind kinds.Local kinds.Local = true
is_kind kinds.Global kinds.Global = true
is_kind kinds.Label kinds.Label = true
is_kind kinds.Number kinds.Number = true
is_kind kinds.Word kinds.Word = true
is_kind kinds.String kinds.String = true
is_kind kinds.Meta kinds.Meta = true
is_kind kinds.Hash kinds.Hash = true
is_kind kinds.Mark kinds.Mark = true
is_kind kind other = false

-- ---- names

-- the name that the bytes between two quotes stand for, over this many pieces at most
abbrev pub unescaped_behind : (List ℕ → List ℕ) → Option (ℕ × List ℕ) → List ℕ
unescaped_behind unescaped None = []
unescaped_behind unescaped (Some piece) = piece.0 ∷ unescaped piece.1

unfoldable pub unescaped_within : ℕ → List ℕ → List ℕ
unescaped_within zero bytes = []
unescaped_within (suc pieces) bytes = unescaped_behind (unescaped_within pieces) (piece_at bytes)

-- the name that a run or a string writes; 34 is `"`
unfoldable pub written : List ℕ → List ℕ
written body =
    if begins (λ byte. byte == 34) body
    then unescaped_within (length body) (take (length (drop 1 body) - 1) (drop 1 body))
    else body

-- the name of a `Local`, `Global`, `Label` or `String`
abbrev pub name_in : TokenKind → List ℕ → List ℕ
name_in kind text = written (body_of kind text)

-- the name of any token: no bytes where it holds none
unfoldable pub held_name : TokenKind → List ℕ → List ℕ
held_name kind text = if has_name kind then name_in kind text else []

-- ---- lines without a meaning

-- what these bytes begin with
unfoldable pub has_prefix : List ℕ → List ℕ → Bool
has_prefix prefix bytes = bytes_eq (take (length prefix) bytes) prefix

-- how many tokens at the front stand in this line
unfoldable pub line_len : ℕ → List Token → ℕ
line_len line tokens = prefix_len (λ t. t.line == line) tokens

-- whether the first global name is that of a debug function
unfoldable pub names_debug : List ℕ → List Token → Bool
names_debug text [] = false
names_debug text (t ∷ ts) =
    if is_kind t.kind kinds.Global then has_prefix (codes "llvm.dbg.") (held_name t.kind (text_of text t)) else names_debug text ts

abbrev pub is_word : List ℕ → List ℕ → Token → Bool
is_word word text t = is_kind t.kind kinds.Word && bytes_eq (text_of text t) word

-- the words that may stand before `call`
unfoldable pub is_before_call : List ℕ → Token → Bool
is_before_call text t = is_word (codes "tail") text t || (is_word (codes "musttail") text t || is_word (codes "notail") text t)

-- a `call`, or one of the words before it and a `call`
unfoldable pub begins_call : List ℕ → List Token → Bool
begins_call text [] = false
begins_call text (t ∷ []) = is_word (codes "call") text t
begins_call text (t ∷ next ∷ ts) = is_word (codes "call") text t || (is_before_call text t && is_word (codes "call") text next)

-- a debug record, by its first token
unfoldable pub is_record : List ℕ → List Token → Bool
is_record text [] = false
is_record text (t ∷ ts) = is_kind t.kind kinds.Hash && has_prefix (codes "#dbg_") (text_of text t)

-- These tokens of one line, from its first on, are a debug record or a call of a debug function.
unfoldable pub is_debug_line : List ℕ → List Token → Bool
is_debug_line text line = is_record text line || (begins_call text line && names_debug text line)

-- whether the tokens begin a line of the kind, behind one that stands in the line `before`
abbrev pub begins_debug_line : List ℕ → (before : ℕ) → Token → List Token → Bool
begins_debug_line text before t ts = not (t.line == before) && is_debug_line text (take (line_len t.line (t ∷ ts)) (t ∷ ts))

-- what the grammar sees of tokens behind one that stands in the line `before`
unfoldable pub seen : List ℕ → (before : ℕ) → List Token → List Tok
seen text before [] = []
seen text before (t ∷ ts) = record { kind = t.kind; text = text_of text t; line = t.line; debug = begins_debug_line text before t ts } ∷ seen text t.line ts

abbrev pub is_empty : {A : Type 0} → List A → Bool
is_empty [] = true
is_empty (x ∷ xs) = false

-- ---- the token that comes next

-- the word that comes next: no bytes where none does
unfoldable pub word_at : List Tok → List ℕ
word_at [] = []
word_at (t ∷ ts) = if is_kind t.kind kinds.Word then t.text else []

abbrev pub is_mark : ℕ → Tok → Bool
is_mark byte t = is_kind t.kind kinds.Mark && bytes_eq t.text (byte ∷ [])

unfoldable pub mark_at : ℕ → List Tok → Bool
mark_at byte [] = false
mark_at byte (t ∷ ts) = is_mark byte t

unfoldable pub kind_at : TokenKind → List Tok → Bool
kind_at kind [] = false
kind_at kind (t ∷ ts) = is_kind t.kind kind

-- Lines without a meaning begin with a Hash or a word.
abbrev pub starts_debug : TokenKind → Bool
starts_debug kind = is_kind kind kinds.Hash || is_kind kind kinds.Word

abbrev pub is_debug : Tok → Bool
is_debug t = starts_debug t.kind && t.debug

unfoldable pub debug_at : List Tok → Bool
debug_at [] = false
debug_at (t ∷ ts) = is_debug t

-- what stands behind the tokens of a line
unfoldable pub behind_line : ℕ → List Tok → List Tok
behind_line line [] = []
behind_line line (t ∷ ts) = if t.line == line then behind_line line ts else t ∷ ts

-- the name that the next token holds
unfoldable pub name_at : List Tok → List ℕ
name_at [] = []
name_at (t ∷ ts) = held_name t.kind t.text

-- the line of the next token
unfoldable pub line_at : List Tok → ℕ
line_at [] = 0
line_at (t ∷ ts) = t.line

-- whether the attributes of a call come next: a Hash that is no debug record
unfoldable pub group_at : List Tok → Bool
group_at [] = false
group_at (t ∷ ts) = is_kind t.kind kinds.Hash && not (has_prefix (codes "#dbg_") t.text)

-- the bytes of the next token
unfoldable pub text_at : List Tok → List ℕ
text_at [] = []
text_at (t ∷ ts) = t.text

-- each local name has a byte at least
abbrev pub AreNamed : List Tok → Type 0
AreNamed [] = Unit {0}
AreNamed (t ∷ ts) = (t.kind ≡ kinds.Local → held_name t.kind t.text ≡ [] → ⊥) × AreNamed ts
