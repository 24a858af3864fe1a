-- What a token is, and where none is, by the bytes from its first one on.
use Rattle.std.specs.Prelude.{◌≡◌, ◌⊎◌, ℕ, ◌+◌, ◌<◌, Bool, true, false, IsTrue, ◌==◌, ◌||◌, List, [], ◌∷◌, ◌++◌, length}
use Rattle.std.specs.List.{list_all}
use Rattle.ll_token.specs.declared.token.TokenKind.{TokenKind}
use Rattle.ll_token.specs.declared.token.TokenKind.TheVariants.{Local, Global, Label, Number, Word, String, Meta, Hash, Mark}
use Rattle.ll_token.specs.declared.token.FaultKind.{FaultKind}
use Rattle.ll_token.specs.declared.token.FaultKind.TheVariants.{BadByte, OpenString, BadEscape}
use Rattle.ll_token.specs.Bytes.{is_run_byte, is_mark, is_sigil, is_inner, is_other, begins, is_number}
use Rattle.ll_token.specs.Names.{IsBadEscape, IsRun, IsQuoted, Writes}

-- the kinds of token that hold a name
abbrev pub has_name : TokenKind → Bool
has_name Local = true
has_name Global = true
has_name Label = true
has_name String = true
has_name Number = false
has_name Word = false
has_name Meta = false
has_name Hash = false
has_name Mark = false

-- The text of a token of this kind, before these bytes, holds the name. 37 is `%`, 64 `@`, 58 `:`.
abbrev pub HoldsName : TokenKind → (text after name : List ℕ) → Type 0
HoldsName Local text after name = (body : List ℕ) × (text ≡ 37 ∷ body) × Writes body after name × (0 < length name)
HoldsName Global text after name = (body : List ℕ) × (text ≡ 64 ∷ body) × Writes body after name × (0 < length name)
HoldsName Label text after name = (body : List ℕ) × (text ≡ body ++ 58 ∷ []) × Writes body (58 ∷ after) name × (0 < length name)
HoldsName String text after name = IsQuoted text name × (begins (λ byte. byte == 58) after ≡ false)
HoldsName Number text after name = ⊥
HoldsName Word text after name = ⊥
HoldsName Meta text after name = ⊥
HoldsName Hash text after name = ⊥
HoldsName Mark text after name = ⊥

-- A run that no `:` follows.
abbrev pub IsPlainRun : (text after : List ℕ) → Type 0
IsPlainRun text after = IsRun text after × (begins (λ byte. byte == 58) after ≡ false)

-- The text is a token of this kind, as long as it can be before the bytes after it.
abbrev pub IsToken : TokenKind → (text after : List ℕ) → Type 0
IsToken Local text after = (name : List ℕ) × HoldsName Local text after name
IsToken Global text after = (name : List ℕ) × HoldsName Global text after name
IsToken Label text after = (name : List ℕ) × HoldsName Label text after name
IsToken String text after = (name : List ℕ) × HoldsName String text after name
IsToken Number text after = IsPlainRun text after × (is_number text ≡ true)
IsToken Word text after = IsPlainRun text after × (is_number text ≡ false)
IsToken Meta text after = (run : List ℕ) × (text ≡ 33 ∷ run) × IsTrue (list_all is_run_byte run) × (begins is_run_byte after ≡ false)
IsToken Hash text after = (run : List ℕ) × (text ≡ 35 ∷ run) × IsRun run after
IsToken Mark text after = (byte : ℕ) × (text ≡ byte ∷ []) × IsTrue (is_mark byte)

-- No token begins with these bytes, and no string either that has a fault of its own: a byte of no token, a `%` or `@`
-- without a name, a `#` without a run, an empty quoted name, an empty quoted label.
pub data BeginsNoToken : List ℕ → Type 0 where
  other_byte : (byte : ℕ) (rest : List ℕ) → IsTrue (is_other byte) → BeginsNoToken (byte ∷ rest)
  no_name : (byte : ℕ) (rest : List ℕ) → IsTrue (is_sigil byte) → begins (λ next. is_run_byte next || next == 34) rest ≡ false → BeginsNoToken (byte ∷ rest)
  no_hash : (rest : List ℕ) → begins is_run_byte rest ≡ false → BeginsNoToken (35 ∷ rest)
  empty_name : (byte : ℕ) (rest : List ℕ) → IsTrue (is_sigil byte) → BeginsNoToken (byte ∷ 34 ∷ 34 ∷ rest)
  empty_label : (rest : List ℕ) → BeginsNoToken (34 ∷ 34 ∷ 58 ∷ rest)

-- what stands before the inside of a string: its quote, behind a `%` or `@` where it is a name
abbrev pub IsLead : List ℕ → Type 0
IsLead lead = (lead ≡ 34 ∷ []) ⊎ ((lead ≡ 37 ∷ 34 ∷ []) ⊎ (lead ≡ 64 ∷ 34 ∷ []))

-- A string that has no end in its line, whatever it holds.
pub record IsOpenString (bytes : List ℕ) : Type 0 where
  pub lead : List ℕ
  pub inner : List ℕ
  pub after : List ℕ
  pub parts : bytes ≡ lead ++ (inner ++ after)
  pub begins_string : IsLead lead
  pub in_line : IsTrue (list_all is_inner inner)
  pub line_end : begins (λ byte. is_inner byte || byte == 34) after ≡ false

-- A string that has an end, with a backslash that begins no escape at this place.
pub record IsStringWithBadEscape (bytes : List ℕ) (place : ℕ) : Type 0 where
  pub lead : List ℕ
  pub inner : List ℕ
  pub after : List ℕ
  pub parts : bytes ≡ lead ++ (inner ++ 34 ∷ after)
  pub begins_string : IsLead lead
  pub in_line : IsTrue (list_all is_inner inner)
  pub within : ℕ
  pub bad : IsBadEscape inner within
  pub here : place ≡ length lead + within

-- These bytes begin with a fault, at this place among them.
abbrev pub IsFlaw : FaultKind → (bytes : List ℕ) → ℕ → Type 0
IsFlaw BadByte bytes place = BeginsNoToken bytes × (place ≡ 0)
IsFlaw OpenString bytes place = IsOpenString bytes × (place ≡ 0)
IsFlaw BadEscape bytes place = IsStringWithBadEscape bytes place
