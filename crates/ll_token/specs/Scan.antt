-- A text and its tokens, or its first fault.
use Rattle.std.specs.Prelude.{◌≡◌, ◌⊎◌, ℕ, ◌+◌, ◌<◌, ◌≤◌, IsTrue, not, ◌==◌, List, [], ◌∷◌, ◌++◌, length, drop, slice_range, Option, Some, None, Result, Ok, Err}
use Rattle.std.specs.List.{list_all}
use Rattle.ll_token.specs.declared.token.Token.{Token}
use Rattle.ll_token.specs.declared.token.TokenFault.{TokenFault}
use Rattle.ll_token.specs.declared.token.TokenKind.TheVariants.{Local}
use Rattle.ll_token.specs.Bytes.{is_space, line_ends}
use Rattle.ll_token.specs.Lexemes.{HoldsName, IsToken, IsFlaw}

-- the inside of a comment: no byte of it ends the line
abbrev pub IsComment : List ℕ → Type 0
IsComment bytes = IsTrue (list_all (λ byte. not (byte == 10)) bytes)

-- What may stand before a token: white space, and comments from `;` (59) to their lines' ends.
pub data IsGap : List ℕ → Type 0 where
  nothing : IsGap []
  space : (byte : ℕ) (rest : List ℕ) → IsTrue (is_space byte) → IsGap rest → IsGap (byte ∷ rest)
  comment : (inside rest : List ℕ) → IsComment inside → IsGap rest → IsGap (59 ∷ (inside ++ 10 ∷ rest))

-- What may stand after the last token: the same, and a comment that the end of the text ends.
abbrev pub IsLastGap : List ℕ → Type 0
IsLastGap bytes = IsGap bytes ⊎ ((gap inside : List ℕ) × (bytes ≡ gap ++ 59 ∷ inside) × IsGap gap × IsComment inside)

-- The token is this text, between the bytes before it and those after it. Its line is that of its first byte.
pub record IsTokenAt (first_line : ℕ) (before text after : List ℕ) (token : Token) : Type 0 where
  pub start : token.start ≡ length before
  pub end : token.end ≡ length before + length text
  pub line : token.line ≡ first_line + line_ends before
  pub form : IsToken token.kind text after

-- The bytes behind `before` are a gap, the token, and the bytes `after` it; `read` is all up to the token's end.
pub record StartsWith (first_line : ℕ) (before bytes : List ℕ) (token : Token) (read after : List ℕ) : Type 0 where
  pub gap : List ℕ
  pub text : List ℕ
  pub whole : bytes ≡ gap ++ (text ++ after)
  pub blank : IsGap gap
  pub is_token : IsTokenAt first_line (before ++ gap) text after token
  pub up_to : read ≡ (before ++ gap) ++ text

-- The bytes behind `before` are these tokens, one after the other, and then `rest`; `read` is all before the rest.
abbrev pub Scans : (first_line : ℕ) (before bytes : List ℕ) (tokens : List Token) (read rest : List ℕ) → Type 0
Scans first_line before bytes [] read rest = (read ≡ before) × (rest ≡ bytes)
Scans first_line before bytes (token ∷ tokens) read rest = (end after : List ℕ) × StartsWith first_line before bytes token end after × Scans first_line end after tokens read rest

-- These are the tokens of the text.
abbrev pub AreTokens : (text : List ℕ) (first_line : ℕ) (tokens : List Token) → Type 0
AreTokens text first_line tokens = (read rest : List ℕ) × Scans first_line [] text tokens read rest × IsLastGap rest

-- The bytes behind `before` are a gap and then the fault, in what would be the next token.
pub record StopsAt (first_line : ℕ) (before bytes : List ℕ) (fault : TokenFault) : Type 0 where
  pub gap : List ℕ
  pub rest : List ℕ
  pub offset : ℕ
  pub whole : bytes ≡ gap ++ rest
  pub blank : IsGap gap
  pub flaw : IsFlaw fault.kind rest offset
  pub place : fault.place ≡ length (before ++ gap) + offset
  pub line : fault.line ≡ first_line + line_ends (before ++ gap)

-- This is the first fault of the text: all before it are tokens.
abbrev pub IsFirstFault : (text : List ℕ) (first_line : ℕ) (fault : TokenFault) → Type 0
IsFirstFault text first_line fault = (tokens : List Token) × (read rest : List ℕ) × Scans first_line [] text tokens read rest × StopsAt first_line read rest fault

-- what is read next behind `before`: a token, only a gap, or a fault
abbrev pub Follows : (first_line : ℕ) (before bytes : List ℕ) → Result (Option Token) TokenFault → Type 0
Follows first_line before bytes (Ok (Some token)) = (end after : List ℕ) × StartsWith first_line before bytes token end after
Follows first_line before bytes (Ok None) = IsLastGap bytes
Follows first_line before bytes (Err fault) = StopsAt first_line before bytes fault

-- the bytes of a token
abbrev pub text_of : (text : List ℕ) → Token → List ℕ
text_of text token = slice_range text token.start token.end

-- The token is one of this text, whatever its line: its bytes are of its kind, before those behind it.
pub record IsTokenOf (text : List ℕ) (token : Token) : Type 0 where
  pub ordered : token.start ≤ token.end
  pub within : token.end ≤ length text
  pub form : IsToken token.kind (text_of text token) (drop token.end text)

-- The bytes of the token hold this name.
abbrev pub GivesName : (text : List ℕ) (token : Token) (name : List ℕ) → Type 0
GivesName text token name = HoldsName token.kind (text_of text token) (drop token.end text) name

-- The whole text is one local name, and it names this.
abbrev pub IsLocalName : (text name : List ℕ) → Type 0
IsLocalName text name = HoldsName Local text [] name

-- The tokens' spans lie in this order between the two places, without a common byte; none is empty.
abbrev pub AreInOrder : (from to : ℕ) → List Token → Type 0
AreInOrder from to [] = from ≤ to
AreInOrder from to (token ∷ tokens) = (from ≤ token.start) × (token.start < token.end) × AreInOrder token.end to tokens
