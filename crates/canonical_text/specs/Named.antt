-- What holds of each name that a text writes: one byte at least, and bytes. And of the tokens of a text.
use Rattle.std.specs.Prelude.{◌<◌, ℕ, List, [], ◌∷◌, length}
use Rattle.ll_token.specs.Lexemes.{IsToken}
use Rattle.ll_grammar.specs.Tokens.{Tok}
use Rattle.ll_tree.specs.Pieces.{Piece, Word, Bits, Number, Local, Global, Label, Intrinsic, Mark, Blank, LineEnd}

abbrev pub AreBytes : List ℕ → Type 0
AreBytes [] = Unit {0}
AreBytes (byte ∷ bytes) = (byte < 256) × AreBytes bytes

abbrev pub IsName : List ℕ → Type 0
IsName name = (0 < length name) × AreBytes name

-- the name of a piece that has one
abbrev pub IsNamed : Piece → Type 0
IsNamed (Local name) = IsName name
IsNamed (Global name) = IsName name
IsNamed (Label name) = IsName name
IsNamed (Word word) = Unit {0}
IsNamed (Bits width) = Unit {0}
IsNamed (Number number) = Unit {0}
IsNamed (Intrinsic word width) = Unit {0}
IsNamed (Mark byte) = Unit {0}
IsNamed Blank = Unit {0}
IsNamed LineEnd = Unit {0}

abbrev pub AreNamed : List Piece → Type 0
AreNamed [] = Unit {0}
AreNamed (piece ∷ pieces) = IsNamed piece × AreNamed pieces

-- A token whose bytes are bytes, and of its kind before some others.
abbrev pub IsReal : Tok → Type 0
IsReal t = AreBytes t.text × ((after : List ℕ) × IsToken t.kind t.text after)

abbrev pub AreReal : List Tok → Type 0
AreReal [] = Unit {0}
AreReal (t ∷ ts) = IsReal t × AreReal ts
