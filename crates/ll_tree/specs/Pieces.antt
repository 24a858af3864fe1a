-- The pieces of canonical text: tokens, blanks and line ends.
use Rattle.std.specs.Prelude.{ℕ, List, [], ◌∷◌, ◌++◌, codes}
use Rattle.std.specs.List.{flat_map}
use Rattle.std.specs.Fmt.{decimal}
use Rattle.ll_tree.specs.Naming.{name_text}
use Rattle.ll_tree.specs.Words.{type_word}

pub data Piece : Type 0 where
  Word : List ℕ → Piece
  -- a type, by its width
  Bits : ℕ → Piece
  Number : ℕ → Piece
  -- a name behind `%`, behind `@`, and before `:`
  Local : List ℕ → Piece
  Global : List ℕ → Piece
  Label : List ℕ → Piece
  -- the function `@llvm.WORD.TYPE`, by its word and the width of its type
  Intrinsic : List ℕ → ℕ → Piece
  -- a byte that is a token by itself
  Mark : ℕ → Piece
  Blank : Piece
  LineEnd : Piece

abbrev pub piece_text : Piece → List ℕ
piece_text (Word word) = word
piece_text (Bits width) = type_word width
piece_text (Number number) = decimal number
piece_text (Local name) = 37 ∷ name_text name
piece_text (Global name) = 64 ∷ name_text name
piece_text (Label name) = name_text name ++ 58 ∷ []
piece_text (Intrinsic word width) = codes "@llvm." ++ (word ++ (codes "." ++ type_word width))
piece_text (Mark byte) = byte ∷ []
piece_text Blank = 32 ∷ []
piece_text LineEnd = 10 ∷ []

-- the bytes of pieces, one after another
abbrev pub written : List Piece → List ℕ
written pieces = flat_map piece_text pieces

-- a comma and a blank
abbrev pub comma : List Piece
comma = Mark 44 ∷ Blank ∷ []

-- lists of pieces with a comma and a blank between each two
abbrev pub separated : {A : Type 0} → (A → List Piece) → List A → List Piece
separated pieces [] = []
separated pieces (item ∷ items) = pieces item ++ flat_map (λ next. Mark 44 ∷ Blank ∷ pieces next) items
