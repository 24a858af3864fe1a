-- Which tokens the pieces of a text are. `Shows piece ts rest` says that the tokens `ts` are those of the piece and then
-- `rest`. A blank and a line end have none.
use Rattle.std.specs.Prelude.{◌≡◌, false, List, [], ◌∷◌, ◌++◌, codes}
use Rattle.std.specs.List.{flat_map}
use Rattle.std.specs.Fmt.{decimal}
use Rattle.ll_token.specs.declared.token.TokenKind.TheVariants as kinds
use Rattle.ll_tree.specs.declared.func.Func.{Func}
use Rattle.ll_tree.specs.Words.{type_word}
use Rattle.ll_tree.specs.Pieces.{Piece, Word, Bits, Number, Local, Global, Label, Intrinsic, Mark, Blank, LineEnd}
use Rattle.ll_tree.specs.Text.{header_pieces, block_pieces}
use Rattle.ll_grammar.specs.Tokens.{Tok, debug_at}
use Rattle.ll_grammar.specs.Spells.{Is, IsWord, IsMark, IsNameOf}

-- A word begins no line that is passed over.
abbrev pub Shows : Piece → (ts rest : List Tok) → Type 0
Shows (Word word) ts rest = IsWord word ts rest × (debug_at ts ≡ false)
Shows (Bits width) ts rest = IsWord (type_word width) ts rest
Shows (Number number) ts rest = Is kinds.Number (decimal number) ts rest
Shows (Local name) ts rest = IsNameOf kinds.Local name ts rest
Shows (Global name) ts rest = IsNameOf kinds.Global name ts rest
Shows (Label name) ts rest = IsNameOf kinds.Label name ts rest
Shows (Intrinsic word width) ts rest = IsNameOf kinds.Global (codes "llvm." ++ (word ++ (codes "." ++ type_word width))) ts rest
Shows (Mark byte) ts rest = IsMark byte ts rest
Shows Blank ts rest = ts ≡ rest
Shows LineEnd ts rest = ts ≡ rest

-- the tokens of pieces, one piece after another
abbrev pub ShowAll : List Piece → (ts rest : List Tok) → Type 0
ShowAll [] ts rest = ts ≡ rest
ShowAll (piece ∷ pieces) ts rest = (a : List Tok) × Shows piece ts a × ShowAll pieces a rest

-- the pieces of a function but for the brace that closes it
abbrev pub open_pieces : Func → List Piece
open_pieces func = header_pieces func ++ flat_map block_pieces func.blocks
