-- What the tokens of pieces are, piece by piece.
use Rattle.std.proofs.Common.{List, [], ◌∷◌, ◌++◌, refl, sym, subst}
use Rattle.ll_tree.specs.Pieces.{Piece, Blank, LineEnd}
use Rattle.ll_grammar.specs.Tokens.{Tok}
use Rattle.canonical_text.specs.Shown.{Shows, ShowAll}

pub split : (front behind : List Piece) (ts rest : List Tok) → ShowAll (front ++ behind) ts rest → (a : List Tok) × ShowAll front ts a × ShowAll behind a rest
split [] behind ts rest s = (ts, refl, s)
split (piece ∷ front) behind ts rest (a, is, s) = let more = split front behind a rest s in (more.0, (a, is, more.1), more.2)

pub blank : (pieces : List Piece) (ts rest : List Tok) → ShowAll (Blank ∷ pieces) ts rest → ShowAll pieces ts rest
blank pieces ts rest (a, e, s) = subst (λ (l : List Tok). ShowAll pieces l rest) (sym e) s

pub line_end : (pieces : List Piece) (ts rest : List Tok) → ShowAll (LineEnd ∷ pieces) ts rest → ShowAll pieces ts rest
line_end pieces ts rest (a, e, s) = subst (λ (l : List Tok). ShowAll pieces l rest) (sym e) s

-- a piece with a blank behind it
pub spaced : (piece : Piece) (pieces : List Piece) (ts rest : List Tok) → ShowAll (piece ∷ Blank ∷ pieces) ts rest → (a : List Tok) × Shows piece ts a × ShowAll pieces a rest
spaced piece pieces ts rest (a, is, s) = (a, is, blank pieces a rest s)

-- the last piece
pub last : (piece : Piece) (ts rest : List Tok) → ShowAll (piece ∷ []) ts rest → Shows piece ts rest
last piece ts rest (a, is, e) = subst (λ (l : List Tok). Shows piece ts l) e is
