-- Which variables of operands a piece reads.
use Rattle.std.specs.Prelude.{ℕ, List}
use Rattle.std.specs.List.{AllByRecursion}
use Rattle.wrap_rows.specs.declared.vars.ValueVars.{ValueVars}
use Rattle.wrap_rows.specs.declared.phi.Incoming.{Incoming}
use Rattle.ir_pieces.specs.declared.piece.IrPiece.{IrPiece}
use Rattle.ir_pieces.specs.declared.piece.IrPiece.TheVariants as kind
use Rattle.ir_pieces.specs.declared.list.Placed.{Placed}

-- number and mark
abbrev pub Both : (ℕ → Type 0) → ValueVars → Type 0
Both Is vars = Is vars.number × Is vars.mark

-- an edge with its operand
abbrev pub ReadsEdge : (ℕ → Type 0) → Incoming → Type 0
ReadsEdge Is incoming = Is incoming.edge × Both Is incoming.value

-- The variables of a piece's operands are such. Of a factor, an amount and a divisor it reads the mark alone; bit by bit the numbers 0 and 1 are read too.
abbrev pub Reads : (ℕ → Type 0) → IrPiece → Type 0
Reads Is (kind.Zext piece) = Both Is piece.a
Reads Is (kind.Sext piece) = Both Is piece.a
Reads Is (kind.Trunc piece) = Both Is piece.a
Reads Is (kind.Select piece) = Both Is piece.cond × Both Is piece.yes × Both Is piece.no
Reads Is (kind.Ranged piece) = Is piece.number
Reads Is (kind.Sum piece) = Both Is piece.a × Both Is piece.b
Reads Is (kind.Scaled piece) = Both Is piece.a × Is piece.constant_mark
Reads Is (kind.ShiftOut piece) = Unit {0}
Reads Is (kind.ShiftRight piece) = Both Is piece.a × Is piece.amount_mark
Reads Is (kind.Compare piece) = Both Is piece.a × Both Is piece.b
Reads Is (kind.Phi piece) = AllByRecursion (ReadsEdge Is) piece.incoming.items
Reads Is (kind.Bitwise piece) = (Is 0 × Is 1) × Both Is piece.a.vars × Both Is piece.b.vars
Reads Is (kind.UnsignedDivision piece) = Both Is piece.a × Is piece.divisor_mark
Reads Is (kind.SignedDivision piece) = Both Is piece.a × Is piece.divisor_mark
Reads Is (kind.Abs piece) = Both Is piece.a
Reads Is (kind.Extreme piece) = Both Is piece.a × Both Is piece.b

-- of all pieces
abbrev pub AllRead : (ℕ → Type 0) → List Placed → Type 0
AllRead Is placed = AllByRecursion (λ it. Reads Is it.piece) placed
