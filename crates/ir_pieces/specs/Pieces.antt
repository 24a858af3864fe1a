-- A piece of any operation: what the trait says of each kind, by cases.
use Rattle.std.specs.Prelude.{ℕ, ℤ, List}
use Rattle.ir_meaning.specs.declared.value.Val.{Val}
use Rattle.wrap_rows.specs.declared.vars.ValueVars.{ValueVars}
use Rattle.wrap_rows.specs.Layout.{Layout}
use Rattle.wrap_rows.specs.Zext as zext
use Rattle.wrap_rows.specs.Sext as sext
use Rattle.wrap_rows.specs.Trunc as trunc
use Rattle.wrap_rows.specs.Select as select
use Rattle.wrap_rows.specs.Ranged as ranged
use Rattle.wrap_rows.specs.Sum as sum
use Rattle.wrap_rows.specs.Scaled as scaled
use Rattle.wrap_rows.specs.ShiftOut as shift_out
use Rattle.wrap_rows.specs.ShiftRight as shift_right
use Rattle.wrap_rows.specs.Compare as compare
use Rattle.wrap_rows.specs.Phi as phi
use Rattle.bit_rows.specs.Bitwise as bitwise
use Rattle.div_rows.specs.UnsignedDivision as unsigned_division
use Rattle.div_rows.specs.SignedDivision as signed_division
use Rattle.div_rows.specs.Abs as abs
use Rattle.div_rows.specs.Extreme as extreme
use Rattle.ir_pieces.specs.declared.piece.IrPiece.{IrPiece}
use Rattle.ir_pieces.specs.declared.piece.IrPiece.TheVariants as kind

-- the widths are right, and the variables of the operands stand before the piece's own
abbrev pub IsAt : IrPiece → ℕ → Type 0
IsAt (kind.Zext piece) first = zext.IsAt piece first
IsAt (kind.Sext piece) first = sext.IsAt piece first
IsAt (kind.Trunc piece) first = trunc.IsAt piece first
IsAt (kind.Select piece) first = select.IsAt piece first
IsAt (kind.Ranged piece) first = ranged.IsAt piece first
IsAt (kind.Sum piece) first = sum.IsAt piece first
IsAt (kind.Scaled piece) first = scaled.IsAt piece first
IsAt (kind.ShiftOut piece) first = shift_out.IsAt piece first
IsAt (kind.ShiftRight piece) first = shift_right.IsAt piece first
IsAt (kind.Compare piece) first = compare.IsAt piece first
IsAt (kind.Phi piece) first = phi.IsAt piece first
IsAt (kind.Bitwise piece) first = bitwise.IsAt piece first
IsAt (kind.UnsignedDivision piece) first = unsigned_division.IsAt piece first
IsAt (kind.SignedDivision piece) first = signed_division.IsAt piece first
IsAt (kind.Abs piece) first = abs.IsAt piece first
IsAt (kind.Extreme piece) first = extreme.IsAt piece first

-- the ranges of its own variables, in order
abbrev pub ranges : IrPiece → List (ℤ × ℤ)
ranges (kind.Zext piece) = zext.ranges piece
ranges (kind.Sext piece) = sext.ranges piece
ranges (kind.Trunc piece) = trunc.ranges piece
ranges (kind.Select piece) = select.ranges piece
ranges (kind.Ranged piece) = ranged.ranges piece
ranges (kind.Sum piece) = sum.ranges piece
ranges (kind.Scaled piece) = scaled.ranges piece
ranges (kind.ShiftOut piece) = shift_out.ranges piece
ranges (kind.ShiftRight piece) = shift_right.ranges piece
ranges (kind.Compare piece) = compare.ranges piece
ranges (kind.Phi piece) = phi.ranges piece
ranges (kind.Bitwise piece) = bitwise.ranges piece
ranges (kind.UnsignedDivision piece) = unsigned_division.ranges piece
ranges (kind.SignedDivision piece) = signed_division.ranges piece
ranges (kind.Abs piece) = abs.ranges piece
ranges (kind.Extreme piece) = extreme.ranges piece

-- its rows and clauses
abbrev pub layout : IrPiece → ℕ → Layout
layout (kind.Zext piece) first = zext.layout piece first
layout (kind.Sext piece) first = sext.layout piece first
layout (kind.Trunc piece) first = trunc.layout piece first
layout (kind.Select piece) first = select.layout piece first
layout (kind.Ranged piece) first = ranged.layout piece first
layout (kind.Sum piece) first = sum.layout piece first
layout (kind.Scaled piece) first = scaled.layout piece first
layout (kind.ShiftOut piece) first = shift_out.layout piece first
layout (kind.ShiftRight piece) first = shift_right.layout piece first
layout (kind.Compare piece) first = compare.layout piece first
layout (kind.Phi piece) first = phi.layout piece first
layout (kind.Bitwise piece) first = bitwise.layout piece first
layout (kind.UnsignedDivision piece) first = unsigned_division.layout piece first
layout (kind.SignedDivision piece) first = signed_division.layout piece first
layout (kind.Abs piece) first = abs.layout piece first
layout (kind.Extreme piece) first = extreme.layout piece first

-- where number and mark of its value stand
abbrev pub vars : IrPiece → ℕ → ValueVars
vars (kind.Zext piece) first = zext.vars piece first
vars (kind.Sext piece) first = sext.vars piece first
vars (kind.Trunc piece) first = trunc.vars piece first
vars (kind.Select piece) first = select.vars piece first
vars (kind.Ranged piece) first = ranged.vars piece first
vars (kind.Sum piece) first = sum.vars piece first
vars (kind.Scaled piece) first = scaled.vars piece first
vars (kind.ShiftOut piece) first = shift_out.vars piece first
vars (kind.ShiftRight piece) first = shift_right.vars piece first
vars (kind.Compare piece) first = compare.vars piece first
vars (kind.Phi piece) first = phi.vars piece first
vars (kind.Bitwise piece) first = bitwise.vars piece first
vars (kind.UnsignedDivision piece) first = unsigned_division.vars piece first
vars (kind.SignedDivision piece) first = signed_division.vars piece first
vars (kind.Abs piece) first = abs.vars piece first
vars (kind.Extreme piece) first = extreme.vars piece first

-- what is asked of the operands where it is filled in
abbrev pub CanFill : IrPiece → List ℤ → Type 0
CanFill (kind.Zext piece) point = zext.CanTake piece point
CanFill (kind.Sext piece) point = sext.CanTake piece point
CanFill (kind.Trunc piece) point = trunc.CanTake piece point
CanFill (kind.Select piece) point = select.CanTake piece point
CanFill (kind.Ranged piece) point = ranged.CanTake piece point
CanFill (kind.Sum piece) point = sum.CanTake piece point
CanFill (kind.Scaled piece) point = scaled.CanTake piece point
CanFill (kind.ShiftOut piece) point = shift_out.CanTake piece point
CanFill (kind.ShiftRight piece) point = shift_right.CanTake piece point
CanFill (kind.Compare piece) point = compare.CanTake piece point
CanFill (kind.Phi piece) point = phi.CanFill piece point
CanFill (kind.Bitwise piece) point = bitwise.CanTake piece point
CanFill (kind.UnsignedDivision piece) point = unsigned_division.CanTake piece point
CanFill (kind.SignedDivision piece) point = signed_division.CanTake piece point
CanFill (kind.Abs piece) point = abs.CanTake piece point
CanFill (kind.Extreme piece) point = extreme.CanTake piece point

-- what is asked of the operands where its value is read
abbrev pub CanSay : IrPiece → List ℤ → Type 0
CanSay (kind.Zext piece) point = zext.CanTake piece point
CanSay (kind.Sext piece) point = sext.CanTake piece point
CanSay (kind.Trunc piece) point = trunc.CanTake piece point
CanSay (kind.Select piece) point = select.CanTake piece point
CanSay (kind.Ranged piece) point = ranged.CanTake piece point
CanSay (kind.Sum piece) point = sum.CanTake piece point
CanSay (kind.Scaled piece) point = scaled.CanTake piece point
CanSay (kind.ShiftOut piece) point = shift_out.CanTake piece point
CanSay (kind.ShiftRight piece) point = shift_right.CanTake piece point
CanSay (kind.Compare piece) point = compare.CanTake piece point
CanSay (kind.Phi piece) point = phi.CanSay piece point
CanSay (kind.Bitwise piece) point = bitwise.CanTake piece point
CanSay (kind.UnsignedDivision piece) point = unsigned_division.CanTake piece point
CanSay (kind.SignedDivision piece) point = signed_division.CanTake piece point
CanSay (kind.Abs piece) point = abs.CanTake piece point
CanSay (kind.Extreme piece) point = extreme.CanTake piece point

-- the numbers of its own variables, in order
abbrev pub numbers : IrPiece → List ℤ → List ℤ
numbers (kind.Zext piece) point = zext.numbers piece point
numbers (kind.Sext piece) point = sext.numbers piece point
numbers (kind.Trunc piece) point = trunc.numbers piece point
numbers (kind.Select piece) point = select.numbers piece point
numbers (kind.Ranged piece) point = ranged.numbers piece point
numbers (kind.Sum piece) point = sum.numbers piece point
numbers (kind.Scaled piece) point = scaled.numbers piece point
numbers (kind.ShiftOut piece) point = shift_out.numbers piece point
numbers (kind.ShiftRight piece) point = shift_right.numbers piece point
numbers (kind.Compare piece) point = compare.numbers piece point
numbers (kind.Phi piece) point = phi.numbers piece point
numbers (kind.Bitwise piece) point = bitwise.numbers piece point
numbers (kind.UnsignedDivision piece) point = unsigned_division.numbers piece point
numbers (kind.SignedDivision piece) point = signed_division.numbers piece point
numbers (kind.Abs piece) point = abs.numbers piece point
numbers (kind.Extreme piece) point = extreme.numbers piece point

-- the value that the operation has on the values of its operands
abbrev pub meaning : IrPiece → List ℤ → Val
meaning (kind.Zext piece) point = zext.meaning piece point
meaning (kind.Sext piece) point = sext.meaning piece point
meaning (kind.Trunc piece) point = trunc.meaning piece point
meaning (kind.Select piece) point = select.meaning piece point
meaning (kind.Ranged piece) point = ranged.meaning piece point
meaning (kind.Sum piece) point = sum.meaning piece point
meaning (kind.Scaled piece) point = scaled.meaning piece point
meaning (kind.ShiftOut piece) point = shift_out.meaning piece point
meaning (kind.ShiftRight piece) point = shift_right.meaning piece point
meaning (kind.Compare piece) point = compare.meaning piece point
meaning (kind.Phi piece) point = phi.meaning piece point
meaning (kind.Bitwise piece) point = bitwise.meaning piece point
meaning (kind.UnsignedDivision piece) point = unsigned_division.meaning piece point
meaning (kind.SignedDivision piece) point = signed_division.meaning piece point
meaning (kind.Abs piece) point = abs.meaning piece point
meaning (kind.Extreme piece) point = extreme.meaning piece point
