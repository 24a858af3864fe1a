-- The laws of each kind of piece, as those of a piece of any kind.
use Rattle.std.proofs.Common.{◌≡◌, ℕ, ◌+◌, ◌≤◌, true, ℤ, List, length, refl}
use Rattle.wrap_rows.specs.Layout.{Holds}
use Rattle.wrap_rows.specs.Vars.{value_at}
use Rattle.wrap_rows.specs.Piece.{put_from, AreIn, names_own_rows}
use Rattle.wrap_rows.proofs.ZextLaws as zext
use Rattle.wrap_rows.proofs.SextLaws as sext
use Rattle.wrap_rows.proofs.TruncLaws as trunc
use Rattle.wrap_rows.proofs.SelectLaws as select
use Rattle.wrap_rows.proofs.RangedLaws as ranged
use Rattle.wrap_rows.proofs.SumPieceLaws as sum
use Rattle.wrap_rows.proofs.ScaledLaws as scaled
use Rattle.wrap_rows.proofs.ShiftOutLaws as shift_out
use Rattle.wrap_rows.proofs.ShiftRightLaws as shift_right
use Rattle.wrap_rows.proofs.CompareLaws as compare
use Rattle.wrap_rows.proofs.PhiLaws as phi
use Rattle.bit_rows.proofs.BitwiseLaws as bitwise
use Rattle.bit_rows.proofs.LayingLaws as laying
use Rattle.div_rows.proofs.UnsignedDivisionLaws as unsigned_division
use Rattle.div_rows.proofs.SignedDivisionLaws as signed_division
use Rattle.div_rows.proofs.AbsLaws as abs
use Rattle.div_rows.proofs.ExtremeLaws as extreme
use Rattle.ir_pieces.specs.declared.piece.IrPiece.{IrPiece}
use Rattle.ir_pieces.specs.declared.piece.IrPiece.TheVariants as kind
use Rattle.ir_pieces.specs.Pieces.{IsAt, ranges, layout, vars, CanFill, CanSay, numbers, meaning}
use Rattle.ir_pieces.specs.Bounded.{IsBounded, edges_of}
use Rattle.ir_pieces.proofs.WrapBounds as wraps
use Rattle.ir_pieces.proofs.OtherBounds as others
use Rattle.ir_pieces.proofs.NumberLaws as counts

-- where its variables lie in their ranges and its layout holds, number and mark are its meaning
pub sound : (piece : IrPiece) (first : ℕ) (point : List ℤ) → IsAt piece first → CanSay piece point → AreIn first (ranges piece) point → Holds (layout piece first) point → value_at (vars piece first) point ≡ meaning piece point
sound (kind.Zext piece) first point at says within holds = zext.sound piece first point at says within holds
sound (kind.Sext piece) first point at says within holds = sext.sound piece first point at says within holds
sound (kind.Trunc piece) first point at says within holds = trunc.sound piece first point at says within holds
sound (kind.Select piece) first point at says within holds = select.sound piece first point at says within holds
sound (kind.Ranged piece) first point at says within holds = ranged.sound piece first point at says within holds
sound (kind.Sum piece) first point at says within holds = sum.sound piece first point at says within holds
sound (kind.Scaled piece) first point at says within holds = scaled.sound piece first point at says within holds
sound (kind.ShiftOut piece) first point at says within holds = shift_out.sound piece first point at within holds
sound (kind.ShiftRight piece) first point at says within holds = shift_right.sound piece first point at says within holds
sound (kind.Compare piece) first point at says within holds = compare.sound piece first point at says within holds
sound (kind.Phi piece) first point at says within holds = phi.sound piece first point at says within holds
sound (kind.Bitwise piece) first point at says within holds = bitwise.sound piece first point at says within holds
sound (kind.UnsignedDivision piece) first point at says within holds = unsigned_division.sound piece first point at says within holds
sound (kind.SignedDivision piece) first point at says within holds = signed_division.sound piece first point at says within holds
sound (kind.Abs piece) first point at says within holds = abs.sound piece first point at says within holds
sound (kind.Extreme piece) first point at says within holds = extreme.sound piece first point at says within holds

-- with its numbers put in, its variables lie in their ranges and its layout holds
pub complete : (piece : IrPiece) (first : ℕ) (point : List ℤ) → IsAt piece first → CanFill piece point → first + length (ranges piece) ≤ length point → AreIn first (ranges piece) (put_from first (numbers piece point) point) × Holds (layout piece first) (put_from first (numbers piece point) point)
complete (kind.Zext piece) first point at takes within = zext.complete piece first point at takes within
complete (kind.Sext piece) first point at takes within = sext.complete piece first point at takes within
complete (kind.Trunc piece) first point at takes within = trunc.complete piece first point at takes within
complete (kind.Select piece) first point at takes within = select.complete piece first point at takes within
complete (kind.Ranged piece) first point at takes within = ranged.complete piece first point at takes within
complete (kind.Sum piece) first point at takes within = sum.complete piece first point at takes within
complete (kind.Scaled piece) first point at takes within = scaled.complete piece first point at takes within
complete (kind.ShiftOut piece) first point at takes within = shift_out.complete piece first point within
complete (kind.ShiftRight piece) first point at takes within = shift_right.complete piece first point at takes within
complete (kind.Compare piece) first point at takes within = compare.complete piece first point at takes within
complete (kind.Phi piece) first point at takes within = phi.complete piece first point at takes within
complete (kind.Bitwise piece) first point at takes within = bitwise.complete piece first point at takes within
complete (kind.UnsignedDivision piece) first point at takes within = unsigned_division.complete piece first point at takes within
complete (kind.SignedDivision piece) first point at takes within = signed_division.complete piece first point at takes within
complete (kind.Abs piece) first point at takes within = abs.complete piece first point at takes within
complete (kind.Extreme piece) first point at takes within = extreme.complete piece first point at takes within

-- its clauses name its own rows alone
pub own_rows : (piece : IrPiece) (first : ℕ) → names_own_rows (layout piece first) ≡ true
own_rows (kind.Zext piece) first = zext.own_rows piece first
own_rows (kind.Sext piece) first = sext.own_rows piece first
own_rows (kind.Trunc piece) first = trunc.own_rows piece first
own_rows (kind.Select piece) first = select.own_rows piece first
own_rows (kind.Ranged piece) first = ranged.own_rows piece first
own_rows (kind.Sum piece) first = sum.own_rows piece first
own_rows (kind.Scaled piece) first = scaled.own_rows piece first
own_rows (kind.ShiftOut piece) first = refl
own_rows (kind.ShiftRight piece) first = shift_right.own_rows piece first
own_rows (kind.Compare piece) first = compare.own_rows piece first
own_rows (kind.Phi piece) first = phi.own_rows piece first
own_rows (kind.Bitwise piece) first = laying.own_rows piece first
own_rows (kind.UnsignedDivision piece) first = unsigned_division.own_rows piece first
own_rows (kind.SignedDivision piece) first = signed_division.own_rows piece first
own_rows (kind.Abs piece) first = abs.own_rows piece first
own_rows (kind.Extreme piece) first = extreme.own_rows piece first

-- it names only variables before its end, and is bounded
pub bounded : (piece : IrPiece) (first : ℕ) → IsAt piece first → IsBounded first (edges_of piece) (ranges piece) (layout piece first)
bounded (kind.Zext piece) first at = wraps.zext-bounded piece first at
bounded (kind.Sext piece) first at = wraps.sext-bounded piece first at
bounded (kind.Trunc piece) first at = wraps.trunc-bounded piece first at
bounded (kind.Select piece) first at = wraps.select-bounded piece first at
bounded (kind.Ranged piece) first at = wraps.ranged-bounded piece first at
bounded (kind.Sum piece) first at = wraps.sum-bounded piece first at
bounded (kind.Scaled piece) first at = wraps.scaled-bounded piece first at
bounded (kind.ShiftOut piece) first at = wraps.shift_out-bounded piece first
bounded (kind.ShiftRight piece) first at = wraps.shift_right-bounded piece first at
bounded (kind.Compare piece) first at = wraps.compare-bounded piece first at
bounded (kind.Phi piece) first at = wraps.phi-bounded piece first at
bounded (kind.Bitwise piece) first at = others.bitwise-bounded piece first at
bounded (kind.UnsignedDivision piece) first at = others.unsigned_division-bounded piece first at
bounded (kind.SignedDivision piece) first at = others.signed_division-bounded piece first at
bounded (kind.Abs piece) first at = others.abs-bounded piece first at
bounded (kind.Extreme piece) first at = others.extreme-bounded piece first at

-- it has a number for each variable
pub numbers_fit : (piece : IrPiece) (point : List ℤ) → length (numbers piece point) ≡ length (ranges piece)
numbers_fit (kind.Zext piece) point = counts.zext-count piece point
numbers_fit (kind.Sext piece) point = counts.sext-count piece point
numbers_fit (kind.Trunc piece) point = counts.trunc-count piece point
numbers_fit (kind.Select piece) point = counts.select-count piece point
numbers_fit (kind.Ranged piece) point = counts.ranged-count piece point
numbers_fit (kind.Sum piece) point = counts.sum-count piece point
numbers_fit (kind.Scaled piece) point = counts.scaled-count piece point
numbers_fit (kind.ShiftOut piece) point = counts.shift_out-count piece point
numbers_fit (kind.ShiftRight piece) point = counts.shift_right-count piece point
numbers_fit (kind.Compare piece) point = counts.compare-count piece point
numbers_fit (kind.Phi piece) point = counts.phi-count piece point
numbers_fit (kind.Bitwise piece) point = counts.bitwise-count piece point
numbers_fit (kind.UnsignedDivision piece) point = counts.unsigned_division-count piece point
numbers_fit (kind.SignedDivision piece) point = counts.signed_division-count piece point
numbers_fit (kind.Abs piece) point = counts.abs-count piece point
numbers_fit (kind.Extreme piece) point = counts.extreme-count piece point
