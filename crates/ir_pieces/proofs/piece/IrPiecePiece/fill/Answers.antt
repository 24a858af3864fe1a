use Rattle.std.proofs.Common.{sym, subst}
use Rattle.wrap_rows.specs.Layout.{Holds}
use Rattle.ir_pieces.specs.Pieces.{layout}
use Rattle.ir_pieces.proofs.piece.IrPiecePiece.fill.Goals as goal

pub returns-in-Zext-clause-complete : goal.returns-in-Zext-clause-complete
returns-in-Zext-clause-complete c =
    subst (λ piece. Holds (layout piece c.args.first) c.fill.new.point) (sym c.in-Zext.is) c.fill.ensures.complete

pub returns-in-Sext-clause-complete : goal.returns-in-Sext-clause-complete
returns-in-Sext-clause-complete c =
    subst (λ piece. Holds (layout piece c.args.first) c.fill-in-Sext.new.point) (sym c.in-Sext.is) c.fill-in-Sext.ensures.complete

pub returns-in-Trunc-clause-complete : goal.returns-in-Trunc-clause-complete
returns-in-Trunc-clause-complete c =
    subst (λ piece. Holds (layout piece c.args.first) c.fill-in-Trunc.new.point) (sym c.in-Trunc.is) c.fill-in-Trunc.ensures.complete

pub returns-in-Select-clause-complete : goal.returns-in-Select-clause-complete
returns-in-Select-clause-complete c =
    subst (λ piece. Holds (layout piece c.args.first) c.fill-in-Select.new.point) (sym c.in-Select.is) c.fill-in-Select.ensures.complete

pub returns-in-Ranged-clause-complete : goal.returns-in-Ranged-clause-complete
returns-in-Ranged-clause-complete c =
    subst (λ piece. Holds (layout piece c.args.first) c.fill-in-Ranged.new.point) (sym c.in-Ranged.is) c.fill-in-Ranged.ensures.complete

pub returns-in-Sum-clause-complete : goal.returns-in-Sum-clause-complete
returns-in-Sum-clause-complete c =
    subst (λ piece. Holds (layout piece c.args.first) c.fill-in-Sum.new.point) (sym c.in-Sum.is) c.fill-in-Sum.ensures.complete

pub returns-in-Scaled-clause-complete : goal.returns-in-Scaled-clause-complete
returns-in-Scaled-clause-complete c =
    subst (λ piece. Holds (layout piece c.args.first) c.fill-in-Scaled.new.point) (sym c.in-Scaled.is) c.fill-in-Scaled.ensures.complete

pub returns-in-ShiftOut-clause-complete : goal.returns-in-ShiftOut-clause-complete
returns-in-ShiftOut-clause-complete c =
    subst (λ piece. Holds (layout piece c.args.first) c.fill-in-ShiftOut.new.point) (sym c.in-ShiftOut.is) c.fill-in-ShiftOut.ensures.complete

pub returns-in-ShiftRight-clause-complete : goal.returns-in-ShiftRight-clause-complete
returns-in-ShiftRight-clause-complete c =
    subst (λ piece. Holds (layout piece c.args.first) c.fill-in-ShiftRight.new.point) (sym c.in-ShiftRight.is) c.fill-in-ShiftRight.ensures.complete

pub returns-in-Compare-clause-complete : goal.returns-in-Compare-clause-complete
returns-in-Compare-clause-complete c =
    subst (λ piece. Holds (layout piece c.args.first) c.fill-in-Compare.new.point) (sym c.in-Compare.is) c.fill-in-Compare.ensures.complete

pub returns-in-Phi-clause-complete : goal.returns-in-Phi-clause-complete
returns-in-Phi-clause-complete c =
    subst (λ piece. Holds (layout piece c.args.first) c.fill-in-Phi.new.point) (sym c.in-Phi.is) c.fill-in-Phi.ensures.complete

pub returns-in-Bitwise-clause-complete : goal.returns-in-Bitwise-clause-complete
returns-in-Bitwise-clause-complete c =
    subst (λ piece. Holds (layout piece c.args.first) c.fill-in-Bitwise.new.point) (sym c.in-Bitwise.is) c.fill-in-Bitwise.ensures.complete

pub returns-in-UnsignedDivision-clause-complete : goal.returns-in-UnsignedDivision-clause-complete
returns-in-UnsignedDivision-clause-complete c =
    subst (λ piece. Holds (layout piece c.args.first) c.fill-in-UnsignedDivision.new.point) (sym c.in-UnsignedDivision.is) c.fill-in-UnsignedDivision.ensures.complete

pub returns-in-SignedDivision-clause-complete : goal.returns-in-SignedDivision-clause-complete
returns-in-SignedDivision-clause-complete c =
    subst (λ piece. Holds (layout piece c.args.first) c.fill-in-SignedDivision.new.point) (sym c.in-SignedDivision.is) c.fill-in-SignedDivision.ensures.complete

pub returns-in-Abs-clause-complete : goal.returns-in-Abs-clause-complete
returns-in-Abs-clause-complete c =
    subst (λ piece. Holds (layout piece c.args.first) c.fill-in-Abs.new.point) (sym c.in-Abs.is) c.fill-in-Abs.ensures.complete

pub returns-in-Extreme-clause-complete : goal.returns-in-Extreme-clause-complete
returns-in-Extreme-clause-complete c =
    subst (λ piece. Holds (layout piece c.args.first) c.fill-in-Extreme.new.point) (sym c.in-Extreme.is) c.fill-in-Extreme.ensures.complete
