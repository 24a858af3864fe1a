use Rattle.std.proofs.Common.{subst}
use Rattle.wrap_rows.specs.Layout.{Holds}
use Rattle.ir_pieces.specs.Pieces.{layout}
use Rattle.ir_pieces.proofs.piece.IrPiecePiece.sound.Goals as goal

pub sound-requires-clause-holds : goal.sound-requires-clause-holds
sound-requires-clause-holds c =
    subst (λ piece. Holds (layout piece c.args.first) c.args.point.now) c.in-Zext.is c.requires.holds

pub sound-requires-in-Sext-clause-holds : goal.sound-requires-in-Sext-clause-holds
sound-requires-in-Sext-clause-holds c =
    subst (λ piece. Holds (layout piece c.args.first) c.args.point.now) c.in-Sext.is c.requires.holds

pub sound-requires-in-Trunc-clause-holds : goal.sound-requires-in-Trunc-clause-holds
sound-requires-in-Trunc-clause-holds c =
    subst (λ piece. Holds (layout piece c.args.first) c.args.point.now) c.in-Trunc.is c.requires.holds

pub sound-requires-in-Select-clause-holds : goal.sound-requires-in-Select-clause-holds
sound-requires-in-Select-clause-holds c =
    subst (λ piece. Holds (layout piece c.args.first) c.args.point.now) c.in-Select.is c.requires.holds

pub sound-requires-in-Ranged-clause-holds : goal.sound-requires-in-Ranged-clause-holds
sound-requires-in-Ranged-clause-holds c =
    subst (λ piece. Holds (layout piece c.args.first) c.args.point.now) c.in-Ranged.is c.requires.holds

pub sound-requires-in-Sum-clause-holds : goal.sound-requires-in-Sum-clause-holds
sound-requires-in-Sum-clause-holds c =
    subst (λ piece. Holds (layout piece c.args.first) c.args.point.now) c.in-Sum.is c.requires.holds

pub sound-requires-in-Scaled-clause-holds : goal.sound-requires-in-Scaled-clause-holds
sound-requires-in-Scaled-clause-holds c =
    subst (λ piece. Holds (layout piece c.args.first) c.args.point.now) c.in-Scaled.is c.requires.holds

pub sound-requires-in-ShiftOut-clause-holds : goal.sound-requires-in-ShiftOut-clause-holds
sound-requires-in-ShiftOut-clause-holds c =
    subst (λ piece. Holds (layout piece c.args.first) c.args.point.now) c.in-ShiftOut.is c.requires.holds

pub sound-requires-in-ShiftRight-clause-holds : goal.sound-requires-in-ShiftRight-clause-holds
sound-requires-in-ShiftRight-clause-holds c =
    subst (λ piece. Holds (layout piece c.args.first) c.args.point.now) c.in-ShiftRight.is c.requires.holds

pub sound-requires-in-Compare-clause-holds : goal.sound-requires-in-Compare-clause-holds
sound-requires-in-Compare-clause-holds c =
    subst (λ piece. Holds (layout piece c.args.first) c.args.point.now) c.in-Compare.is c.requires.holds

pub sound-requires-in-Phi-clause-holds : goal.sound-requires-in-Phi-clause-holds
sound-requires-in-Phi-clause-holds c =
    subst (λ piece. Holds (layout piece c.args.first) c.args.point.now) c.in-Phi.is c.requires.holds

pub sound-requires-in-Bitwise-clause-holds : goal.sound-requires-in-Bitwise-clause-holds
sound-requires-in-Bitwise-clause-holds c =
    subst (λ piece. Holds (layout piece c.args.first) c.args.point.now) c.in-Bitwise.is c.requires.holds

pub sound-requires-in-UnsignedDivision-clause-holds : goal.sound-requires-in-UnsignedDivision-clause-holds
sound-requires-in-UnsignedDivision-clause-holds c =
    subst (λ piece. Holds (layout piece c.args.first) c.args.point.now) c.in-UnsignedDivision.is c.requires.holds

pub sound-requires-in-SignedDivision-clause-holds : goal.sound-requires-in-SignedDivision-clause-holds
sound-requires-in-SignedDivision-clause-holds c =
    subst (λ piece. Holds (layout piece c.args.first) c.args.point.now) c.in-SignedDivision.is c.requires.holds

pub sound-requires-in-Abs-clause-holds : goal.sound-requires-in-Abs-clause-holds
sound-requires-in-Abs-clause-holds c =
    subst (λ piece. Holds (layout piece c.args.first) c.args.point.now) c.in-Abs.is c.requires.holds

pub sound-requires-in-Extreme-clause-holds : goal.sound-requires-in-Extreme-clause-holds
sound-requires-in-Extreme-clause-holds c =
    subst (λ piece. Holds (layout piece c.args.first) c.args.point.now) c.in-Extreme.is c.requires.holds
