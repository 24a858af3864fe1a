use Rattle.std.proofs.Common.{sym, subst}
use Rattle.std.specs.Prelude.{OnOk}
use Rattle.wrap_rows.specs.Piece.{Lays}
use Rattle.ir_pieces.specs.Pieces.{layout}
use Rattle.ir_pieces.proofs.piece.IrPiecePiece.lay.Goals as goal

pub returns-in-Extreme-clause-ok : goal.returns-in-Extreme-clause-ok
returns-in-Extreme-clause-ok c =
    subst (λ piece. OnOk c.lay-in-Extreme.result (Lays (layout piece c.args.first) c.args.into.now c.lay-in-Extreme.new.into)) (sym c.in-Extreme.is) c.lay-in-Extreme.ensures.ok
