use Rattle.std.proofs.Common.{◌+◌, ◌^◌, ◌<◌, length, subst, sym}
use Rattle.wrap_rows.specs.Piece.{Lays}
use Rattle.wrap_rows.specs.Trunc.{layout_of}
use Rattle.wrap_rows.proofs.RangedLaws.{on_ok}
use Rattle.wrap_rows.proofs.trunc.TruncPiece.lay.Goals as goal

pub lay_signed-requires-clause-clauses : goal.lay_signed-requires-clause-clauses
lay_signed-requires-clause-clauses c =
    subst (λ nsw. length c.args.into.now.clauses + length (layout_of c.args.self.now.flags.nuw nsw c.args.self.now c.args.first).clauses < 2 ^ 31) c.if-self.true c.requires.clauses

pub lay_plain-requires-clause-clauses : goal.lay_plain-requires-clause-clauses
lay_plain-requires-clause-clauses c =
    subst (λ nsw. length c.args.into.now.clauses + length (layout_of c.args.self.now.flags.nuw nsw c.args.self.now c.args.first).clauses < 2 ^ 31) c.if-self.false c.requires.clauses

pub returns-then-self-clause-ok : goal.returns-then-self-clause-ok
returns-then-self-clause-ok c =
    on_ok c.lay_signed.result
    (λ is. subst (λ nsw. Lays (layout_of c.args.self.now.flags.nuw nsw c.args.self.now c.args.first) c.args.into.now c.lay_signed.new.into) (sym c.if-self.true) is)
    c.lay_signed.ensures

pub returns-else-self-clause-ok : goal.returns-else-self-clause-ok
returns-else-self-clause-ok c =
    on_ok c.lay_plain.result
    (λ is. subst (λ nsw. Lays (layout_of c.args.self.now.flags.nuw nsw c.args.self.now c.args.first) c.args.into.now c.lay_plain.new.into) (sym c.if-self.false) is)
    c.lay_plain.ensures
