use Rattle.std.proofs.Common.{◌≡◌, ◌+◌, ◌<◌, ◌≤◌, ◌^◌, length, length-append, sym, ap, subst, ◌∙◌, arith}
use Rattle.mix_system.specs.System.{System}
use Rattle.ir_pieces.specs.Pieces.{IsAt, ranges, layout}
use Rattle.ir_pieces.proofs.PieceLaws.{bounded}
use Rattle.piece_rows.proofs.laid.lay_into.Goals as goal

pub declare-requires-clause-at : goal.declare-requires-clause-at
declare-requires-clause-at c = subst (IsAt c.args.piece.now) (sym c.requires.vars) c.requires.at

pub declare-requires-clause-room : goal.declare-requires-clause-room
declare-requires-clause-room c = omega (arith, c.requires.vars, (bounded c.args.piece.now 8 c.requires.at).vars)

pub lay-requires-clause-at : goal.lay-requires-clause-at
lay-requires-clause-at c = subst (IsAt c.args.piece.now) (sym (c.in_ok-first.ensures.number ∙ c.requires.vars)) c.requires.at

pub lay-requires-clause-known : goal.lay-requires-clause-known
lay-requires-clause-known c =
    let known : c.in_ok-first.first + length (ranges c.args.piece.now) ≤ length c.declare.new.into.ranges =
    omega (arith, c.in_ok-first.ensures.number, ap {A = System} (λ s. length s.ranges) c.in_ok-first.ensures.ok, length-append c.args.into.now.ranges (ranges c.args.piece.now)) in
    known

pub lay-requires-clause-few_vars : goal.lay-requires-clause-few_vars
lay-requires-clause-few_vars c =
    let few : length c.declare.new.into.ranges < 2 ^ 31 =
    omega (
      arith,
      c.requires.vars,
      (bounded c.args.piece.now 8 c.requires.at).vars,
      ap {A = System} (λ s. length s.ranges) c.in_ok-first.ensures.ok,
      length-append c.args.into.now.ranges (ranges c.args.piece.now),
    ) in
    few

pub lay-requires-clause-rows : goal.lay-requires-clause-rows
lay-requires-clause-rows c =
    let at = subst (IsAt c.args.piece.now) (sym (c.in_ok-first.ensures.number ∙ c.requires.vars)) c.requires.at in
    let few : length c.declare.new.into.rows + length (layout c.args.piece.now c.in_ok-first.first).rows < 2 ^ 31 =
    omega (arith, c.requires.edges, (bounded c.args.piece.now c.in_ok-first.first at).rows, ap {A = System} (λ s. length s.rows) c.in_ok-first.ensures.ok, ap length c.requires.rows) in
    few

pub lay-requires-clause-clauses : goal.lay-requires-clause-clauses
lay-requires-clause-clauses c =
    let at = subst (IsAt c.args.piece.now) (sym (c.in_ok-first.ensures.number ∙ c.requires.vars)) c.requires.at in
    let few : length c.declare.new.into.clauses + length (layout c.args.piece.now c.in_ok-first.first).clauses < 2 ^ 31 =
    omega (arith, c.requires.edges, (bounded c.args.piece.now c.in_ok-first.first at).clauses, ap {A = System} (λ s. length s.clauses) c.in_ok-first.ensures.ok, ap length c.requires.clauses) in
    few
