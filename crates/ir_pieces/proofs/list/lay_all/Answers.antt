use Rattle.std.proofs.Common.{◌+◌, ◌≤◌, length, drop, sym, ap, ◌∙◌, subst}
use Rattle.std.proofs.lemmas.List.{drop_all}
use Rattle.mix_system.specs.System.{System}
use Rattle.wrap_rows.specs.Piece.{Lays}
use Rattle.wrap_rows.proofs.CompactLaws.{compact-laid}
use Rattle.ir_pieces.specs.Pieces.{layout}
use Rattle.ir_pieces.specs.Lists.{end_of, joined}
use Rattle.ir_pieces.proofs.ListLaws.{lays-none}
use Rattle.ir_pieces.proofs.TurnLaws.{head, known_now, places_next, laid_now, rows_next, clauses_next}
use Rattle.ir_pieces.proofs.list.lay_all.Goals as goal

pub lay-requires-clause-known : goal.lay-requires-clause-known
lay-requires-clause-known c =
    let is = head c.args.placed.now c.loop-it.it-index c.it-item.result c.loop-it-test.true c.it-item.is in
    let known : end_of c.it-item.result ≤ length c.loop-it.into.ranges =
    known_now (drop c.loop-it.it-index c.args.placed.now) (drop (c.loop-it.it-index + 1) c.args.placed.now) c.it-item.result is (length c.loop-it.into.ranges) c.loop-it.invariant.places in
    known

pub loop-it-preserved : goal.loop-it-preserved
loop-it-preserved c =
    let it = c.it-item.result in
    let old = c.loop-it.into in
    let next = c.lay.new.into in
    let left = drop c.loop-it.it-index c.args.placed.now in
    let rest = drop (c.loop-it.it-index + 1) c.args.placed.now in
    let is = head c.args.placed.now c.loop-it.it-index it c.loop-it-test.true c.it-item.is in
    let lays : Lays (layout it.piece it.first) old next = c.in_ok-lay.ensures.ok in
    record {
      ranges = ap {A = System} (λ s. s.ranges) lays ∙ c.loop-it.invariant.ranges;
      places = places_next left rest it is (length old.ranges) (length next.ranges) (sym (ap {A = System} (λ s. length s.ranges) lays)) c.loop-it.invariant.places;
      rows = rows_next left rest it is old next lays c.loop-it.invariant.rows;
      clauses = clauses_next left rest it is old next lays c.loop-it.invariant.clauses;
      whole = λ new later. c.loop-it.invariant.whole new (laid_now left rest it is old next new lays later);
      compact = λ begun. compact-laid (layout it.piece it.first) old next (c.loop-it.invariant.compact begun) c.stays_calm.ensures.small lays;
    }

pub returns-clause-ok : goal.returns-clause-ok
returns-clause-ok c =
    let done = drop_all c.loop-it.it-index c.args.placed.now c.loop-it-test.false in
    c.loop-it.invariant.whole c.loop-it.into (subst (λ left. Lays (joined left) c.loop-it.into c.loop-it.into) (sym done) (lays-none c.loop-it.into))
