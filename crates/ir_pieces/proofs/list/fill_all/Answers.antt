use Rattle.std.proofs.Common.{◌≡◌, ◌+◌, length, drop, sym, ap, ◌∙◌, subst}
use Rattle.std.proofs.lemmas.List.{drop_all}
use Rattle.wrap_rows.specs.Piece.{put_from}
use Rattle.ir_pieces.specs.Pieces.{numbers}
use Rattle.ir_pieces.proofs.SameLaws.{put-length}
use Rattle.ir_pieces.proofs.FillLaws.{IsFilled, find_all, filled-none}
use Rattle.ir_pieces.proofs.TurnLaws.{head, known_now, places_next, able_next, filled_now}
use Rattle.ir_pieces.proofs.list.fill_all.Goals as goal

pub loop-it-init : goal.loop-it-init
loop-it-init c = record {
  places = c.requires.placed;
  able = find_all c.args.placed.now c.args.point.now c.requires.placed c.requires.operands;
  whole = λ new filled. filled;
}

pub fill-requires-clause-known : goal.fill-requires-clause-known
fill-requires-clause-known c =
    let is = head c.args.placed.now c.loop-it.it-index c.it-item.result c.loop-it-test.true c.it-item.is in
    known_now (drop c.loop-it.it-index c.args.placed.now) (drop (c.loop-it.it-index + 1) c.args.placed.now) c.it-item.result is (length c.loop-it.point) c.loop-it.invariant.places

pub loop-it-preserved : goal.loop-it-preserved
loop-it-preserved c =
    let it = c.it-item.result in
    let point = c.loop-it.point in
    let next = c.fill.new.point in
    let left = drop c.loop-it.it-index c.args.placed.now in
    let rest = drop (c.loop-it.it-index + 1) c.args.placed.now in
    let is = head c.args.placed.now c.loop-it.it-index it c.loop-it-test.true c.it-item.is in
    let kept : next ≡ put_from it.first (numbers it.piece point) point = c.fill.ensures.kept in
    let same : length point ≡ length next = sym (ap length kept ∙ put-length it.first (numbers it.piece point) point) in
    record {
      places = places_next left rest it is (length point) (length next) same c.loop-it.invariant.places;
      able = able_next left rest it is point next kept c.loop-it.invariant.able;
      whole =
          λ new filled.
          c.loop-it.invariant.whole new
          (filled_now left rest it is (length point) point next new kept c.loop-it.invariant.places c.fill.ensures.in_ranges c.fill.ensures.complete filled);
    }

pub returns : goal.returns
returns c =
    let done = drop_all c.loop-it.it-index c.args.placed.now c.loop-it-test.false in
    let all = c.loop-it.invariant.whole c.loop-it.point (subst (λ left. IsFilled left c.loop-it.point c.loop-it.point) (sym done) (filled-none c.loop-it.point)) in
    record { outside = all.outside; in_ranges = all.in_ranges; complete = all.complete }
