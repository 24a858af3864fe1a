use Rattle.std.proofs.Common.{◌≡◌, ◌<◌, ◌⊎◌, length, get_or, None, ap, sym, subst, rules, arith}
use Rattle.mix_system.specs.System.{System}
use Rattle.bounded_simplex.specs.Reach.{AreReaches, IsReachOf, IsFree, HasRoom, HaveRoom}
use Rattle.bounded_simplex.specs.declared.reach.Reach.{Reach}
use Rattle.bounded_simplex.proofs.KnownLaws.{reaches_set, room_more}
use Rattle.bounded_simplex.proofs.reach.look_at_rows.Goals as goal

pub loop-row-preserved : goal.loop-row-preserved
loop-row-preserved c =
    let bounds = c.args.bounds.now in
    let reaches = c.loop-row.reaches.items in
    let row = c.loop-row.row in
    let within : row < length reaches = omega (arith, c.loop-row.invariant.reached.one_each, c.loop-row-test.true, c.columns.ensures.count, c.vars.ensures.count, ap (λ (s : System). length s.ranges) c.system.ensures) in
    let reach = c.in-Ok.reach in
    let reached : IsReachOf bounds.system row reach = search rules in
    let room : IsFree bounds row ⊎ HasRoom bounds row reach = search rules in
    record {
      reached = reaches_set bounds.system reaches row reach within reached c.loop-row.invariant.reached;
      room = room_more bounds reaches row reach within room c.loop-row.invariant.room;
    }
