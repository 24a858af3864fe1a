use Rattle.std.proofs.Common.{◌≡◌, ◌∷◌, ◌++◌, [], length, None, rules, arith}
use Rattle.bounded_simplex.specs.Reach.{AreReaches, IsReachOf}
use Rattle.bounded_simplex.proofs.KnownLaws.{nothing_known, reach_more}
use Rattle.bounded_simplex.proofs.reach.unknown_reaches.Goals as goal

pub loop-row-preserved : goal.loop-row-preserved
loop-row-preserved c =
    let reaches = c.loop-row.reaches.items in
    let added : c.push.new.self.items ≡ reaches ++ record { least = None; greatest = None } ∷ [] = search rules in
    record {
      count = search rules;
      each = reach_more c.args.system.now reaches c.push.new.self.items c.loop-row._row (record { least = None; greatest = None }) c.loop-row.invariant.count added (nothing_known c.args.system.now c.loop-row._row) c.loop-row.invariant.each;
    }
