use Rattle.std.proofs.Common.{refl}
use Rattle.search_rows.proofs.RunLaws.{known_propagated}
use Rattle.search_rows.proofs.steps.spread.Goals as goal

pub returns : goal.returns
returns c =
    let run = c.args.run.now in
    let knows = c.standing_after-run.ensures c.propagate.new.self c.propagate.new.tally c.in_ok-spread.ensures.says in
    known_propagated run _ run.tally c.propagate.new.tally c.levels-levels.ensures.trail c.requires c.in_ok-spread.ensures.propagated refl refl knows
