use Rattle.open_levels.proofs.BoxLaws.{begins, over_opened}
use Rattle.open_levels.proofs.filling.begin.Goals as goal

pub put_goal-requires-clause-over : goal.put_goal-requires-clause-over
put_goal-requires-clause-over c = over_opened c.args.system.now c.args.bounds.now c.open.new.self c.in_ok-open.ensures c.requires.over

pub returns : goal.returns
returns c =
    begins c.args.cost c.args.goal c.args.bounds.now c.open.new.self c.put_goal.new.bounds c.in_ok-open.ensures c.requires.over.up_to c.in_ok-put_goal.ensures.adds
    c.in_ok-put_goal.ensures.stays
