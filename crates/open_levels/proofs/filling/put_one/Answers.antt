use Rattle.open_levels.proofs.AddsLaws.{adds_one, over_later, on_ok, on_ok_always}
use Rattle.std.proofs.Common.{length}
use Rattle.open_levels.proofs.filling.put_one.Goals as goal

pub returns-clause-adds : goal.returns-clause-adds
returns-clause-adds c = on_ok c.put.result (λ tightens. adds_one c.args.bounds.now c.put.new.self c.args.lit tightens c.put.ensures.extends) c.put.ensures.both

pub returns-clause-over : goal.returns-clause-over
returns-clause-over c =
    on_ok_always c.put.result (over_later (length c.args.system.now.ranges) (length c.args.system.now.rows) c.args.bounds.now c.put.new.self c.requires.over c.put.ensures.extends)
