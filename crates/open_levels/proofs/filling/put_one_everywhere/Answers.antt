use Rattle.std.proofs.Common.{length}
use Rattle.open_levels.proofs.AddsLaws.{adds_one, adds_one_everywhere, over_later, on_ok}
use Rattle.open_levels.proofs.filling.put_one_everywhere.Goals as goal

pub returns-clause-adds : goal.returns-clause-adds
returns-clause-adds c =
    on_ok c.put_everywhere.result (λ tightens. adds_one_everywhere c.args.bounds.now c.put_everywhere.new.self c.args.lit tightens c.put_everywhere.ensures.extends)
    c.put_everywhere.ensures.everywhere

pub returns-clause-here : goal.returns-clause-here
returns-clause-here c =
    on_ok c.put_everywhere.result (λ tightens. adds_one c.args.bounds.now c.put_everywhere.new.self c.args.lit tightens c.put_everywhere.ensures.extends)
    c.put_everywhere.ensures.both

pub returns-clause-over : goal.returns-clause-over
returns-clause-over c =
    on_ok c.put_everywhere.result (λ up_to. record {
      over = over_later (length c.args.system.now.ranges) (length c.args.system.now.rows) c.args.bounds.now c.put_everywhere.new.self c.requires.over.over c.put_everywhere.ensures.extends;
      up_to = up_to;
    }) c.put_everywhere.ensures.up_to
