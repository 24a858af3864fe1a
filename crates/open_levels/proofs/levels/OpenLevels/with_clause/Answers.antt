use Rattle.open_levels.proofs.KeptLaws.{levels_with_step}
use Rattle.open_levels.proofs.levels.OpenLevels.with_clause.Goals as goal

pub returns-clause-kept : goal.returns-clause-kept
returns-clause-kept c =
    levels_with_step c.args.system.now c.args.cost c.args.self c.push.new.self c.put_unit.new.bounds c.args.clause.now c.requires.kept c.requires.named c.in_ok-push.ensures
    c.in_ok-put_unit.ensures.adds c.in_ok-put_unit.ensures.stays
