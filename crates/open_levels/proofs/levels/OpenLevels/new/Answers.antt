use Rattle.std.proofs.Common.{ap}
use Rattle.open_levels.specs.Stack.{Stack}
use Rattle.open_levels.proofs.KeptLaws.{levels_started}
use Rattle.open_levels.proofs.levels.OpenLevels.new.Goals as goal

pub returns-clause-kept : goal.returns-clause-kept
returns-clause-kept c =
    levels_started c.args.system.now c.args.cost _ c.in_ok-bounds.bounds c.args.goal c.requires.fits c.in_ok-bounds.ensures.sound c.in_ok-bounds.ensures.everywhere
    c.in_ok-begin.ensures (ap (λ (s : Stack). s.last) c.new-stack.ensures) (ap (λ (s : Stack). s.enclosing) c.new-stack.ensures)
