use Rattle.std.proofs.Common.{[], ap, sym, subst, arith}
use Rattle.mix_system.specs.Calm.{IsCalm}
use Rattle.mix_system.specs.System.{System}
use Rattle.level_steps.specs.Level.{Level}
use Rattle.trail_bounds.specs.TrailBounds.{AreBoundsOf}
use Rattle.mixed_solver.proofs.mixed.Mixed.new.Goals as goal

pub returns-clause-ground : goal.returns-clause-ground
returns-clause-ground c =
    let level = c.in_ok-level.level in
    let are = c.in_ok-bounds.ensures level.search.trail.lits in
    let same = ap (λ (l : Level). l.system) c.in_ok-level.ensures.level in
    record {
      mixed = record {
        working = c.in_ok-level.ensures.working;
        stored = c.in_ok-level.ensures.stored;
        calm = subst IsCalm (sym same) c.requires.calm;
        bounds = subst (λ (s : System). AreBoundsOf s level.search.trail.lits c.in_ok-bounds.bounds) (sym same) are;
        ground = (let none = (c.in_ok-bounds.ensures []).within in omega (arith, none));
      };
      ground = c.in_ok-level.ensures.levels;
    }
