use Rattle.std.proofs.Common.{◌≡◌, subst, rules}
use Rattle.std.specs.Prelude.{IsTrue}
use Rattle.mix_system.specs.Calm.{IsCalm}
use Rattle.mix_system.specs.System.{IsWellFormed}
use Rattle.solver_rows.proofs.calm.may_be_solved.Goals as goal

pub returns-clause-calm : goal.returns-clause-calm
returns-clause-calm c =
    let calm : IsTrue c.is_calm.result = search rules in
    let small : IsTrue c.are_bounds_small.result = search rules in λ _.
    record {
      formed = subst IsWellFormed c.system-2.ensures c.depth.ensures.well_formed;
      system = subst IsCalm c.system.ensures (c.is_calm.ensures calm);
      small = c.are_bounds_small.ensures small;
    }
