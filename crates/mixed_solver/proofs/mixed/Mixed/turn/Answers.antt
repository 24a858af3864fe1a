use Rattle.std.proofs.Common.{sym, subst}
use Rattle.level_search.specs.declared.level.LevelSearch.{LevelSearch}
use Rattle.mixed_solver.specs.Mixed.{IsMixed}
use Rattle.mixed_solver.proofs.TurnLaws.{goal_settled}
use Rattle.mixed_solver.proofs.mixed.Mixed.turn.Goals as goal

pub spread-requires-clause-mixed : goal.spread-requires-clause-mixed
spread-requires-clause-mixed c =
    let it = c.args.self.now in
    let settled = goal_settled c.in_ok-refute_goal.field-0 it.level c.refute_goal.new.level c.in_ok-refute_goal.ensures c.in_default.not-Ended in
    subst (λ (l : LevelSearch). IsMixed (record { level = l; bounds = it.bounds })) (sym settled.0) c.requires

pub spread-requires-clause-goal : goal.spread-requires-clause-goal
spread-requires-clause-goal c =
    (goal_settled c.in_ok-refute_goal.field-0 c.args.self.now.level c.refute_goal.new.level c.in_ok-refute_goal.ensures c.in_default.not-Ended).1
