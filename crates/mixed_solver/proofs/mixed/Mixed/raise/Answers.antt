use Rattle.level_search.proofs.KeptLaws.{ok_both, ok_more}
use Rattle.mixed_solver.proofs.GroundLaws.{ground_goal}
use Rattle.mixed_solver.proofs.mixed.Mixed.raise.Goals as goal

pub returns-clause-ground : goal.returns-clause-ground
returns-clause-ground c =
    let it = c.args.self.now in
    let says = c.set_goal.ensures in
    let both = ok_both c.set_goal.result _ _ (ok_both c.set_goal.result _ _ says.kept says.level) (ok_both c.set_goal.result _ _ says.steps says.search) in
    ok_more c.set_goal.result _ _ (λ all. ground_goal it c.set_goal.new.self _ c.requires.ground all.0.0 all.0.1 all.1.0 all.1.1) both
