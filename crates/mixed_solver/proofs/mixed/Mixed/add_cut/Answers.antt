use Rattle.level_search.proofs.KeptLaws.{ok_both, ok_more}
use Rattle.mixed_solver.proofs.GroundLaws.{ground_cut}
use Rattle.mixed_solver.proofs.mixed.Mixed.add_cut.Goals as goal

pub returns-clause-ground : goal.returns-clause-ground
returns-clause-ground c =
    let it = c.args.self.now in
    let says = c.add_cut.ensures in
    let both = ok_both c.add_cut.result _ _ (ok_both c.add_cut.result _ _ says.kept says.level) (ok_both c.add_cut.result _ _ says.steps says.search) in
    ok_more c.add_cut.result _ _ (λ all. ground_cut it c.add_cut.new.self _ c.requires.ground c.requires.none all.0.0 all.0.1 all.1.0 all.1.1) both
