use Rattle.level_search.proofs.KeptLaws.{ok_more, ok_both, kept_goal}
use Rattle.level_search.proofs.level.LevelSearch.set_goal.Goals as goal

pub returns-clause-kept : goal.returns-clause-kept
returns-clause-kept c =
    let made = c.add.ensures in
    ok_more c.add.result _ _
    (λ done. kept_goal c.args.self.now c.add.new.self c.args.goal made.system made.cuts made.goal made.steps done.0.1 done.1 done.0.0 (record { known = c.requires.term; small = c.requires.small }) c.requires.may c.requires.kept)
    (ok_both c.add.result _ _ (ok_both c.add.result _ _ made.store made.numbers) made.singles)
