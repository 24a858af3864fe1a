use Rattle.std.proofs.Common.{◌∙◌}
use Rattle.level_search.proofs.KeptLaws.{ok_more, ok_both, kept_logged}
use Rattle.level_search.proofs.level.LevelSearch.log.Goals as goal

pub returns-clause-kept : goal.returns-clause-kept
returns-clause-kept c =
    let made = c.add.ensures in
    ok_more c.add.result _ _
    (λ done. kept_logged c.args.self.now c.add.new.self c.args.step c.args.lits.now c.in_ok-number.number made.system made.cuts made.goal (made.steps ∙ c.in_ok-push.ensures.items)
    done.0.1 done.1 done.0.0 c.in_ok-number.ensures c.requires.clause c.requires.on c.requires.plain c.requires.named c.requires.kept)
    (ok_both c.add.result _ _ (ok_both c.add.result _ _ made.store made.numbers) made.singles)
