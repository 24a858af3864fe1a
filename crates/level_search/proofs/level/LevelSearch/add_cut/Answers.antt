use Rattle.std.proofs.Common.{◌∙◌}
use Rattle.level_search.proofs.KeptLaws.{kept_cut}
use Rattle.level_search.proofs.level.LevelSearch.add_cut.Goals as goal

pub returns-clause-kept : goal.returns-clause-kept
returns-clause-kept c =
    let made = c.in_ok-add.ensures in
    kept_cut c.args.self.now c.add.new.self c.args.cut c.in_ok-number.number made.system (made.cuts ∙ c.in_ok-push.ensures.items) made.goal made.steps
    made.numbers made.singles made.store c.in_ok-number.ensures c.requires.small c.requires.none c.requires.kept
