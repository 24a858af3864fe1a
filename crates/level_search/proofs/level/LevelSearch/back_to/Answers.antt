use Rattle.level_search.proofs.AllowedLaws.{over_back}
use Rattle.level_search.proofs.KeptLaws.{kept_with}
use Rattle.level_search.proofs.level.LevelSearch.back_to.Goals as goal

pub returns-clause-kept : goal.returns-clause-kept
returns-clause-kept c =
    let it = c.args.self.now in
    let new = c.back_to.new.self in
    kept_with it new c.back_to.ensures.store (over_back it.system.now it.search new c.args.level c.back_to.ensures.store c.back_to.ensures.trail c.requires.kept.over) c.requires.kept
