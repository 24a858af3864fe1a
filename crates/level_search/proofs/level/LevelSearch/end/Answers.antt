use Rattle.std.proofs.Common.{refl}
use Rattle.level_search.proofs.TurnLaws.{ended_by}
use Rattle.level_search.proofs.level.LevelSearch.end.Goals as goal

pub returns-clause-ends : goal.returns-clause-ends
returns-clause-ends c =
    ended_by c.args.self.now _ c.args.step refl refl refl refl refl refl c.in_ok-push.ensures.items c.requires.empty c.requires.on c.requires.plain c.requires.kept c.requires.open
