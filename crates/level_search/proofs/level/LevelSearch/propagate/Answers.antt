use Rattle.std.proofs.Common.{ap}
use Rattle.clause_search.specs.Search.{Search, HasGrown}
use Rattle.level_search.specs.declared.level.LevelSearch.{LevelSearch}
use Rattle.level_search.specs.Kept.{IsKept}
use Rattle.level_search.proofs.AllowedLaws.{over_grown}
use Rattle.level_search.proofs.KeptLaws.{in_either, kept_with}
use Rattle.level_search.proofs.level.LevelSearch.propagate.Goals as goal

kept_grown : (it : LevelSearch) (new : Search) → IsKept it → HasGrown it.search new → IsKept (record it { search = new })
kept_grown it new kept grown = kept_with it new (ap (λ (s : Search). s.store) grown.lits) (over_grown it.system.now it.search new grown kept.over) kept

pub returns-clause-kept : goal.returns-clause-kept
returns-clause-kept c =
    let it = c.args.self.now in
    let new = c.propagate.new.self in
    in_either c.propagate.result _ _ _ (λ spread p. kept_grown it new c.requires.kept p.grown) (kept_grown it new c.requires.kept)
    c.propagate.ensures.propagated c.propagate.ensures.err
