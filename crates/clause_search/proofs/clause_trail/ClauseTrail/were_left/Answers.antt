use Rattle.std.proofs.Common.{refl}
use Rattle.bound_trail.specs.Trail.{box_at}
use Rattle.clause_search.proofs.WatchLaws.{left_at}
use Rattle.clause_search.proofs.clause_trail.ClauseTrail.were_left.Goals as goal

-- src/pairs.rt:115:5
pub returns : goal.returns
returns c left level below =
    let bounds = box_at c.args.self.now.trail level in
    let clause = c.args.clause.now in
    let within = c.requires.within c.if-pair.false in
    record {
      apart = c.if-pair.false;
      one = left_at bounds clause c.args.pair.first within.0 (c.if-not-was_left.ensures refl level below);
      other = left_at bounds clause c.args.pair.second within.1 (c.was_left-2.ensures left level below);
    }
