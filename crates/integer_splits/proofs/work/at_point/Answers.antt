use Rattle.std.proofs.Common.{◌≡◌, length, rules}
use Rattle.integer_splits.specs.WholePoint.{AreValuesOf}
use Rattle.integer_splits.proofs.PointLaws.{whole_inside}
use Rattle.integer_splits.proofs.work.at_point.Goals as goal

pub returns-in-Some-clause-found : goal.returns-in-Some-clause-found
returns-in-Some-clause-found c =
    let s = c.args.simplex.now in
    let point = c.in-Some.point in
    let count : length point ≡ length s.bounds.system.ranges = search rules in
    let values : AreValuesOf s.bounds s.tableau.rows.items s.values.items point = search rules in
    whole_inside s.bounds s.tableau.rows.items s.values.items point c.requires.calm.formed c.requires.point count values
