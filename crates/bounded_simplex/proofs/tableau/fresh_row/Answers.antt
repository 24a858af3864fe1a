use Rattle.std.proofs.Common.{◌≢◌, arith}
use Rattle.std.proofs.lemmas.Bool.Decides.{nat_tests}
use Rattle.bounded_simplex.proofs.PivotLaws.{apart_read, basics_differ}
use Rattle.bounded_simplex.proofs.tableau.fresh_row.Goals as goal

pub substituted-requires-clause-apart : goal.substituted-requires-clause-apart
substituted-requires-clause-apart c =
    let other : c.args.at ≢ c.args.place = grind (arith, nat_tests) in
    basics_differ c.index-rows-at.result c.index-rows-place.result
    (apart_read c.args.rows.now c.args.at c.args.place _ _ c.requires.apart c.requires.at c.requires.place other c.index-rows-at.is c.index-rows-place.is)

pub substituted-requires-clause-pivot_without : goal.substituted-requires-clause-pivot_without
substituted-requires-clause-pivot_without c =
    let other : c.args.at ≢ c.args.place = grind (arith, nat_tests) in
    apart_read c.args.rows.now c.args.at c.args.place _ _ c.requires.apart c.requires.at c.requires.place other c.index-rows-at.is c.index-rows-place.is

pub substituted-requires-clause-row_without : goal.substituted-requires-clause-row_without
substituted-requires-clause-row_without c =
    let other : c.args.place ≢ c.args.at = grind (arith, nat_tests) in
    apart_read c.args.rows.now c.args.place c.args.at _ _ c.requires.apart c.requires.place c.requires.at other c.index-rows-place.is c.index-rows-at.is
