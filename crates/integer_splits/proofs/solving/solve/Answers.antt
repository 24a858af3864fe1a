use Rattle.std.proofs.Common.{◌≡◌, rules}
use Rattle.integer_splits.specs.Search.{IsSearched}
use Rattle.integer_splits.specs.declared.found.Ended.TheVariants.{Point, Refuted}
use Rattle.integer_splits.proofs.AnswerLaws.{decides_point, decides_all}
use Rattle.integer_splits.proofs.solving.solve.Goals as goal

pub returns-in-Point-clause-answer : goal.returns-in-Point-clause-answer
returns-in-Point-clause-answer c =
    let base = c.args.simplex.now.bounds in
    let found = c.in_ok-nodes.field-0 in
    let searched : IsSearched base found = search rules in
    let ended : found.ended ≡ Point c.in-Point.point = first_of (search rules, cc) in
    decides_point base found searched c.in-Point.point ended

pub returns-in-Refuted-clause-answer : goal.returns-in-Refuted-clause-answer
returns-in-Refuted-clause-answer c =
    let base = c.args.simplex.now.bounds in
    let found = c.in_ok-nodes.field-0 in
    let searched : IsSearched base found = search rules in
    let ended : found.ended ≡ Refuted = first_of (search rules, cc) in
    decides_all base found searched ended
