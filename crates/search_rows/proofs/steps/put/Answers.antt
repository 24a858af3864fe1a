use Rattle.std.proofs.Common.{rules, ◌≡◌, true, refl, subst}
use Rattle.clause_search.specs.Decided.{Decides}
use Rattle.search_rows.proofs.RunLaws.{known_decided}
use Rattle.search_rows.proofs.steps.put.Goals as goal

pub returns : goal.returns
returns c =
    let run = c.args.run.now in
    let yes : c.in_ok-decide.field-0 ≡ true = search rules in
    let opens = subst (λ b. Decides b c.args.lit.now run.search c.decide.new.self run.tally c.decide.new.tally) yes c.in_ok-decide.ensures.decides in
    known_decided run _ c.args.lit.now run.tally c.decide.new.tally c.levels-levels.ensures.trail c.requires c.in-Settled.is opens refl refl refl
