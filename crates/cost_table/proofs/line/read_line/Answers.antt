use Rattle.std.proofs.Common.{sym, ◌∙◌}
use Rattle.cost_table.proofs.LineLaws.{block_alone}
use Rattle.cost_table.proofs.line.read_line.Goals as goal

pub returns-in-Some : goal.returns-in-Some
returns-in-Some c =
    let named = rw c.in-Some.is at c.in_ok-label.ensures.found in
    (named, block_alone c.args.line.now c.in-Some.label c.in-Some.cost named (λ name cost other. sym c.in-Some.is ∙ c.in_ok-label.ensures.only name cost other))
