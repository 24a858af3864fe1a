use Rattle.std.proofs.Common.{ap, ◌∙◌}
use Rattle.tableau_rows.specs.Equation.{total}
use Rattle.tableau_rows.proofs.TotalLaws.{total_push}
use Rattle.tableau_rows.proofs.substitution.put.Goals as goal

pub returns-in_ok-push-clause-sums : goal.returns-in_ok-push-clause-sums
returns-in_ok-push-clause-sums c = λ number.
    ap (total number) c.in_ok-push.ensures.items ∙ total_push number c.args.entries.now.items c.args.entry
