use Rattle.std.proofs.Common.{ap}
use Rattle.tableau_rows.specs.declared.equation.Equation.{Equation}
use Rattle.bounded_simplex.proofs.PivotLaws.{read_at}
use Rattle.bounded_simplex.proofs.tableau.Tableau.basic.Goals as goal

pub returns : goal.returns
returns c = λ d.
    ap (λ (x : Equation). x.basic) (read_at c.args.self.now.rows.items c.args.at c.index.result.now d c.requires c.index.ensures)
