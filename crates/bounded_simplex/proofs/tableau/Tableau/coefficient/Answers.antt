use Rattle.std.proofs.Common.{FitsSigned, ap, ◌∙◌, rules}
use Rattle.std.specs.Int.{w128}
use Rattle.std.proofs.lemmas.Int.{to_z-of_z}
use Rattle.tableau_rows.specs.declared.equation.Equation.{Equation}
use Rattle.tableau_rows.specs.Substitution.{taken}
use Rattle.bounded_simplex.proofs.PivotLaws.{read_at}
use Rattle.bounded_simplex.proofs.tableau.Tableau.coefficient.Goals as goal

pub returns : goal.returns
returns c = λ d.
    let fits : FitsSigned w128 c.coefficient.result = search rules in
    simp to_z-of_z (c.coefficient.ensures ∙ ap (λ (x : Equation). taken x c.args.column) (read_at c.args.self.now.rows.items c.args.at c.index.result.now d c.requires c.index.ensures))
