use Rattle.std.proofs.Common.{FitsSigned, rules}
use Rattle.std.specs.Int.{w128}
use Rattle.std.proofs.lemmas.Int.{to_z-of_z}
use Rattle.tableau_rows.specs.Substitution.{times_leaving, leaving}
use Rattle.tableau_rows.proofs.FormLaws.{IsStep-same, IsStep-turned}
use Rattle.tableau_rows.proofs.substitution.Substitution.leaving.Goals as goal

pub returns-in-Ok-clause-step : goal.returns-in-Ok-clause-step
returns-in-Ok-clause-step c =
    let s = c.args.self.now in
    let factor_fits : FitsSigned w128 s.of_pivot = search rules in
    let denominator_fits : FitsSigned w128 s.pivot.now.denominator = search rules in
    let product_fits : FitsSigned w128 c.in-Ok.product = search rules in
    let product = simp to_z-of_z at c.in-Ok.ensures.value in
    IsStep-turned s.row.now s.pivot.now s.of_row s.of_pivot s.entering c.oriented.result _ _ product leaving (simp to_z-of_z at c.oriented.ensures.turned)

pub returns-in-Err-clause-step : goal.returns-in-Err-clause-step
returns-in-Err-clause-step c =
    let s = c.args.self.now in
    let factor_fits : FitsSigned w128 s.of_pivot = search rules in
    let denominator_fits : FitsSigned w128 s.pivot.now.denominator = search rules in
    IsStep-same s.row.now s.pivot.now s.of_row s.of_pivot s.entering _ _ (simp to_z-of_z at c.in-Err.ensures.excess) times_leaving
