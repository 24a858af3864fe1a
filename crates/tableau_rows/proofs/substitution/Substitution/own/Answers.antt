use Rattle.std.proofs.Common.{FitsSigned, rules}
use Rattle.std.specs.Int.{w128}
use Rattle.std.proofs.lemmas.Int.{to_z-of_z}
use Rattle.tableau_rows.specs.Substitution.{times_own, own, turned}
use Rattle.tableau_rows.proofs.FormLaws.{IsStep-same, IsFormed-same}
use Rattle.tableau_rows.proofs.substitution.Substitution.own.Goals as goal

pub returns-in-Err-oriented-clause-step : goal.returns-in-Err-oriented-clause-step
returns-in-Err-oriented-clause-step c =
    let s = c.args.self.now in
    let factor_fits : FitsSigned w128 s.of_row = search rules in
    let denominator_fits : FitsSigned w128 s.row.now.denominator = search rules in
    let product_fits : FitsSigned w128 c.in-Ok.product = search rules in
    let product = simp to_z-of_z at c.in-Ok.ensures.value in
    let turn = simp to_z-of_z at c.in-Err-oriented.ensures.turned in
    IsStep-same s.row.now s.pivot.now s.of_row s.of_pivot s.entering _ _ turn.1
    (turned _ turn.0 (IsFormed-same s.row.now s.pivot.now s.of_row s.of_pivot s.entering _ _ product own))

pub returns-in-Err-clause-step : goal.returns-in-Err-clause-step
returns-in-Err-clause-step c =
    let s = c.args.self.now in
    let factor_fits : FitsSigned w128 s.of_row = search rules in
    let denominator_fits : FitsSigned w128 s.row.now.denominator = search rules in
    IsStep-same s.row.now s.pivot.now s.of_row s.of_pivot s.entering _ _ (simp to_z-of_z at c.in-Err.ensures.excess) times_own
