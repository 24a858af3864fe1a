use Rattle.std.proofs.Common.{◌≡◌, take, get_or, pos, FitsSigned, to_z, sym, rules}
use Rattle.std.specs.Int.{w128}
use Rattle.std.proofs.lemmas.Int.{to_z-of_z}
use Rattle.std.proofs.lemmas.Result.{err_from_is_err_and}
use Rattle.mix_system.specs.declared.row.Part.{Part}
use Rattle.mix_system.specs.Row.{number_at, product_at, row_value}
use Rattle.mix_system.proofs.StepLaws.{IsStepOf_product, IsStepOf_sum}
use Rattle.mix_system.proofs.SumLaws.{int_sum_by_more}
use Rattle.mix_system.proofs.row.row_sum.Goals as goal

blank : Part
blank = record { coeff = pos 0; var = 0 }

pub returns-in_err-product-clause-step : goal.returns-in_err-product-clause-step
unfolding blank
returns-in_err-product-clause-step c =
    let point = c.args.point.now in
    let part = get_or c.args.parts.now c.loop-part.part-index blank in
    let coeff_fits : FitsSigned w128 part.coeff = search rules in
    let number_fits : FitsSigned w128 (number_at point part.var) = search rules in
    let step = simp to_z-of_z at c.in_err-product.ensures.excess in
    let p = err_from_is_err_and c.from_residual.result c.from_residual.ensures.1 in
    rw (p.1, p.2, step) (IsStepOf_product c.args.parts.now point c.loop-part.part-index blank c.loop-part-test.true)

pub returns-in_err-sum-clause-step : goal.returns-in_err-sum-clause-step
unfolding blank
returns-in_err-sum-clause-step c =
    let point = c.args.point.now in
    let part = get_or c.args.parts.now c.loop-part.part-index blank in
    let coeff_fits : FitsSigned w128 part.coeff = search rules in
    let number_fits : FitsSigned w128 (number_at point part.var) = search rules in
    let product_fits : FitsSigned w128 c.in_ok-product.product = search rules in
    let product = simp to_z-of_z at c.in_ok-product.ensures.value in
    let before : to_z w128 c.loop-part.sum-bits ≡ row_value (take c.loop-part.part-index c.args.parts.now) point = c.loop-part.invariant in
    let step = simp to_z-of_z at c.in_err-sum.ensures.excess in
    let p = err_from_is_err_and c.from_residual-in_err-sum.result c.from_residual-in_err-sum.ensures.1 in
    rw (p.1, p.2, step, before, product) (IsStepOf_sum c.args.parts.now point c.loop-part.part-index blank c.loop-part-test.true)

pub loop-part-preserved : goal.loop-part-preserved
unfolding blank
loop-part-preserved c =
    let point = c.args.point.now in
    let part = get_or c.args.parts.now c.loop-part.part-index blank in
    let coeff_fits : FitsSigned w128 part.coeff = search rules in
    let number_fits : FitsSigned w128 (number_at point part.var) = search rules in
    let product_fits : FitsSigned w128 c.in_ok-product.product = search rules in
    let sum_fits : FitsSigned w128 c.in_ok-sum.sum = search rules in
    let product = simp to_z-of_z at c.in_ok-product.ensures.value in
    let before : to_z w128 c.loop-part.sum-bits ≡ row_value (take c.loop-part.part-index c.args.parts.now) point = c.loop-part.invariant in
    let sum = simp to_z-of_z at c.in_ok-sum.ensures.value in
    simp to_z-of_z (rw (sum, before, product) (sym (int_sum_by_more (product_at point) c.args.parts.now c.loop-part.part-index blank c.loop-part-test.true)))
