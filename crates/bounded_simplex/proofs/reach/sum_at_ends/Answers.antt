use Rattle.std.proofs.Common.{◌≡◌, ◌*ℤ◌, [], take, get_or, pos, FitsSigned, to_z, sym, rules}
use Rattle.std.specs.Int.{w128}
use Rattle.std.proofs.lemmas.Int.{to_z-of_z}
use Rattle.std.proofs.lemmas.Option.{get_or_from_slice_get}
use Rattle.std.proofs.lemmas.Result.{err_from_is_err_and}
use Rattle.mix_system.specs.declared.row.Part.{Part}
use Rattle.mix_system.proofs.SumLaws.{int_sum_by_more}
use Rattle.bounded_simplex.specs.Lax.{end_of, extreme}
use Rattle.bounded_simplex.proofs.ReachLaws.{product_step, sum_step}
use Rattle.bounded_simplex.proofs.reach.sum_at_ends.Goals as goal

blank : Part
blank = record { coeff = pos 0; var = 0 }

pub returns-in_err-product-clause-step : goal.returns-in_err-product-clause-step
unfolding blank
returns-in_err-product-clause-step c =
    let ranges = c.args.system.now.ranges in
    let parts = c.row-parts.result.now in
    let part = get_or parts c.loop-part.part-index blank in
    let is = get_or_from_slice_get c.args.system.now.rows c.args.row parts [] c.row-parts.ensures.parts in
    let coeff_fits : FitsSigned w128 part.coeff = search rules in
    let end_fits : FitsSigned w128 c.end_at.result = search rules in
    let end : c.end_at.result ≡ end_of ranges c.args.upwards part = search rules in
    let step = simp to_z-of_z at c.in_err-product.ensures.excess in
    let p = err_from_is_err_and c.from_residual.result c.from_residual.ensures.1 in
    rw (p.1, p.2, step, is, end) (λ number ends. product_step ranges c.args.upwards parts c.loop-part.part-index blank c.loop-part-test.true number ends)

pub returns-in_err-sum-clause-step : goal.returns-in_err-sum-clause-step
unfolding blank
returns-in_err-sum-clause-step c =
    let ranges = c.args.system.now.ranges in
    let parts = c.row-parts.result.now in
    let part = get_or parts c.loop-part.part-index blank in
    let is = get_or_from_slice_get c.args.system.now.rows c.args.row parts [] c.row-parts.ensures.parts in
    let coeff_fits : FitsSigned w128 part.coeff = search rules in
    let end_fits : FitsSigned w128 c.end_at.result = search rules in
    let product_fits : FitsSigned w128 c.in_ok-product.product = search rules in
    let end : c.end_at.result ≡ end_of ranges c.args.upwards part = search rules in
    let product = simp to_z-of_z at c.in_ok-product.ensures.value in
    let before : to_z w128 c.loop-part.sum-bits ≡ extreme ranges c.args.upwards (take c.loop-part.part-index parts) = c.loop-part.invariant in
    let step = simp to_z-of_z at c.in_err-sum.ensures.excess in
    let p = err_from_is_err_and c.from_residual-in_err-sum.result c.from_residual-in_err-sum.ensures.1 in
    rw (p.1, p.2, step, is, before, product, end) (λ number ends. sum_step ranges c.args.upwards parts c.loop-part.part-index blank c.loop-part-test.true number ends)

pub loop-part-preserved : goal.loop-part-preserved
unfolding blank
loop-part-preserved c =
    let ranges = c.args.system.now.ranges in
    let parts = c.row-parts.result.now in
    let part = get_or parts c.loop-part.part-index blank in
    let coeff_fits : FitsSigned w128 part.coeff = search rules in
    let end_fits : FitsSigned w128 c.end_at.result = search rules in
    let product_fits : FitsSigned w128 c.in_ok-product.product = search rules in
    let sum_fits : FitsSigned w128 c.in_ok-sum.sum = search rules in
    let end : c.end_at.result ≡ end_of ranges c.args.upwards part = search rules in
    let product = simp to_z-of_z at c.in_ok-product.ensures.value in
    let before : to_z w128 c.loop-part.sum-bits ≡ extreme ranges c.args.upwards (take c.loop-part.part-index parts) = c.loop-part.invariant in
    let sum = simp to_z-of_z at c.in_ok-sum.ensures.value in
    simp to_z-of_z (rw (sum, before, product, end) (sym (int_sum_by_more (λ (x : Part). x.coeff *ℤ end_of ranges c.args.upwards x) parts c.loop-part.part-index blank c.loop-part-test.true)))
