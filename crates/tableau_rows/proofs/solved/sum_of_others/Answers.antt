use Rattle.std.proofs.Common.{◌≡◌, ◌≢◌, take, get_or, pos, FitsSigned, to_z, sym, ◌∙◌, rules, arith}
use Rattle.std.specs.Int.{w128}
use Rattle.std.proofs.lemmas.Int.{to_z-of_z}
use Rattle.std.proofs.lemmas.Result.{err_from_is_err_and}
use Rattle.std.proofs.lemmas.Bool.Decides.{nat_tests}
use Rattle.mix_system.specs.Row.{number_at}
use Rattle.tableau_rows.specs.declared.entry.Entry.{Entry}
use Rattle.tableau_rows.specs.Equation.{total}
use Rattle.tableau_rows.specs.Turning.{others}
use Rattle.tableau_rows.proofs.OtherLaws.{total_others_skip, total_others_more, IsSumStep_product, IsSumStep_sum}
use Rattle.tableau_rows.proofs.solved.sum_of_others.Goals as goal

blank : Entry
blank = record { column = 0; coeff = pos 0 }

pub returns-in_err-product-clause-step : goal.returns-in_err-product-clause-step
unfolding blank
returns-in_err-product-clause-step c =
    let entries = c.args.entries.now in
    let i = c.loop-entry.entry-index in
    let entry = get_or entries i blank in
    let number = number_at c.args.values.now in
    let other : entry.column ≢ c.args.basic = grind (arith, nat_tests) in
    let coeff_fits : FitsSigned w128 entry.coeff = search rules in
    let number_fits : FitsSigned w128 (number entry.column) = search rules in
    let step = simp to_z-of_z at c.in_err-product.ensures.excess in
    let p = err_from_is_err_and c.from_residual.result c.from_residual.ensures.1 in
    rw (p.1, p.2, step) (IsSumStep_product c.args.basic entries i blank c.loop-entry-test.true number other)

pub returns-in_err-sum-clause-step : goal.returns-in_err-sum-clause-step
unfolding blank
returns-in_err-sum-clause-step c =
    let entries = c.args.entries.now in
    let i = c.loop-entry.entry-index in
    let entry = get_or entries i blank in
    let number = number_at c.args.values.now in
    let other : entry.column ≢ c.args.basic = grind (arith, nat_tests) in
    let coeff_fits : FitsSigned w128 entry.coeff = search rules in
    let number_fits : FitsSigned w128 (number entry.column) = search rules in
    let product_fits : FitsSigned w128 c.in_ok-product.product = search rules in
    let product = simp to_z-of_z at c.in_ok-product.ensures.value in
    let before : to_z w128 c.loop-entry.sum-bits ≡ total number (others c.args.basic (take i entries)) = c.loop-entry.invariant in
    let step = simp to_z-of_z at c.in_err-sum.ensures.excess in
    let p = err_from_is_err_and c.from_residual-in_err-sum.result c.from_residual-in_err-sum.ensures.1 in
    rw (p.1, p.2, step, before, product) (IsSumStep_sum c.args.basic entries i blank c.loop-entry-test.true number other)

pub loop-entry-preserved : goal.loop-entry-preserved
unfolding blank
loop-entry-preserved c =
    let entries = c.args.entries.now in
    let i = c.loop-entry.entry-index in
    let entry = get_or entries i blank in
    let number = number_at c.args.values.now in
    let other : entry.column ≢ c.args.basic = grind (arith, nat_tests) in
    let coeff_fits : FitsSigned w128 entry.coeff = search rules in
    let number_fits : FitsSigned w128 (number entry.column) = search rules in
    let product_fits : FitsSigned w128 c.in_ok-product.product = search rules in
    let sum_fits : FitsSigned w128 c.in_ok-sum.sum = search rules in
    let product = simp to_z-of_z at c.in_ok-product.ensures.value in
    let before : to_z w128 c.loop-entry.sum-bits ≡ total number (others c.args.basic (take i entries)) = c.loop-entry.invariant in
    let sum = simp to_z-of_z at c.in_ok-sum.ensures.value in
    simp to_z-of_z (rw (sum, before, product) (sym (total_others_more c.args.basic entries i blank c.loop-entry-test.true number other)))

pub loop-entry-preserved-then-entry-basic : goal.loop-entry-preserved-then-entry-basic
unfolding blank
loop-entry-preserved-then-entry-basic c =
    let entries = c.args.entries.now in
    let i = c.loop-entry.entry-index in
    let entry = get_or entries i blank in
    let number = number_at c.args.values.now in
    let same : entry.column ≡ c.args.basic = grind (arith, nat_tests) in
    let before : to_z w128 c.loop-entry.sum-bits ≡ total number (others c.args.basic (take i entries)) = c.loop-entry.invariant in
    before ∙ sym (total_others_skip c.args.basic entries i blank c.loop-entry-test.true number same)
