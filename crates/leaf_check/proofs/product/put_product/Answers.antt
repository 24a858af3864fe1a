use Rattle.std.proofs.Common.{FitsSigned, rules}
use Rattle.std.specs.Int.{w128}
use Rattle.std.proofs.lemmas.Int.{to_z-of_z}
use Rattle.std.proofs.lemmas.Bool.{false≢true}
use Rattle.leaf_check.proofs.StepLaws.{product_overflows, put_excess}
use Rattle.leaf_check.proofs.product.put_product.Goals as goal

pub returns-in-Ok-clause-excess : goal.returns-in-Ok-clause-excess
returns-in-Ok-clause-excess c =
    let sum = c.ranges.sum in
    let by = c.ranges.by in
    let factor = c.ranges.factor in
    let product_fits : FitsSigned w128 c.in-Ok.product = search rules in
    let product = simp to_z-of_z at c.in-Ok.ensures.value in
    let excess = simp to_z-of_z at c.put_to.ensures.excess in
    let within = simp to_z-of_z at c.put_to.ensures.within in
    put_excess c.args.side c.args.sum c.args.by c.args.factor c.in-Ok.product c.put_to.result product product_fits excess within

pub returns-in-Err-clause-excess : goal.returns-in-Err-clause-excess
returns-in-Err-clause-excess c =
    let by = c.ranges.by in
    let factor = c.ranges.factor in
    let step = simp to_z-of_z at c.in-Err.ensures.excess in
    let within = simp to_z-of_z at c.in-Err.ensures.within in
    product_overflows c.args.side c.args.sum c.args.by c.args.factor c.in-Err.excess step (λ fits. false≢true (within.1 fits))
