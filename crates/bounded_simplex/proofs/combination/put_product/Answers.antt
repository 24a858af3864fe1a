use Rattle.std.proofs.Common.{◌≡◌, ◌+ℤ◌, ◌*ℤ◌, FitsSigned, ap, ◌∙◌, rules}
use Rattle.std.specs.Int.{w128}
use Rattle.std.proofs.lemmas.Int.{to_z-of_z}
use Rattle.mix_system.specs.Row.{number_at}
use Rattle.mix_system.specs.FarkasSum.{by_side}
use Rattle.bounded_simplex.proofs.CombinationLaws.{sums_with}
use Rattle.bounded_simplex.proofs.RatioLaws.{read_number}
use Rattle.bounded_simplex.proofs.combination.put_product.Goals as goal

pub returns-in-Ok-clause-summed : goal.returns-in-Ok-clause-summed
returns-in-Ok-clause-summed c =
    let sums = c.args.sums.now.items in
    let part = c.args.part in
    let sum_fits : FitsSigned w128 c.in-Ok.sum = search rules in
    let coeff_fits : FitsSigned w128 part.coeff = search rules in
    let by_fits : FitsSigned w128 c.args.by = search rules in
    let old_fits : FitsSigned w128 c.index.result.now = search rules in
    let read : c.index.result.now ≡ number_at sums part.var = read_number sums part.var c.index.result.now c.requires c.index.ensures in
    let value : c.in-Ok.sum ≡ c.index.result.now +ℤ by_side c.args.side (c.args.by *ℤ part.coeff) = simp to_z-of_z at c.in-Ok.ensures.value in
    simp to_z-of_z (sums_with sums part c.in-Ok.sum c.requires c.args.side c.args.by (value ∙ ap (λ z. z +ℤ by_side c.args.side (c.args.by *ℤ part.coeff)) read))
