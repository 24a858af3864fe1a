use Rattle.std.proofs.Common.{◌≡◌, Some, refl, ◌<ℤ◌, FitsSigned, rules, arith}
use Rattle.std.specs.Int.{w128}
use Rattle.std.proofs.lemmas.Int.{ints, to_z-of_z}
use Rattle.mix_system.specs.declared.literal.Side.TheVariants.{Le, Ge}
use Rattle.bounded_simplex.specs.InForce.{in_force}
use Rattle.bounded_simplex.proofs.TwoBoundLaws.{two_refutation}
use Rattle.bounded_simplex.proofs.refutation.contradiction.Goals as goal

pub returns-clause-refutation : goal.returns-clause-refutation
returns-clause-refutation c =
    let bounds = c.args.bounds.now in
    let low = c.in-Some.low in
    let high = c.in-Some-high.high in
    let low_fits : FitsSigned w128 low = search rules in
    let high_fits : FitsSigned w128 high = search rules in
    let below : in_force bounds c.args.term Ge ≡ Some low = first_of (search rules, cc) in
    let above : in_force bounds c.args.term Le ≡ Some high = first_of (search rules, cc) in
    let less : high <ℤ low = omega (arith, ints) in
    rw c.in_ok-two.ensures (two_refutation bounds c.args.term low high c.requires below above _ _ (simp to_z-of_z) (simp to_z-of_z) refl refl less)
