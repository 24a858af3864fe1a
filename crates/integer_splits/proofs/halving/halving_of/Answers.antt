use Rattle.std.proofs.Common.{◌≡◌, Some, ◌-ℤ◌, FitsSigned, rules, arith}
use Rattle.std.specs.Int.{w128}
use Rattle.std.proofs.lemmas.Int.{to_z-of_z, fits_signed_from_abs}
use Rattle.mix_system.specs.declared.literal.Side.TheVariants.{Le, Ge}
use Rattle.mix_system.specs.declared.literal.Term.TheVariants.{Var}
use Rattle.mix_system.specs.Calm.{IsSmall}
use Rattle.bounded_simplex.specs.InForce.{in_force}
use Rattle.bounded_simplex.proofs.LeafSizeLaws.{sub_size}
use Rattle.integer_splits.proofs.halving.halving_of.Goals as goal

pub middle-at-requires-clause-low_small : goal.middle-at-requires-clause-low_small
middle-at-requires-clause-low_small c =
    let low = c.in-Some.low in
    let fits : FitsSigned w128 low = search rules in
    let below : in_force c.args.simplex.now.bounds (Var c.args.var) Ge ≡ Some low = first_of (search rules, cc) in
    let small : IsSmall low = c.requires.small (Var c.args.var) Ge low c.requires.within below in
    first_of (search rules, search (rules, to_z-of_z))

pub middle-at-requires-clause-high_small : goal.middle-at-requires-clause-high_small
middle-at-requires-clause-high_small c =
    let high = c.in-Some-high.high in
    let fits : FitsSigned w128 high = search rules in
    let above : in_force c.args.simplex.now.bounds (Var c.args.var) Le ≡ Some high = first_of (search rules, cc) in
    let small : IsSmall high = c.requires.small (Var c.args.var) Le high c.requires.within above in
    first_of (search rules, search (rules, to_z-of_z))

pub overflow_sub-width : goal.overflow_sub-width
overflow_sub-width c =
    let low = c.in-Some.low in
    let high = c.in-Some-high.high in
    let low_fits : FitsSigned w128 low = search rules in
    let high_fits : FitsSigned w128 high = search rules in
    let below : in_force c.args.simplex.now.bounds (Var c.args.var) Ge ≡ Some low = first_of (search rules, cc) in
    let above : in_force c.args.simplex.now.bounds (Var c.args.var) Le ≡ Some high = first_of (search rules, cc) in
    let low_small : IsSmall low = c.requires.small (Var c.args.var) Ge low c.requires.within below in
    let high_small : IsSmall high = c.requires.small (Var c.args.var) Le high c.requires.within above in
    let fits : FitsSigned w128 (high -ℤ low) = fits_signed_from_abs w128 (high -ℤ low) (omega (arith, sub_size high low, low_small, high_small)) in
    simp to_z-of_z fits
