use Rattle.std.proofs.Common.{rules, ◌∙◌, refl, FitsSigned}
use Rattle.std.specs.Int.{w128}
use Rattle.std.proofs.lemmas.Int.{to_z-of_z}
use Rattle.wrap_rows.proofs.ShiftRightLaws.{signed_row_small}
use Rattle.wrap_rows.proofs.shift_right.ShiftRight.add_signed_row.Goals as goal

pub add_sum-requires-clause-small : goal.add_sum-requires-clause-small
add_sum-requires-clause-small c =
    let width_fits : FitsSigned w128 c.minus_power.result = search rules in
    let amount_fits : FitsSigned w128 c.minus_power-2.result = search rules in
    let lift_fits : FitsSigned w128 c.lift.result = search rules in
    let second = simp to_z-of_z at c.times-2.ensures in
    let third = simp to_z-of_z at c.times-3.ensures in
    let fourth = simp to_z-of_z at c.times-4.ensures in
    rw (c.times.ensures, second, third, fourth, c.times-5.ensures, c.minus_power.ensures, c.minus_power-2.ensures, c.lift.ensures) (signed_row_small c.args.self.now c.args.first c.requires.at)

pub returns : goal.returns
returns c =
    let width_fits : FitsSigned w128 c.minus_power.result = search rules in
    let amount_fits : FitsSigned w128 c.minus_power-2.result = search rules in
    let lift_fits : FitsSigned w128 c.lift.result = search rules in
    let second = simp to_z-of_z at c.times-2.ensures in
    let third = simp to_z-of_z at c.times-3.ensures in
    let fourth = simp to_z-of_z at c.times-4.ensures in
    c.in_ok-add_sum.ensures.ok ∙ rw (c.times.ensures, second, third, fourth, c.times-5.ensures, c.minus_power.ensures, c.minus_power-2.ensures, c.lift.ensures) refl
