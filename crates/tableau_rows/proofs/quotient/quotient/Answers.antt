use Rattle.std.proofs.Common.{◌≡◌, ◌<◌, ◌^◌, pos, arith}
use Rattle.std.specs.Int.{w128}
use Rattle.std.proofs.lemmas.Int.{ints, to_z-of_z, to_z_pos, quot_fits}
use Rattle.std.proofs.lemmas.Bool.Decides.{nat_tests}
use Rattle.tableau_rows.proofs.QuotientLaws.{divisor_at_most, divisor_positive, least_number, exact_quotient}
use Rattle.tableau_rows.proofs.quotient.quotient.Goals as goal

pub returns-then-divisor : goal.returns-then-divisor
returns-then-divisor c =
    let is : c.args.divisor ≡ 2 ^ 127 = grind (arith, nat_tests) in
    least_number c.args.number c.args.divisor c.ranges.number c.requires.nonzero c.requires.divides is

pub overflow_cast-result : goal.overflow_cast-result
overflow_cast-result c =
    let most = divisor_at_most c.args.number c.args.divisor c.ranges.number c.requires.nonzero c.requires.divides in
    let below : c.args.divisor < 2 ^ 127 = grind (arith, nat_tests) in
    omega (arith, ints)

pub nonzero_div-result : goal.nonzero_div-result
nonzero_div-result c =
    let most = divisor_at_most c.args.number c.args.divisor c.ranges.number c.requires.nonzero c.requires.divides in
    let below : c.args.divisor < 2 ^ 127 = grind (arith, nat_tests) in
    let positive = divisor_positive c.args.number c.args.divisor c.requires.nonzero c.requires.divides in
    let fits = c.ranges.number in
    (positive, simp (to_z-of_z, to_z_pos) (quot_fits w128 c.args.number (pos c.args.divisor) c.ranges.number (omega (arith, ints))))

pub returns : goal.returns
returns c =
    let most = divisor_at_most c.args.number c.args.divisor c.ranges.number c.requires.nonzero c.requires.divides in
    let below : c.args.divisor < 2 ^ 127 = grind (arith, nat_tests) in
    let positive = divisor_positive c.args.number c.args.divisor c.requires.nonzero c.requires.divides in
    let fits = c.ranges.number in
    let result_fits = quot_fits w128 c.args.number (pos c.args.divisor) c.ranges.number (omega (arith, ints)) in
    simp (to_z-of_z, to_z_pos) (exact_quotient c.args.number c.args.divisor c.requires.divides)
