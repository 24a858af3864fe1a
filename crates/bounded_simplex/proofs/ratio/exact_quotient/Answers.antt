use Rattle.std.proofs.Common.{◌<◌, ◌^◌, pos, arith}
use Rattle.std.specs.Int.{w128}
use Rattle.std.proofs.lemmas.Int.{ints, to_z-of_z, to_z_pos, quot_fits}
use Rattle.tableau_rows.proofs.QuotientLaws.{exact_quotient}
use Rattle.bounded_simplex.proofs.ratio.exact_quotient.Goals as goal

pub returns : goal.returns
returns c =
    let below : c.args.divisor < 2 ^ 127 = c.requires.small in
    let positive : 0 < c.args.divisor = c.requires.positive in
    let fits = c.ranges.number in
    let result_fits = quot_fits w128 c.args.number (pos c.args.divisor) c.ranges.number (omega (arith, ints)) in
    simp (to_z-of_z, to_z_pos) (exact_quotient c.args.number c.args.divisor c.requires.divides)
