use Rattle.std.proofs.Common.{◌+ℤ◌, ◌^◌, ◌<◌, ◌≤◌, FitsSigned, rules, sym, ap, ◌∙◌, arith}
use Rattle.std.specs.Prelude.{unsigned_abs}
use Rattle.std.specs.Int.{w128}
use Rattle.std.proofs.Math.Nat.{pow-le-pow_right}
use Rattle.std.proofs.lemmas.Int.{ints, to_z-of_z, fits_signed_from_abs}
use Rattle.div_rows.proofs.PassedLaws.{sum_passed}
use Rattle.div_rows.proofs.SignedLaws.{half_small}
use Rattle.div_rows.proofs.SignedDivisionLaws.{lifted_low, lifted_high}
use Rattle.div_rows.proofs.signed_division.lifted.Goals as goal

pub returns-then-number-lt0 : goal.returns-then-number-lt0
returns-then-number-lt0 c =
    let width = c.args.width in
    let z = c.args.number in
    let small : 2 ^ width ≤ 2 ^ 32 = pow-le-pow_right {n = 2} (omega arith) {i = width} {j = 32} c.requires.width.greatest in
    let half = half_small width c.requires.width in
    let fits_power : FitsSigned w128 c.power.result = search rules in
    let size : unsigned_abs (z +ℤ c.power.result) < 2 ^ 127 = omega (arith, ints, c.power.ensures, small, half, c.requires.number.0, c.requires.number.1) in
    sum_passed z c.power.result c.ranges.number fits_power (fits_signed_from_abs w128 (z +ℤ c.power.result) size)
    ∙ ap (λ p. z +ℤ p) c.power.ensures
    ∙ sym (lifted_low width z c.requires.width c.requires.number (omega (arith, ints, c.if-number-lt0.true)))

pub returns-else-number-lt0 : goal.returns-else-number-lt0
returns-else-number-lt0 c =
    to_z-of_z w128 c.args.number c.ranges.number
    ∙ sym (lifted_high c.args.width c.args.number c.requires.width c.requires.number (omega (arith, ints, c.if-number-lt0.false)))
