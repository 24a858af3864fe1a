use Rattle.std.proofs.Common.{◌≡◌, ◌+◌, ◌/◌, length, arith}
use Rattle.std.specs.Int.Digits.{digits_of}
use Rattle.std.proofs.lemmas.Int.Digits.{length-digits_of_step, length-digits_of-le}
use Rattle.trail_bounds.proofs.depth.digits.Goals as goal

pub overflow_add-count : goal.overflow_add-count
overflow_add-count c =
    let few = length-digits_of-le 2 128 c.args.number (omega arith) c.ranges.number.fits in
    omega (arith, few, c.loop-left.invariant)

pub loop-left-preserved : goal.loop-left-preserved
loop-left-preserved c =
    let step = length-digits_of_step 2 c.loop-left.left (omega arith) (omega (arith, c.loop-left-test.true)) in
    let next : c.loop-left.count + 1 + length (digits_of 2 (c.loop-left.left / 2)) ≡ length (digits_of 2 c.args.number) = omega (arith, step, c.loop-left.invariant) in
    next

pub returns-clause-few : goal.returns-clause-few
returns-clause-few c =
    let few = length-digits_of-le 2 128 c.args.number (omega arith) c.ranges.number.fits in
    omega (arith, few, c.loop-left.invariant)
