use Rattle.std.proofs.Common.{◌≡◌, zero, suc, ◌+◌, ◌-◌, ◌/◌, ◌%◌, pos, slice_set, to_z, of_z, rules, ap, ◌∙◌, arith}
use Rattle.std.specs.Int.{w128}
use Rattle.std.proofs.lemmas.Int.{to_z-of_z}
use Rattle.wrap_rows.specs.Piece.{put_from}
use Rattle.bit_rows.specs.Bits.{bits_of}
use Rattle.bit_rows.proofs.bits.put_bits.Goals as goal

pub loop-place-preserved : goal.loop-place-preserved
loop-place-preserved c =
    let point = c.loop-place.point in
    let rest = c.loop-place.rest in
    let here = c.args.first + c.loop-place.place in
    let k = c.args.width - (c.loop-place.place + 1) in
    let left : suc k ≡ c.args.width - c.loop-place.place = omega arith in
    let next : c.args.first + (c.loop-place.place + 1) ≡ here + 1 = omega arith in
    let bit : to_z w128 (of_z w128 c.from.result) ≡ pos (rest % 2) = search (rules, to_z-of_z) in
    ap (λ at. put_from at (bits_of k (rest / 2)) (slice_set point here (to_z w128 (of_z w128 c.from.result)))) next
    ∙ ap (λ number. put_from (here + 1) (bits_of k (rest / 2)) (slice_set point here number)) bit
    ∙ ap (λ j. put_from here (bits_of j rest) point) left
    ∙ c.loop-place.invariant

pub returns : goal.returns
returns c =
    let none : zero ≡ c.args.width - c.loop-place.place = omega arith in
    ap (λ k. put_from (c.args.first + c.loop-place.place) (bits_of k c.loop-place.rest) c.loop-place.point) none ∙ c.loop-place.invariant
