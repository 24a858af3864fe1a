use Rattle.std.proofs.Common.{◌≡◌, pos, length, to_z, of_z, rules, refl, arith}
use Rattle.std.specs.Int.{w128}
use Rattle.std.proofs.Math.ListN.{length-set}
use Rattle.std.proofs.lemmas.Int.{to_z-of_z}
use Rattle.wrap_rows.specs.Piece.{mark_of}
use Rattle.bit_rows.specs.Bitwise.{is_poison}
use Rattle.bit_rows.proofs.LayingLaws.{ranges_count}
use Rattle.bit_rows.proofs.BitwiseLaws.{puts}
use Rattle.bit_rows.proofs.bitwise.Bitwise.put.Goals as goal

pub put-requires-clause-known : goal.put-requires-clause-known
put-requires-clause-known c = rw (length-set, length-set) (omega (arith, c.requires.known, ranges_count c.args.self.now))

pub put-requires-2-clause-known : goal.put-requires-2-clause-known
put-requires-2-clause-known c =
    let same : length c.put.new.point ≡ length c.args.point.now = rw c.put.auto.point (rw (length-set, length-set) refl) in
    omega (arith, c.requires.known, ranges_count c.args.self.now, c.right_at.ensures, same)

pub put_bits-requires-clause-known : goal.put_bits-requires-clause-known
put_bits-requires-clause-known c =
    let same : length c.put.new.point ≡ length c.args.point.now = rw c.put.auto.point (rw (length-set, length-set) refl) in
    omega (arith, c.requires.known, ranges_count c.args.self.now, c.result_at.ensures, same, c.put-2.auto.point)

pub returns : goal.returns
returns c =
    let bitwise = c.args.self.now in
    let number : to_z w128 (of_z w128 c.from.result) ≡ pos c.number-number.result = search (rules, to_z-of_z) in
    let mark : to_z w128 (of_z w128 c.mark_of-mark.result) ≡ mark_of (is_poison bitwise c.args.point.now) = search (rules, to_z-of_z) in
    puts bitwise c.args.first c.right_at.result c.result_at.result c.left-a.result c.right-b.result c.number-number.result c.args.point.now c.put.new.point c.put-2.new.point c.put_bits.new.point _ _
    number mark c.left-a.ensures.value c.right-b.ensures.value c.number-number.ensures c.right_at.ensures c.result_at.ensures c.put.ensures c.put-2.ensures c.put_bits.ensures
