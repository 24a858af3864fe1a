use Rattle.std.proofs.Common.{length, ap, ◌∷◌, [], pos, to_z, of_z, length-append, arith}
use Rattle.std.specs.Int.{w128}
use Rattle.mix_system.specs.System.{System}
use Rattle.bit_rows.proofs.LayingLaws.{ranges_count}
use Rattle.bit_rows.proofs.bitwise.BitwisePiece.declare.Goals as goal

pub add_bit_vars-requires : goal.add_bit_vars-requires
add_bit_vars-requires c =
    omega (
      arith,
      c.requires.room,
      ranges_count c.args.self.now,
      c.helper_count.ensures,
      ap {A = System} (λ s. length s.ranges) c.in_ok-first.ensures.ok,
      ap {A = System} (λ s. length s.ranges) c.in_ok-add_var.ensures.ok,
      length-append c.args.into.now.ranges ((pos 0, to_z w128 (of_z w128 c.greatest.result)) ∷ []),
      length-append c.add_var.new.self.ranges ((pos 0, pos 1) ∷ []),
    )
