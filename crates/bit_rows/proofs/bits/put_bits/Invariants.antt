use Rattle.std.proofs.Common.{◌≡◌, ◌+◌, ◌-◌}
use Rattle.wrap_rows.specs.Piece.{put_from}
use Rattle.bit_rows.specs.Bits.{bits_of}
use Rattle.bit_rows.proofs.bits.put_bits.Given as goal

-- with the bits that are left put in, it is the whole
abbrev pub invariant-loop-place : goal.invariant-loop-place
invariant-loop-place l =
    put_from (l.first + l.place) (bits_of (l.width - l.place) l.rest) l.point ≡ put_from l.first (bits_of l.width l.number) l.initial.point
