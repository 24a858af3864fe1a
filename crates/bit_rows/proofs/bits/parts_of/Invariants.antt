use Rattle.std.proofs.Common.{◌≡◌, ◌++◌, ◌+◌, ◌-◌}
use Rattle.bit_rows.specs.Bits.{minus_bits, bits_row}
use Rattle.bit_rows.proofs.bits.parts_of.Given as goal

-- what was put and what is left are the whole
abbrev pub invariant-loop-place : goal.invariant-loop-place
invariant-loop-place l = l.parts.items ++ minus_bits (l.width - l.place) l.place (l.first + l.place) ≡ bits_row l.width l.number l.first
