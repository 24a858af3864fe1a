use Rattle.std.proofs.Common.{◌≡◌, ◌++◌, ◌-◌}
use Rattle.bit_rows.specs.Bits.{bit_ranges}
use Rattle.bit_rows.proofs.bits.add_bit_vars.Given as goal

-- what was added and what is left are the whole
abbrev pub invariant-loop : goal.invariant-loop
invariant-loop l =
    record l.into { ranges = l.into.ranges ++ bit_ranges (l.count - l.counter) }
    ≡ record l.initial.into { ranges = l.initial.into.ranges ++ bit_ranges l.count }
