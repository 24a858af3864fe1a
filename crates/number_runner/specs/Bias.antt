-- By how much the numbers of a width are raised, so that their order is that of their readings.
use Rattle.std.specs.Prelude.{ℕ, ◌-◌, ◌^◌, Bool, if◌then◌else◌}

-- signed readings by half of the numbers of the width, others not at all
abbrev pub bias_of : ℕ → Bool → ℕ
bias_of width signed = if signed then 2 ^ (width - 1) else 0
