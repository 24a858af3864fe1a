-- The bits of a number, each a variable of a system.
use Rattle.std.specs.Prelude.{◌≡◌, ℕ, zero, suc, ◌+◌, ◌/◌, ◌%◌, ◌^◌, ◌<◌, ◌≤◌, ℤ, pos, neg_ℤ, List, [], ◌∷◌}
use Rattle.mix_system.specs.declared.row.Part.{Part}
use Rattle.mix_system.specs.Row.{number_at}
use Rattle.bit_rows.specs.declared.bits.BitVars.{BitVars}
use Rattle.bit_rows.specs.declared.bits.BitVars.TheVariants.{Helpers, Literal}
use Rattle.wrap_rows.specs.Layout.{times}

-- the bits of a number, the lowest first
abbrev pub bits_of : (width number : ℕ) → List ℤ
bits_of zero number = []
bits_of (suc width) number = pos (number % 2) ∷ bits_of width (number / 2)

-- the ranges of so many bits
abbrev pub bit_ranges : ℕ → List (ℤ × ℤ)
bit_ranges zero = []
bit_ranges (suc count) = (pos 0, pos 1) ∷ bit_ranges count

-- ---- the equation of a number and its bits, which stand one behind the other from a variable on

-- 2^place times the bit at each place, taken away
abbrev pub minus_bits : (width place first : ℕ) → List Part
minus_bits zero place first = []
minus_bits (suc width) place first = times (neg_ℤ (pos (2 ^ place))) first ∷ minus_bits width (place + 1) (first + 1)

-- the number less the sum of its bits
abbrev pub bits_row : (width number first : ℕ) → List Part
bits_row width number first = times (pos 1) number ∷ minus_bits width 0 first

-- ---- where the bits stand: a literal's are the variables 0 and 1, which are no others than these numbers

-- the variable of the lowest bit
abbrev pub lowest : BitVars → ℕ
lowest (Helpers first) = first
lowest (Literal number) = number % 2

-- and the other bits
abbrev pub others : BitVars → BitVars
others (Helpers first) = Helpers (first + 1)
others (Literal number) = Literal (number / 2)

-- at a point these variables are the bits of the number
abbrev pub HaveBits : (width : ℕ) → BitVars → ℕ → List ℤ → Type 0
HaveBits zero bits number point = Unit {0}
HaveBits (suc width) bits number point = (number_at point (lowest bits) ≡ pos (number % 2)) × HaveBits width (others bits) (number / 2) point

-- so many of them stand among the first so many variables
abbrev pub StandBefore : (width vars : ℕ) → BitVars → Type 0
StandBefore width vars (Helpers first) = first + width ≤ vars
StandBefore width vars (Literal number) = 1 < vars
