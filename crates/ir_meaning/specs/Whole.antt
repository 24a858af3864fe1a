-- Whole numbers without a bound, and how a width reads them. A number of width w lies in 0 .. 2^w - 1.
use Rattle.std.specs.Prelude.{ℕ, zero, suc, ◌+◌, ◌-◌, ◌*◌, ◌/◌, ◌%◌, ◌^◌, ◌≤◌, Bool, ◌&&◌, nat_lt, if◌then◌else◌, ℤ, pos, negsuc, neg_ℤ, ◌-ℤ◌, ◌*ℤ◌, int_lt, int_le, int_div}

-- the widths of integer types
pub record IsWidth (width : ℕ) : Type 0 where
  pub least : 1 ≤ width
  pub greatest : width ≤ 32

-- the signed reading of a number of the width: from 2^(width - 1) on it stands for itself less 2^width
abbrev pub signed : ℕ → ℕ → ℤ
signed width x = if nat_lt x (2 ^ (width - 1)) then pos x else (pos x -ℤ pos (2 ^ width))

-- a whole number modulo 2^width: the number of the width that differs from it by a multiple of 2^width
abbrev pub modulo : ℕ → ℤ → ℕ
modulo width (pos n) = n % 2 ^ width
modulo width (negsuc n) = 2 ^ width - 1 - n % 2 ^ width

-- the quotient rounded down
abbrev pub floor : ℤ → ℕ → ℤ
floor (pos n) divisor = pos (n / divisor)
floor (negsuc n) divisor = negsuc (n / divisor)

-- the quotient of the signed readings, rounded towards zero, and what it leaves
abbrev pub quotient : ℕ → ℕ → ℕ → ℤ
quotient width a c = int_div (signed width a) (signed width c)

abbrev pub remainder : ℕ → ℕ → ℕ → ℤ
remainder width a c = signed width a -ℤ (signed width c *ℤ quotient width a c)

-- whether a whole number lies in 0 .. 2^width - 1
abbrev pub is_unsigned : ℕ → ℤ → Bool
is_unsigned width z = int_le (pos 0) z && int_lt z (pos (2 ^ width))

-- whether a whole number lies in -2^(width - 1) .. 2^(width - 1) - 1
abbrev pub is_signed : ℕ → ℤ → Bool
is_signed width z = int_le (neg_ℤ (pos (2 ^ (width - 1)))) z && int_lt z (pos (2 ^ (width - 1)))

-- the number whose bits are each given by the bits of two numbers at the same place, the lowest first
abbrev pub by_bits : ℕ → (ℕ → ℕ → ℕ) → ℕ → ℕ → ℕ
by_bits zero bit a b = 0
by_bits (suc width) bit a b = bit (a % 2) (b % 2) + 2 * by_bits width bit (a / 2) (b / 2)
