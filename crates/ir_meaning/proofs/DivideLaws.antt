-- Quotients rounded towards zero, and what they leave.
use Rattle.std.proofs.Common.{◌≡◌, ℕ, zero, suc, ◌/◌, ◌%◌, ◌≤◌, ℤ, pos, negsuc, neg_ℤ, ◌-ℤ◌, ◌*ℤ◌, refl, arith}
use Rattle.std.specs.Prelude.{unsigned_abs, int_div, int_rem}
use Rattle.std.proofs.Math.Nat.{div-le_self, mod-le}
use Rattle.std.proofs.Math.IntN.{*ℤ_comm}
use Rattle.std.proofs.lemmas.Int.{ints, quot-rem}

size-neg : (n : ℕ) → unsigned_abs (neg_ℤ (pos n)) ≡ n
size-neg zero = refl
size-neg (suc n) = refl

-- a quotient is at most the dividend in size
pub quotient_size : (a d : ℤ) → unsigned_abs (int_div a d) ≤ unsigned_abs a
quotient_size (pos a) (pos d) = div-le_self a d
quotient_size (pos a) (negsuc d) = rw (size-neg (a / suc d)) (div-le_self a (suc d))
quotient_size (negsuc a) (pos d) = rw (size-neg (suc a / d)) (div-le_self (suc a) d)
quotient_size (negsuc a) (negsuc d) = div-le_self (suc a) (suc d)

pub quotient_bound : (a d : ℤ) (n : ℕ) → unsigned_abs a ≤ n → unsigned_abs (int_div a d) ≤ n
quotient_bound a d n small = omega (arith, quotient_size a d)

-- so is what it leaves
rest_size : (a d : ℤ) → unsigned_abs (int_rem a d) ≤ unsigned_abs a
rest_size (pos a) d = mod-le a (unsigned_abs d)
rest_size (negsuc a) d = rw (size-neg (suc a % unsigned_abs d)) (mod-le (suc a) (unsigned_abs d))

pub rest_bound : (a d : ℤ) (n : ℕ) → unsigned_abs a ≤ n → unsigned_abs (int_rem a d) ≤ n
rest_bound a d n small = omega (arith, rest_size a d)

-- what the quotient leaves
pub rest-is : (a d : ℤ) → a -ℤ (d *ℤ int_div a d) ≡ int_rem a d
rest-is a d = omega (arith, ints, quot-rem a d, *ℤ_comm d (int_div a d))
