-- Numbers that differ by a multiple of 2^width, and signed readings.
use Rattle.std.proofs.Common.{◌≡◌, ℕ, ◌-◌, ◌^◌, ◌<◌, ◌≤◌, ℤ, pos, negsuc, ◌+ℤ◌, ◌-ℤ◌, ◌<ℤ◌, ◌≤ℤ◌, ◌⊎◌, inl, inr, ◌∙◌, arith}
use Rattle.std.specs.Prelude.{int_lt, if◌then◌else◌, unsigned_abs}
use Rattle.std.proofs.lemmas.Bool.Decides.{nat_tests}
use Rattle.std.proofs.lemmas.Int.{ints, by_lt_z}
use Rattle.ir_meaning.specs.Whole.{signed, modulo}
use Rattle.ir_meaning.proofs.ModuloLaws.{modulo-pos, modulo-negsuc}
use Rattle.wrap_rows.specs.Blocks.{sign_of}
use Rattle.wrap_rows.specs.Vars.{IsNumber}

pub number_of : (z : ℤ) → pos 0 ≤ℤ z → pos (unsigned_abs z) ≡ z
number_of z above = omega (arith, ints)

pub modulo_same : (width : ℕ) (z x : ℤ) → IsNumber width x → z ≡ x → modulo width z ≡ unsigned_abs x
modulo_same width (pos n) x is_x same = modulo-pos width 0 (unsigned_abs x) n (omega (arith, ints, is_x.0, is_x.1)) (omega (arith, ints, same))
modulo_same width (negsuc n) x is_x same = absurd (omega (arith, ints, is_x.0, same))

pub modulo_above : (width : ℕ) (z x : ℤ) → IsNumber width x → z ≡ x +ℤ pos (2 ^ width) → modulo width z ≡ unsigned_abs x
modulo_above width (pos n) x is_x more = modulo-pos width 1 (unsigned_abs x) n (omega (arith, ints, is_x.0, is_x.1)) (omega (arith, ints, more, is_x.0))
modulo_above width (negsuc n) x is_x more = absurd (omega (arith, ints, is_x.0, more))

pub modulo_below : (width : ℕ) (z x : ℤ) → IsNumber width x → z ≡ x -ℤ pos (2 ^ width) → modulo width z ≡ unsigned_abs x
modulo_below width (pos n) x is_x less = absurd (omega (arith, ints, is_x.1, less))
modulo_below width (negsuc n) x is_x less = modulo-negsuc width 0 (unsigned_abs x) n (omega (arith, ints, is_x.0, is_x.1)) (omega (arith, ints, less, is_x.0))

-- the signed reading by the sign
pub record Plain (width n : ℕ) (sign : ℤ) : Type 0 where
  pub sign_is : sign ≡ pos 0
  pub small : n < 2 ^ (width - 1)
  pub reads : signed width n ≡ pos n

pub record Lowered (width n : ℕ) (sign : ℤ) : Type 0 where
  pub sign_is : sign ≡ pos 1
  pub large : 2 ^ (width - 1) ≤ n
  pub reads : signed width n ≡ pos n -ℤ pos (2 ^ width)

plain_reads : (width n : ℕ) → n < 2 ^ (width - 1) → signed width n ≡ pos n
plain_reads width n below = grind (arith, nat_tests)

lowered_reads : (width n : ℕ) → 2 ^ (width - 1) ≤ n → signed width n ≡ pos n -ℤ pos (2 ^ width)
lowered_reads width n above = grind (arith, nat_tests)

small_sign : (half : ℕ) (number : ℤ) → number <ℤ pos half → (if int_lt number (pos half) then pos 0 else (pos 1)) ≡ pos 0
small_sign half number below = grind (arith, ints)

large_sign : (half : ℕ) (number : ℤ) → pos half ≤ℤ number → (if int_lt number (pos half) then pos 0 else (pos 1)) ≡ pos 1
large_sign half number above = grind (arith, ints)

pub sign_cases : (width n : ℕ) (sign : ℤ) → sign ≡ sign_of width (pos n) → Plain width n sign ⊎ Lowered width n sign
sign_cases width n sign is =
    by_lt_z (pos n) (pos (2 ^ (width - 1)))
    (λ below. inl (record { sign_is = is ∙ small_sign (2 ^ (width - 1)) (pos n) below; small = omega (arith, ints, below); reads = plain_reads width n (omega (arith, ints, below)) }))
    (λ above. inr (record { sign_is = is ∙ large_sign (2 ^ (width - 1)) (pos n) above; large = omega (arith, ints, above); reads = lowered_reads width n (omega (arith, ints, above)) }))
