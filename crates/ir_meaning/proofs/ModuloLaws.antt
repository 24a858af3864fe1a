-- The laws of `modulo`.
use Rattle.std.proofs.Common.{◌≡◌, ℕ, suc, ◌+◌, ◌-◌, ◌*◌, ◌/◌, ◌%◌, ◌^◌, ◌<◌, ◌≤◌, ℤ, pos, negsuc, ◌+ℤ◌, ◌∙◌, ap, arith}
use Rattle.std.proofs.lemmas.Nat.{mod-mul-add, div-add-mod', mod_below, pow-add, pow_pos, div_below}
use Rattle.std.proofs.lemmas.Int.{ints}
use Rattle.ir_meaning.specs.Whole.{modulo}

-- what a number leaves below 2^width, where it is so many multiples and a number below
left_below : (p k x n : ℕ) → x < p → n ≡ k * p + x → n % p ≡ x
left_below p k x n below is = ap (λ m. m % p) is ∙ mod-mul-add k p x below

-- a number that differs from a natural number of the width by multiples of 2^width
pub modulo-pos : (width k x n : ℕ) → x < 2 ^ width → n ≡ k * 2 ^ width + x → modulo width (pos n) ≡ x
modulo-pos width k x n below is = left_below (2 ^ width) k x n below is

pub modulo-negsuc : (width k x n : ℕ) → x < 2 ^ width → n + x + 1 ≡ k * 2 ^ width + 2 ^ width → modulo width (negsuc n) ≡ x
modulo-negsuc width k x n below is =
    let p = 2 ^ width in
    let rest = left_below (2 ^ width) k (2 ^ width - 1 - x) n (omega arith) (omega arith) in
    omega (arith, rest)

-- 2^32 is so many times 2^width
pub shared : (width : ℕ) → width ≤ 32 → 2 ^ 32 ≡ 2 ^ (32 - width) * 2 ^ width
shared width small = let split : 32 ≡ 32 - width + width = omega arith in ap (λ k. 2 ^ k) split ∙ pow-add 2 (32 - width) width

raised_up : (p k whole m n : ℕ) → 0 < p → whole ≡ k * p → n ≡ m + whole → n % p ≡ m % p
raised_up p k whole m n above is sum =
    left_below p (k + m / p) (m % p) n (mod_below m p above) (omega (arith, div-add-mod' m p))

raised_down : (p k whole m n : ℕ) → 0 < p → whole ≡ k * p → n + suc m ≡ whole → n % p ≡ p - 1 - m % p
raised_down p k whole m n above is sum =
    let below : m % p < p = mod_below m p above in
    let split = div-add-mod' m p in
    let enough : m / p < k = div_below m p k above (omega arith) in
    let count : k ≡ k - 1 - m / p + 1 + m / p = omega arith in
    let spread : k * p ≡ (k - 1 - m / p + 1 + m / p) * p = ap (λ j. j * p) count in
    left_below p (k - 1 - m / p) (p - 1 - m % p) n (omega arith) (omega (arith, spread, split, below))

-- `z` raised by multiples of 2^width leaves the same below it
pub modulo-raised : (width k whole n : ℕ) (z : ℤ) → whole ≡ k * 2 ^ width → pos n ≡ z +ℤ pos whole → n % 2 ^ width ≡ modulo width z
modulo-raised width k whole n (pos m) is sum = raised_up (2 ^ width) k whole m n (pow_pos width) is (omega (arith, ints, sum))
modulo-raised width k whole n (negsuc m) is sum =
    raised_down (2 ^ width) k whole m n (pow_pos width) is (omega (arith, ints, sum))

pub modulo-below : (width : ℕ) (z : ℤ) → modulo width z < 2 ^ width
modulo-below width (pos n) = mod_below n (2 ^ width) (pow_pos width)
modulo-below width (negsuc n) = omega (arith, pow_pos width)
