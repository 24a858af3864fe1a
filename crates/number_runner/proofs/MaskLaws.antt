-- The bits of the numbers of a width.
use Rattle.std.proofs.Common.{◌≡◌, ◌+◌, ◌-◌, ◌*◌, ◌/◌, ◌%◌, ◌^◌, ◌<◌, ℕ, zero, suc, ap, ◌∙◌, arith}
use Rattle.std.specs.Prelude.{bit_and}
use Rattle.std.proofs.Math.Nat.{mod-lt}
use Rattle.std.proofs.lemmas.Nat.{and_mask, pow-add, pow_pos}

pub doubled : (width : ℕ) → 0 < width → 2 ^ width ≡ 2 ^ (width - 1) * 2
doubled width some = let split : width ≡ width - 1 + 1 = omega (arith, some) in ap (λ (k : ℕ). 2 ^ k) split ∙ pow-add 2 (width - 1) 1

pub half_is : (bits width : ℕ) → bits + 1 ≡ 2 ^ width → bits / 2 + 1 ≡ 2 ^ (width - 1)
half_is bits zero is = let none : bits ≡ 0 = omega (arith, is) in ap (λ (n : ℕ). n / 2 + 1) none
half_is bits (suc width) is = let all = doubled (suc width) (omega arith) in omega (arith, is, all)

pub low_is : (number bits width : ℕ) → bits + 1 ≡ 2 ^ width → bit_and number bits ≡ number % 2 ^ width
low_is number bits width is = let all : bits ≡ 2 ^ width - 1 = omega (arith, is) in ap (bit_and number) all ∙ and_mask number width

pub low_fits : (number bits width : ℕ) → bits + 1 ≡ 2 ^ width → bits < 2 ^ 32 → bit_and number bits < 2 ^ 32
low_fits number bits width is small =
    let below = mod-lt number (pow_pos width) in
    let same = low_is number bits width is in
    omega (arith, is, small, below, same)
