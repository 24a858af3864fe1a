-- Rows whose parts are taken once.
use Rattle.std.proofs.Common.{◌≡◌, suc, ℤ, pos, negsuc, neg_ℤ, ◌*ℤ◌, ap, ◌∙◌}
use Rattle.std.proofs.Math.IntN.{*ℤ_comm}
use Rattle.std.proofs.Math.Nat.{mul-one}
use Rattle.mix_system.proofs.ProductLaws.{neg_ℤ-*ℤ}

pub times_one : (number : ℤ) → number *ℤ pos 1 ≡ number
times_one (pos n) = ap pos (mul-one n)
times_one (negsuc n) = ap (λ m. neg_ℤ (pos m)) (mul-one (suc n))

pub once : (number : ℤ) → pos 1 *ℤ number ≡ number
once number = *ℤ_comm (pos 1) number ∙ times_one number

pub less_once : (number : ℤ) → neg_ℤ (pos 1) *ℤ number ≡ neg_ℤ number
less_once number = neg_ℤ-*ℤ (pos 1) number ∙ ap neg_ℤ (once number)
