-- Products of whole numbers: of a sum, of a negation, and in order.
use Rattle.std.proofs.Common.{◌≡◌, zero, suc, ℤ, pos, negsuc, neg_ℤ, ◌+ℤ◌, ◌-ℤ◌, ◌*ℤ◌, ◌≤ℤ◌, ap, ◌∙◌, ap₂, arith}
use Rattle.std.proofs.Math.IntN.{*ℤ_comm, *ℤ-zero, zero-*ℤ, suc_ℤ-*ℤ, pred_ℤ-*ℤ, +ℤ_one, -ℤ_one, +ℤ_invl, +ℤ_idl, ℤ_ind}
use Rattle.std.proofs.lemmas.Int.{ints}

-- one more, and one less, of a number
one_more-*ℤ : (a c : ℤ) → (a +ℤ pos 1) *ℤ c ≡ a *ℤ c +ℤ c
one_more-*ℤ a c = ap (λ n. n *ℤ c) (+ℤ_one a) ∙ suc_ℤ-*ℤ a c

one_less-*ℤ : (a c : ℤ) → (a -ℤ pos 1) *ℤ c ≡ a *ℤ c -ℤ c
one_less-*ℤ a c = ap (λ n. n *ℤ c) (-ℤ_one a) ∙ pred_ℤ-*ℤ a c

one_later : (a b : ℤ) → (a +ℤ pos 1) +ℤ b ≡ (a +ℤ b) +ℤ pos 1
one_later a b = omega (arith, ints)

less_later : (a b : ℤ) → (a -ℤ pos 1) +ℤ b ≡ (a +ℤ b) -ℤ pos 1
less_later a b = omega (arith, ints)

pub add-*ℤ : (a b c : ℤ) → (a +ℤ b) *ℤ c ≡ a *ℤ c +ℤ b *ℤ c
add-*ℤ a b c =
    ℤ_ind (λ a. (a +ℤ b) *ℤ c ≡ a *ℤ c +ℤ b *ℤ c)
    (omega (arith, ints, zero-*ℤ c, ap (λ n. n *ℤ c) (+ℤ_idl b)))
    (λ n h. omega (arith, ints, ap (λ m. m *ℤ c) (one_later (pos n) b), one_more-*ℤ (pos n +ℤ b) c, one_more-*ℤ (pos n) c, h))
    (λ n h. omega (arith, ints, ap (λ m. m *ℤ c) (less_later (neg_ℤ (pos n)) b), one_less-*ℤ (neg_ℤ (pos n) +ℤ b) c, one_less-*ℤ (neg_ℤ (pos n)) c, h))
    a

pub *ℤ-add : (a b c : ℤ) → c *ℤ (a +ℤ b) ≡ c *ℤ a +ℤ c *ℤ b
*ℤ-add a b c = *ℤ_comm c (a +ℤ b) ∙ add-*ℤ a b c ∙ ap₂ (λ m n. m +ℤ n) (*ℤ_comm a c) (*ℤ_comm b c)

pub *ℤ-neg_ℤ : (a c : ℤ) → c *ℤ neg_ℤ a ≡ neg_ℤ (c *ℤ a)
*ℤ-neg_ℤ a c =
    let sum : c *ℤ (neg_ℤ a +ℤ a) ≡ c *ℤ neg_ℤ a +ℤ c *ℤ a = *ℤ-add (neg_ℤ a) a c in
    let none : c *ℤ (neg_ℤ a +ℤ a) ≡ pos 0 = ap (λ n. c *ℤ n) (+ℤ_invl a) ∙ *ℤ-zero c in
    omega (arith, ints)

pub neg_ℤ-*ℤ : (a c : ℤ) → neg_ℤ a *ℤ c ≡ neg_ℤ (a *ℤ c)
neg_ℤ-*ℤ a c = *ℤ_comm (neg_ℤ a) c ∙ *ℤ-neg_ℤ a c ∙ ap neg_ℤ (*ℤ_comm c a)

pub *ℤ_assoc : (a b c : ℤ) → (a *ℤ b) *ℤ c ≡ a *ℤ (b *ℤ c)
*ℤ_assoc a b c =
    ℤ_ind (λ a. (a *ℤ b) *ℤ c ≡ a *ℤ (b *ℤ c))
    (omega (arith, ints, ap (λ n. n *ℤ c) (zero-*ℤ b), zero-*ℤ c, zero-*ℤ (b *ℤ c)))
    (λ n h. omega (arith, ints, ap (λ m. m *ℤ c) (one_more-*ℤ (pos n) b), add-*ℤ (pos n *ℤ b) b c, one_more-*ℤ (pos n) (b *ℤ c), h))
    (λ n h. omega (arith, ints, ap (λ m. m *ℤ c) (one_less-*ℤ (neg_ℤ (pos n)) b), add-*ℤ (neg_ℤ (pos n) *ℤ b) (neg_ℤ b) c, neg_ℤ-*ℤ b c, one_less-*ℤ (neg_ℤ (pos n)) (b *ℤ c), h))
    a

-- a number of 0 or more keeps the order
pub le-*ℤ : (c a b : ℤ) → pos 0 ≤ℤ c → a ≤ℤ b → (c *ℤ a) ≤ℤ (c *ℤ b)
le-*ℤ (pos zero) a b above le = omega (arith, ints, zero-*ℤ a, zero-*ℤ b)
le-*ℤ (pos (suc n)) a b above le =
    let more_a = suc_ℤ-*ℤ (pos n) a in
    let more_b = suc_ℤ-*ℤ (pos n) b in
    omega (arith, ints, more_a, more_b, le-*ℤ (pos n) a b (omega (arith, ints)) le)
le-*ℤ (negsuc n) a b above le = absurd (omega (arith, ints))
