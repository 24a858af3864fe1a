-- Laws of products of whole numbers.
use Rattle.std.proofs.Common.{◌≡◌, ◌≢◌, ◌+◌, ◌*◌, ℕ, zero, suc, ℤ, pos, negsuc, ◌+ℤ◌, ◌-ℤ◌, ◌*ℤ◌, neg_ℤ, arith, refl, ap, ◌∙◌}
use Rattle.std.proofs.lemmas.Int.{ints}
use Rattle.std.proofs.Math.IntN.{*ℤ_comm}
use borrow.Author.Differences.{up, down, sum_is_lem, product_is, neg_is}

crossed : (x y c d : ℕ) → x ≡ y → x * c + y * d ≡ y * c + x * d
crossed x y c d e = rw e refl

pub mul_comm : (a b : ℤ) → a *ℤ b ≡ b *ℤ a
mul_comm a b = *ℤ_comm a b

pub add-mul : (a b c : ℤ) → (a +ℤ b) *ℤ c ≡ a *ℤ c +ℤ b *ℤ c
add-mul a b c =
    let h = crossed (up (a +ℤ b) + down a + down b) (down (a +ℤ b) + up a + up b) (up c) (down c) (sum_is_lem a b) in
    omega (arith, ints, h)

pub mul-add : (a b c : ℤ) → a *ℤ (b +ℤ c) ≡ a *ℤ b +ℤ a *ℤ c
mul-add a b c = mul_comm a (b +ℤ c) ∙ add-mul b c a ∙ (λ i. mul_comm b a i +ℤ mul_comm c a i)

pub neg-mul : (a b : ℤ) → neg_ℤ a *ℤ b ≡ neg_ℤ (a *ℤ b)
neg-mul a b =
    let n = neg_is a in
    let u : (x : ℕ) → up (neg_ℤ a) * x ≡ down a * x = λ x. ap (λ y. y * x) (n.0) in
    let d : (x : ℕ) → down (neg_ℤ a) * x ≡ up a * x = λ x. ap (λ y. y * x) (n.1) in
    omega (arith, ints, u (up b), u (down b), d (up b), d (down b))

pub mul-neg : (a b : ℤ) → a *ℤ neg_ℤ b ≡ neg_ℤ (a *ℤ b)
mul-neg a b = mul_comm a (neg_ℤ b) ∙ neg-mul b a ∙ ap neg_ℤ (mul_comm b a)

pub mul-sub : (a b c : ℤ) → a *ℤ (b -ℤ c) ≡ a *ℤ b -ℤ a *ℤ c
mul-sub a b c = mul-add a b (neg_ℤ c) ∙ ap (λ x. a *ℤ b +ℤ x) (mul-neg a c)

pub sub-mul : (a b c : ℤ) → (a -ℤ b) *ℤ c ≡ a *ℤ c -ℤ b *ℤ c
sub-mul a b c = add-mul a (neg_ℤ b) c ∙ ap (λ x. a *ℤ c +ℤ x) (neg-mul b c)

pub mul_assoc : (a b c : ℤ) → (a *ℤ b) *ℤ c ≡ a *ℤ (b *ℤ c)
mul_assoc a b c =
    let ab = product_is a b in
    let bc = product_is b c in
    let u : (x : ℕ) → up (a *ℤ b) * x ≡ (up a * up b + down a * down b) * x = λ x. ap (λ y. y * x) (ab.0) in
    let d : (x : ℕ) → down (a *ℤ b) * x ≡ (up a * down b + down a * up b) * x = λ x. ap (λ y. y * x) (ab.1) in
    let v : (x : ℕ) → x * up (b *ℤ c) ≡ x * (up b * up c + down b * down c) = λ x. ap (λ y. x * y) (bc.0) in
    let w : (x : ℕ) → x * down (b *ℤ c) ≡ x * (up b * down c + down b * up c) = λ x. ap (λ y. x * y) (bc.1) in
    omega (arith, ints, u (up c), u (down c), d (up c), d (down c), v (up a), v (down a), w (up a), w (down a))

-- a factor that isn't 0 is left out
pub mul-eq-zero : (k a : ℤ) → k ≢ pos 0 → k *ℤ a ≡ pos 0 → a ≡ pos 0
mul-eq-zero (pos zero) a nonzero e = absurd (nonzero refl)
mul-eq-zero (pos (suc k)) (pos zero) nonzero e = refl
mul-eq-zero (pos (suc k)) (pos (suc a)) nonzero e = absurd (omega (arith, ints, e))
mul-eq-zero (pos (suc k)) (negsuc a) nonzero e = absurd (omega (arith, ints, e))
mul-eq-zero (negsuc k) (pos zero) nonzero e = refl
mul-eq-zero (negsuc k) (pos (suc a)) nonzero e = absurd (omega (arith, ints, e))
mul-eq-zero (negsuc k) (negsuc a) nonzero e = absurd (omega (arith, ints, e))
