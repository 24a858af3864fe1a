-- Numbers in lowest terms, and the value that they are.
use Rattle.std.proofs.Common.{◌≡◌, ℕ, zero, suc, ◌*◌, ◌<◌, ◌^◌, List, [], ◌∷◌, length, get_or, Result, Ok, Err, FitsSigned, ℤ, pos, negsuc, ◌-ℤ◌, ◌*ℤ◌, ◌≤ℤ◌, sym, ap, ◌∙◌, subst, arith}
use Rattle.std.specs.Prelude.{unsigned_abs, IfOk, IfErr}
use Rattle.tableau_rows.specs.declared.equation.Equation.{Equation}
use Rattle.std.specs.Int.{◌∣◌, IsGcd, w128}
use Rattle.std.proofs.lemmas.List.{get_or_default}
use Rattle.mix_system.specs.Row.{number_at}
use Rattle.std.proofs.lemmas.Int.{ints, unsigned_abs-mul}
use Rattle.std.proofs.Math.Nat.{mul-dvd-mul_right, dvd_of_mul-dvd-mul_right, one-mul}
use Rattle.tableau_rows.proofs.RingLaws.{mul_comm, mul_assoc, mul-sub, mul-eq-zero}

swapped : (a b c : ℤ) → a *ℤ (b *ℤ c) ≡ b *ℤ (a *ℤ c)
swapped a b c = sym (mul_assoc a b c) ∙ ap (λ z. z *ℤ c) (mul_comm a b) ∙ mul_assoc b a c

-- a factor other than 0 is left out of an equation
pub cancel_equal : (d x y : ℤ) → pos 1 ≤ℤ d → d *ℤ x ≡ d *ℤ y → x ≡ y
cancel_equal d x y positive same =
    let none : x -ℤ y ≡ pos 0 = mul-eq-zero d (x -ℤ y) (λ e. absurd (omega (arith, ints, e, positive))) (omega (arith, ints, mul-sub d x y, same)) in
    omega (arith, ints, none)

-- two numbers that were divided by their greatest common divisor
pub quotients_cross : (n d g a b : ℤ) → n ≡ a *ℤ g → d ≡ b *ℤ g → a *ℤ d ≡ n *ℤ b
quotients_cross n d g a b is_n is_d =
    ap (λ z. a *ℤ z) (is_d ∙ mul_comm b g) ∙ sym (mul_assoc a g b) ∙ ap (λ z. z *ℤ b) (sym is_n)

pub quotients_lowest : (n d a b : ℤ) (g : ℕ) → 0 < g → IsGcd (unsigned_abs n) (unsigned_abs d) g → n ≡ a *ℤ pos g → d ≡ b *ℤ pos g → (e : ℕ) → e ∣ unsigned_abs a → e ∣ unsigned_abs b → e ∣ 1
quotients_lowest n d a b g positive gcd is_n is_d e of_a of_b =
    let in_n = subst (λ m. e * g ∣ m) (sym (ap unsigned_abs is_n ∙ unsigned_abs-mul a (pos g))) (mul-dvd-mul_right e of_a g) in
    let in_d = subst (λ m. e * g ∣ m) (sym (ap unsigned_abs is_d ∙ unsigned_abs-mul b (pos g))) (mul-dvd-mul_right e of_b g) in
    let multiple : e * g ∣ g = gcd.2 (e * g) in_n in_d in
    dvd_of_mul-dvd-mul_right e {n = 1} positive (subst (λ n. e * g ∣ n) (sym (one-mul g)) multiple)

-- one value over three denominators
pub ratio_value : (num den n d value common : ℤ) → pos 1 ≤ℤ d → num *ℤ d ≡ n *ℤ den → d *ℤ value ≡ common *ℤ n → num *ℤ common ≡ value *ℤ den
ratio_value num den n d value common positive ratio same =
    cancel_equal d (num *ℤ common) (value *ℤ den) positive
    (sym (mul_assoc d num common) ∙ ap (λ z. z *ℤ common) (mul_comm d num ∙ ratio) ∙ mul_assoc n den common ∙ ap (λ z. n *ℤ z) (mul_comm den common) ∙ sym (mul_assoc n common den)
    ∙ ap (λ z. z *ℤ den) (mul_comm n common ∙ sym same) ∙ mul_assoc d value den)

pub size_of_positive : (d : ℤ) → pos 1 ≤ℤ d → FitsSigned w128 d → (0 < unsigned_abs d) × (unsigned_abs d < 2 ^ 127)
size_of_positive (pos n) positive fits = (omega (arith, ints), omega (arith, ints))
size_of_positive (negsuc n) positive fits = absurd (omega (arith, ints))

pub positive_quotient : (d b : ℤ) (g : ℕ) → pos 1 ≤ℤ d → d ≡ b *ℤ pos g → pos 1 ≤ℤ b
positive_quotient d (pos zero) g positive is = absurd (omega (arith, ints, is, positive))
positive_quotient d (pos (suc n)) g positive is = omega (arith, ints)
positive_quotient d (negsuc n) zero positive is = absurd (omega (arith, ints, is, positive))
positive_quotient d (negsuc n) (suc g) positive is = absurd (omega (arith, ints, is, positive))

pub read_number : (values : List ℤ) (i : ℕ) (x : ℤ) → i < length values → x ≡ get_or values i x → x ≡ number_at values i
read_number values i x within is = is ∙ get_or_default values i x (pos 0) within

pub ok_weaker : {A E : Type 0} {P Q : A → Type 0} (r : Result A E) → ((x : A) → P x → Q x) → IfOk r P → IfOk r Q
ok_weaker (Ok x) f h = f x h
ok_weaker (Err e) f h = h

pub with_row : {Q : Type 0} (rows : List Equation) (at : ℕ) → at < length rows → (Equation → Q) → Q
with_row [] at within f = absurd (omega arith)
with_row (row ∷ rows) at within f = f row

pub err_weaker : {A E : Type 0} {P Q : E → Type 0} (r : Result A E) → ((x : E) → P x → Q x) → IfErr r P → IfErr r Q
err_weaker (Ok x) f h = h
err_weaker (Err e) f h = f e h
