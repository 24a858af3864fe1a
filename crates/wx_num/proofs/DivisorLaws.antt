-- Greatest common divisors: when one is 0, and what is left of them where twos are left out.
use Rattle.std.proofs.Common.{◌≡◌, ◌⊎◌, ◌↔◌, ℕ, zero, suc, ◌+◌, ◌-◌, ◌*◌, ◌/◌, ◌%◌, ◌^◌, ◌<◌, ◌≤◌, min, refl, sym, ap, ◌∙◌, subst, ⊎_elim, mul_comm, mul_assoc, add-mul, pow_pos, pow-add, mod-eq_of_lt, arith}
use Prim.Native.Nat.{◌∣◌}
use Rattle.std.specs.Int.{IsGcd, abs_diff}
use Rattle.std.specs.Int.Count.{count_trailing_zeros}
use Rattle.std.proofs.Math.Nat.{eq-zero_of_zero-dvd, dvd-mul_left, dvd-mul_left_of_dvd, dvd_of_mul-dvd-mul_left, mul-dvd-mul_left, mul-div_cancel', mul-div_cancel_left, pow-succ'}
use Rattle.std.proofs.lemmas.Nat.Gcd.{dvd-zero, dvd_trans, le_of_dvd, IsGcd-swap, IsGcd-from_sub}

pub IsGcd-zero : (a b g : ℕ) → IsGcd a b g → (g ≡ 0) ↔ ((a ≡ 0) × (b ≡ 0))
IsGcd-zero a b g (divides_a, divides_b, greatest) = (
  λ e. (eq-zero_of_zero-dvd (rw e at divides_a), eq-zero_of_zero-dvd (rw e at divides_b)),
  λ z. eq-zero_of_zero-dvd (greatest 0 (rw (z.0) (dvd-zero 0)) (rw (z.1) (dvd-zero 0))),
)

parity : (n : ℕ) → (n % 2 ≡ 0) ⊎ (n % 2 ≡ 1)
parity n = grind arith

-- an even number is twice its half
even_is : (n : ℕ) → n % 2 ≡ 0 → n ≡ 2 * (n / 2)
even_is n even = omega arith

-- a divisor of an odd number is odd
odd_divisor : (d n : ℕ) → n % 2 ≡ 1 → d ∣ n → d % 2 ≡ 1
odd_divisor d n odd divides =
    let whole : d * (n / d) ≡ n = mul-div_cancel' d divides in
    ⊎_elim (λ even.
    let twice : d * (n / d) ≡ 2 * (d / 2 * (n / d)) = ap (λ m. m * (n / d)) (even_is d even) ∙ mul_assoc 2 (d / 2) (n / d) in
    absurd (omega (arith, whole, twice, odd))) (λ yes. yes) (parity d)

-- an odd number that divides twice a number divides that number
odd_dvd-double : (d n : ℕ) → d % 2 ≡ 1 → d ∣ 2 * n → d ∣ n
odd_dvd-double d n odd divides =
    let q = 2 * n / d in
    let whole : q * d ≡ 2 * n = mul_comm q d ∙ mul-div_cancel' d divides in
    ⊎_elim (λ even.
    let twice : q * d ≡ 2 * (q / 2 * d) = ap (λ m. m * d) (even_is q even) ∙ mul_assoc 2 (q / 2) d in
    let is : q / 2 * d ≡ n = omega (arith, whole, twice) in
    subst (λ m. d ∣ m) is (dvd-mul_left d (q / 2)))
    (λ other.
    let one_more : q ≡ 2 * (q / 2) + 1 = omega (arith, other) in
    let twice : q * d ≡ 2 * (q / 2 * d) + 1 * d = ap (λ m. m * d) one_more ∙ add-mul (2 * (q / 2)) 1 d ∙ ap (λ m. m + 1 * d) (mul_assoc 2 (q / 2) d) in
    absurd (omega (arith, whole, twice, odd))) (parity q)

-- a two is left out beside an odd number
IsGcd-double_left : (a b g : ℕ) → b % 2 ≡ 1 → IsGcd a b g → IsGcd (2 * a) b g
IsGcd-double_left a b g odd (divides_a, divides_b, greatest) = (
  dvd_trans g divides_a (dvd-mul_left a 2),
  divides_b,
  λ d twice other. greatest d (odd_dvd-double d a (odd_divisor d b odd other) twice) other,
)

one_two_more : (twos a : ℕ) → 2 * (2 ^ twos * a) ≡ 2 ^ suc twos * a
one_two_more twos a = sym (mul_assoc 2 (2 ^ twos) a) ∙ ap (λ m. m * a) (sym (pow-succ' 2 twos))

-- and so are many
pub IsGcd-twos_left : (twos a b g : ℕ) → b % 2 ≡ 1 → IsGcd a b g → IsGcd (2 ^ twos * a) b g
IsGcd-twos_left zero a b g odd gcd = subst (λ n. IsGcd n b g) (omega arith) gcd
IsGcd-twos_left (suc twos) a b g odd gcd =
    subst (λ n. IsGcd n b g) (one_two_more twos a) (IsGcd-double_left (2 ^ twos * a) b g odd (IsGcd-twos_left twos a b g odd gcd))

-- a two that both have is one of the greatest common divisor
IsGcd-double_both : (a b g : ℕ) → IsGcd a b g → IsGcd (2 * a) (2 * b) (2 * g)
IsGcd-double_both a b g (divides_a, divides_b, greatest) = (
  mul-dvd-mul_left g 2 divides_a,
  mul-dvd-mul_left g 2 divides_b,
  λ d twice_a twice_b.
      ⊎_elim (λ even.
      let is = even_is d even in
      let half_a : d / 2 ∣ a = dvd_of_mul-dvd-mul_left {k = 2} (d / 2) (omega arith) (subst (λ m. m ∣ 2 * a) is twice_a) in
      let half_b : d / 2 ∣ b = dvd_of_mul-dvd-mul_left {k = 2} (d / 2) (omega arith) (subst (λ m. m ∣ 2 * b) is twice_b) in
      subst (λ m. m ∣ 2 * g) (sym is) (mul-dvd-mul_left (d / 2) 2 (greatest (d / 2) half_a half_b)))
      (λ odd. dvd-mul_left_of_dvd d (greatest d (odd_dvd-double d a odd twice_a) (odd_dvd-double d b odd twice_b)) 2) (parity d),
)

pub IsGcd-twos_both : (twos a b g : ℕ) → IsGcd a b g → IsGcd (2 ^ twos * a) (2 ^ twos * b) (2 ^ twos * g)
IsGcd-twos_both zero a b g gcd =
    let once : (n : ℕ) → n ≡ 2 ^ 0 * n = λ n. omega arith in
    subst (λ n. IsGcd (2 ^ 0 * a) (2 ^ 0 * b) n) (once g) (subst (λ n. IsGcd (2 ^ 0 * a) n g) (once b) (subst (λ n. IsGcd n b g) (once a) gcd))
IsGcd-twos_both (suc twos) a b g gcd =
    let twice = IsGcd-double_both (2 ^ twos * a) (2 ^ twos * b) (2 ^ twos * g) (IsGcd-twos_both twos a b g gcd) in
    subst (λ n. IsGcd (2 ^ suc twos * a) (2 ^ suc twos * b) n) (one_two_more twos g)
    (subst (λ n. IsGcd (2 ^ suc twos * a) n (2 * (2 ^ twos * g))) (one_two_more twos b)
    (subst (λ n. IsGcd n (2 * (2 ^ twos * b)) (2 * (2 ^ twos * g))) (one_two_more twos a) twice))

-- a number of k binary digits above 0 is its twos times an odd number
pub record Split (k n : ℕ) : Type 0 where
  pub rest : ℕ
  pub is : n ≡ 2 ^ count_trailing_zeros k n * rest
  pub is_odd : rest % 2 ≡ 1
  pub within : count_trailing_zeros k n < k

trailing-even : (k n : ℕ) → n % 2 ≡ 0 → count_trailing_zeros (suc k) n ≡ suc (count_trailing_zeros k (n / 2))
unfolding count_trailing_zeros
trailing-even k n even = rw even refl

trailing-odd : (k n : ℕ) → n % 2 ≡ 1 → count_trailing_zeros (suc k) n ≡ 0
unfolding count_trailing_zeros
trailing-odd k n odd = rw odd refl

split-even : (k n : ℕ) → n % 2 ≡ 0 → Split k (n / 2) → Split (suc k) n
split-even k n even s =
    let twos = trailing-even k n even in
    let whole : n ≡ 2 ^ suc (count_trailing_zeros k (n / 2)) * s.rest =
    even_is n even ∙ ap (λ m. 2 * m) s.is ∙ one_two_more (count_trailing_zeros k (n / 2)) s.rest in
    record {
      rest = s.rest;
      is = subst (λ t. n ≡ 2 ^ t * s.rest) (sym twos) whole;
      is_odd = s.is_odd;
      within = subst (λ t. t < suc k) (sym twos) (omega (arith, s.within));
    }

split-odd : (k n : ℕ) → n % 2 ≡ 1 → Split (suc k) n
split-odd k n odd =
    let twos = trailing-odd k n odd in
    record {
      rest = n;
      is = subst (λ t. n ≡ 2 ^ t * n) (sym twos) (omega arith);
      is_odd = odd;
      within = subst (λ t. t < suc k) (sym twos) (omega arith);
    }

pub trailing_zeros-split : (k n : ℕ) → 0 < n → n < 2 ^ k → Split k n
trailing_zeros-split zero n above below = absurd (omega (arith, above, below))
trailing_zeros-split (suc k) n above below =
    ⊎_elim (λ even. split-even k n even (trailing_zeros-split k (n / 2) (omega (arith, above, even)) (omega (arith, below, pow-succ' 2 k)))) (split-odd k n) (parity n)

-- without its twos a number is odd
without_twos : (k n : ℕ) → (s : Split k n) → n / 2 ^ count_trailing_zeros k n ≡ s.rest
without_twos k n s = ap (λ m. m / 2 ^ count_trailing_zeros k n) s.is ∙ mul-div_cancel_left s.rest (pow_pos (count_trailing_zeros k n))

pub without_twos-odd : (k n : ℕ) → 0 < n → n < 2 ^ k → n / 2 ^ count_trailing_zeros k n % 2 ≡ 1
without_twos-odd k n above below =
    let s = trailing_zeros-split k n above below in
    subst (λ m. m % 2 ≡ 1) (sym (without_twos k n s)) s.is_odd

order : (a b : ℕ) → (a ≤ b) ⊎ (b ≤ a)
order a b = grind arith

-- the smaller of two numbers and their difference have the same greatest common divisor
IsGcd-differ : (a b g : ℕ) → IsGcd (min a b) (abs_diff a b) g → IsGcd a b g
IsGcd-differ a b g gcd =
    ⊎_elim (λ less.
    let moved : IsGcd a (b - a) g = subst (λ m. IsGcd m (b - a) g) (omega (arith, less)) (subst (λ d. IsGcd (min a b) d g) (omega (arith, less)) gcd) in
    IsGcd-swap b a g (IsGcd-from_sub b a g less (IsGcd-swap a (b - a) g moved)))
    (λ more.
    let moved : IsGcd b (a - b) g = subst (λ m. IsGcd m (a - b) g) (omega (arith, more)) (subst (λ d. IsGcd (min a b) d g) (omega (arith, more)) gcd) in
    IsGcd-from_sub a b g more (IsGcd-swap b (a - b) g moved)) (order a b)

-- one turn: the twos of the other number are left out, then the smaller is taken from the greater
pub record Turn (odd rest less more : ℕ) : Type 0 where
  pub is_odd : less % 2 ≡ 1
  pub same : (g : ℕ) → IsGcd less more g → IsGcd odd rest g

min_odd : (a b : ℕ) → a % 2 ≡ 1 → b % 2 ≡ 1 → min a b % 2 ≡ 1
min_odd a b odd_a odd_b = grind arith

pub turn : (k odd rest less more : ℕ) → 0 < rest → rest < 2 ^ k → odd % 2 ≡ 1 → less ≡ min odd (rest / 2 ^ count_trailing_zeros k rest) → more ≡ abs_diff odd (rest / 2 ^ count_trailing_zeros k rest) → Turn odd rest less more
turn k odd rest less more above below is_odd less_is more_is =
    let s = trailing_zeros-split k rest above below in
    let cut = without_twos k rest s in
    record {
      is_odd = subst (λ m. m % 2 ≡ 1) (sym (less_is ∙ ap (λ m. min odd m) cut)) (min_odd odd s.rest is_odd s.is_odd);
      same = λ g gcd.
          let apart = IsGcd-differ odd s.rest g (subst (λ m. IsGcd m (abs_diff odd s.rest) g) (less_is ∙ ap (λ m. min odd m) cut) (subst (λ m. IsGcd less m g) (more_is ∙ ap (λ m. abs_diff odd m) cut) gcd)) in
          subst (λ n. IsGcd odd n g) (sym s.is)
          (IsGcd-swap (2 ^ count_trailing_zeros k rest * s.rest) odd g (IsGcd-twos_left (count_trailing_zeros k rest) s.rest odd g is_odd (IsGcd-swap odd s.rest g apart)));
    }

-- the twos that both numbers have are put back
twos_back_less : (a d m n g : ℕ) → m % 2 ≡ 1 → IsGcd m n g → IsGcd (2 ^ a * m) (2 ^ (a + d) * n) (2 ^ a * g)
twos_back_less a d m n g odd gcd =
    let beside = IsGcd-swap (2 ^ d * n) m g (IsGcd-twos_left d n m g odd (IsGcd-swap m n g gcd)) in
    let whole : 2 ^ a * (2 ^ d * n) ≡ 2 ^ (a + d) * n = sym (mul_assoc (2 ^ a) (2 ^ d) n) ∙ ap (λ p. p * n) (sym (pow-add 2 a d)) in
    subst (λ b. IsGcd (2 ^ a * m) b (2 ^ a * g)) whole (IsGcd-twos_both a m (2 ^ d * n) g beside)

twos_back_ordered : (a b m n g : ℕ) → a ≤ b → m % 2 ≡ 1 → IsGcd m n g → IsGcd (2 ^ a * m) (2 ^ b * n) (2 ^ a * g)
twos_back_ordered a b m n g less odd gcd =
    subst (λ t. IsGcd (2 ^ a * m) (2 ^ t * n) (2 ^ a * g)) (omega (arith, less)) (twos_back_less a (b - a) m n g odd gcd)

twos_back_both : (a b m n g : ℕ) → m % 2 ≡ 1 → n % 2 ≡ 1 → IsGcd m n g → IsGcd (2 ^ a * m) (2 ^ b * n) (2 ^ min a b * g)
twos_back_both a b m n g odd_m odd_n gcd =
    ⊎_elim (λ less. subst (λ t. IsGcd (2 ^ a * m) (2 ^ b * n) (2 ^ t * g)) (omega (arith, less)) (twos_back_ordered a b m n g less odd_m gcd))
    (λ more. subst (λ t. IsGcd (2 ^ a * m) (2 ^ b * n) (2 ^ t * g)) (omega (arith, more))
    (IsGcd-swap (2 ^ b * n) (2 ^ a * m) (2 ^ b * g) (twos_back_ordered b a n m g more odd_n (IsGcd-swap m n g gcd)))) (order a b)

pub twos_back : (k x y g : ℕ) → 0 < x → x < 2 ^ k → 0 < y → y < 2 ^ k → IsGcd (x / 2 ^ count_trailing_zeros k x) (y / 2 ^ count_trailing_zeros k y) g → IsGcd x y (g * 2 ^ min (count_trailing_zeros k x) (count_trailing_zeros k y) % 2 ^ k)
twos_back k x y g x_above x_below y_above y_below gcd =
    let twos = min (count_trailing_zeros k x) (count_trailing_zeros k y) in
    let sx = trailing_zeros-split k x x_above x_below in
    let sy = trailing_zeros-split k y y_above y_below in
    let rests = subst (λ m. IsGcd m sy.rest g) (without_twos k x sx) (subst (λ n. IsGcd (x / 2 ^ count_trailing_zeros k x) n g) (without_twos k y sy) gcd) in
    let both = twos_back_both (count_trailing_zeros k x) (count_trailing_zeros k y) sx.rest sy.rest g sx.is_odd sy.is_odd rests in
    let whole : IsGcd x y (2 ^ twos * g) = subst (λ m. IsGcd m y (2 ^ twos * g)) (sym sx.is) (subst (λ n. IsGcd (2 ^ count_trailing_zeros k x * sx.rest) n (2 ^ twos * g)) (sym sy.is) both) in
    let small : g * 2 ^ twos < 2 ^ k = omega (arith, le_of_dvd x_above whole.0, mul_comm g (2 ^ twos), x_below) in
    subst (λ r. IsGcd x y r) (mul_comm (2 ^ twos) g ∙ sym (mod-eq_of_lt small)) whole
