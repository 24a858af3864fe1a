-- Exact results and their signed readings.
use Rattle.std.proofs.Common.{◌≡◌, ℕ, ◌+◌, ◌*◌, ◌%◌, ◌^◌, ◌<◌, ◌≤◌, Bool, true, not, nat_lt, ℤ, pos, ◌+ℤ◌, ◌-ℤ◌, ◌*ℤ◌, lit<, FitsSigned, w64, to_z, of_z, rules, refl, ◌∙◌, sym, ap, arith}
use Rattle.std.specs.Prelude.{unsigned_abs}
use Rattle.std.proofs.Math.Nat.{pow-le-pow_right}
use Rattle.std.proofs.lemmas.Int.{ints, to_z-of_z, fits_signed_mul, fits_signed_from_abs}
use borrow.Author.Differences.{fits_in}
use Rattle.std.proofs.lemmas.Bool.Decides.{nat_tests}
use Rattle.ll_tree.specs.declared.op.Flags.{Flags}
use Rattle.ir_meaning.specs.Whole.{IsWidth, signed, modulo, is_unsigned}
use Rattle.ir_meaning.specs.Value.{poison_if}
use Rattle.ir_meaning.specs.Rows.{is_barred, wrapped, sub_of, shl_of}
use Rattle.ir_meaning.proofs.ModuloLaws.{modulo-raised}

-- a signed number as a call takes it
abbrev pub passed : ℤ → ℤ
passed z = to_z w64 (of_z w64 z)

-- numbers of at most 2^31 in size, their sums, differences and products
pub fits_small : (x : ℤ) → unsigned_abs x ≤ 2 ^ 31 → FitsSigned w64 x
fits_small x small = fits_signed_from_abs w64 x (omega arith)

pub fits_sum : (x y : ℤ) → unsigned_abs x ≤ 2 ^ 31 → unsigned_abs y ≤ 2 ^ 31 → FitsSigned w64 (x +ℤ y)
fits_sum x y small_x small_y = fits_in w64 (x +ℤ y) (search (rules, arith, ints))

pub fits_difference : (x y : ℤ) → unsigned_abs x ≤ 2 ^ 31 → unsigned_abs y ≤ 2 ^ 31 → FitsSigned w64 (x -ℤ y)
fits_difference x y small_x small_y = fits_in w64 (x -ℤ y) (search (rules, arith, ints))

pub fits_product : (x y : ℤ) → unsigned_abs x ≤ 2 ^ 31 → unsigned_abs y ≤ 2 ^ 31 → FitsSigned w64 (x *ℤ y)
fits_product x y small_x small_y = fits_signed_mul w64 x y (2 ^ 31) (2 ^ 31) small_x small_y (lit< tt)

-- an operation of two such numbers, as the code passes its result on
pub passed-op : (op : ℤ → ℤ → ℤ) (x x' y y' : ℤ) → unsigned_abs x ≤ 2 ^ 31 → unsigned_abs y ≤ 2 ^ 31 → FitsSigned w64 (op x y) → x ≡ x' → y ≡ y' → passed (op (passed x) (passed y)) ≡ op x' y'
passed-op op x x' y y' small_x small_y fits left right =
    ap (λ v. passed (op v (passed y))) (to_z-of_z w64 x (fits_small x small_x))
    ∙ ap (λ v. passed (op x v)) (to_z-of_z w64 y (fits_small y small_y))
    ∙ to_z-of_z w64 (op x y) fits
    ∙ ap (λ v. op v y) left
    ∙ ap (λ v. op x' v) right

pub wrapped-passed : (op : ℤ → ℤ → ℤ) (flags : Flags) (width : ℕ) (z z' x x' y y' : ℤ) → unsigned_abs x ≤ 2 ^ 31 → unsigned_abs y ≤ 2 ^ 31 → FitsSigned w64 (op x y) → z ≡ z' → x ≡ x' → y ≡ y' → wrapped flags width z (passed (op (passed x) (passed y))) ≡ wrapped flags width z' (op x' y')
wrapped-passed op flags width z z' x x' y y' small_x small_y fits exact left right =
    ap (λ v. wrapped flags width v (passed (op (passed x) (passed y)))) exact
    ∙ ap (λ v. wrapped flags width z' v) (passed-op op x x' y y' small_x small_y fits left right)

pub overflow_free : (op : ℤ → ℤ → ℤ) (x y : ℤ) → unsigned_abs x ≤ 2 ^ 31 → unsigned_abs y ≤ 2 ^ 31 → FitsSigned w64 (op x y) → FitsSigned w64 (op (passed x) (passed y))
overflow_free op x y small_x small_y fits =
    rw (to_z-of_z w64 x (fits_small x small_x), to_z-of_z w64 y (fits_small y small_y)) fits

pub power_below : (k width : ℕ) → IsWidth width → k < width → 2 ^ k ≤ 2 ^ 31
power_below k width w below = pow-le-pow_right {n = 2} (omega arith) {i = k} {j = 31} (omega arith)

pub shl-is : (flags : Flags) (width a k : ℕ) → k < width → wrapped flags width (pos (a * 2 ^ k)) (signed width a *ℤ pos (2 ^ k)) ≡ shl_of flags width a k
shl-is flags width a k below =
    let test : nat_lt k width ≡ true = grind (arith, nat_tests) in
    rw test refl

-- a difference of numbers of the width leaves them where the first is the lesser
pub leaves-difference : (width a b : ℕ) → a < 2 ^ width → not (is_unsigned width (pos a -ℤ pos b)) ≡ nat_lt a b
leaves-difference width a b left = grind (arith, ints, nat_tests)

pub modulo-difference : (width a b n : ℕ) → a < 2 ^ width → b < 2 ^ width → n + b ≡ a + 2 ^ width → n % 2 ^ width ≡ modulo width (pos a -ℤ pos b)
modulo-difference width a b n left right is =
    modulo-raised width 1 (2 ^ width) n (pos a -ℤ pos b) (omega arith) (omega (arith, ints))

-- a difference, from the test of the code and the number above it
pub sub-is : (flags : Flags) (width a b n : ℕ) (barred : Bool) → a < 2 ^ width → b < 2 ^ width → barred ≡ is_barred flags width (nat_lt a b) (signed width a -ℤ signed width b) → n + b ≡ a + 2 ^ width → poison_if barred (n % 2 ^ width) ≡ sub_of flags width a b
sub-is flags width a b n barred left right is above =
    ap (λ test. poison_if test (n % 2 ^ width)) is
    ∙ ap (λ leaves. poison_if (is_barred flags width leaves (signed width a -ℤ signed width b)) (n % 2 ^ width)) (sym (leaves-difference width a b left))
    ∙ ap (λ m. poison_if (is_barred flags width (not (is_unsigned width (pos a -ℤ pos b))) (signed width a -ℤ signed width b)) m) (modulo-difference width a b n left right above)
