-- The code's bitwise operations give each bit by the bits at its place.
use Rattle.std.proofs.Common.{◌≡◌, ℕ, zero, suc, ◌+◌, ◌*◌, ◌/◌, ◌%◌, ◌^◌, ◌<◌, min, max, Bool, true, false, not, ◌&&◌, refl, ◌∙◌, ap, arith, bit_and, bit_or, bit_xor}
use Rattle.std.specs.Int.Bits.{and_step, or_step, xor_step, differ}
use Rattle.std.proofs.Math.Nat.{pow-suc, pow-zero}
use Rattle.std.specs.Prelude.{◌==◌}
use Rattle.ll_tree.specs.declared.op.Flags.{Flags}
use Rattle.ir_meaning.specs.Whole.{by_bits}
use Rattle.ir_meaning.specs.Value.{poison_if, FitsWidth}
use Rattle.ir_meaning.specs.Rows.{or_of}

-- an operation whose lowest bit is that of the lowest bits, and whose others are those of the halves
op-by_bits : (op bit : ℕ → ℕ → ℕ) → op 0 0 ≡ 0 → ((a b : ℕ) → op a b ≡ op (a / 2) (b / 2) * 2 + bit (a % 2) (b % 2)) → (width a b : ℕ) → a < 2 ^ width → b < 2 ^ width → op a b ≡ by_bits width bit a b
op-by_bits op bit none step zero a b left right =
    let at_left : a ≡ 0 = omega (arith, pow-zero 2) in
    let at_right : b ≡ 0 = omega (arith, pow-zero 2) in
    rw (at_left, at_right) none
op-by_bits op bit none step (suc width) a b left right =
    let rest = op-by_bits op bit none step width (a / 2) (b / 2) (omega (arith, pow-suc 2 width)) (omega (arith, pow-suc 2 width)) in
    omega (arith, step a b, rest)

pub and-by_bits : (width a b : ℕ) → a < 2 ^ width → b < 2 ^ width → bit_and a b ≡ by_bits width min a b
and-by_bits width a b left right = op-by_bits bit_and min refl and_step width a b left right

pub or-by_bits : (width a b : ℕ) → a < 2 ^ width → b < 2 ^ width → bit_or a b ≡ by_bits width max a b
or-by_bits width a b left right = op-by_bits bit_or max refl or_step width a b left right

differ-sum : (x y : ℕ) → x < 2 → y < 2 → differ x y ≡ (x + y) % 2
differ-sum zero y below_x below_y = omega arith
differ-sum (suc x) zero below_x below_y = omega arith
differ-sum (suc x) (suc y) below_x below_y =
    let at_x : x ≡ 0 = omega arith in
    let at_y : y ≡ 0 = omega arith in
    rw (at_x, at_y) refl

pub xor-by_bits : (width a b : ℕ) → a < 2 ^ width → b < 2 ^ width → bit_xor a b ≡ by_bits width (λ x y. (x + y) % 2) a b
xor-by_bits width a b left right =
    op-by_bits bit_xor (λ x y. (x + y) % 2) refl
    (λ a b. xor_step a b ∙ ap (λ bit. bit_xor (a / 2) (b / 2) * 2 + bit) (differ-sum (a % 2) (b % 2) (omega arith) (omega arith)))
    width a b left right

-- the bits make a number of the width
pub by_bits-below : (bit : ℕ → ℕ → ℕ) → ((x y : ℕ) → x < 2 → y < 2 → bit x y < 2) → (width a b : ℕ) → by_bits width bit a b < 2 ^ width
by_bits-below bit each zero a b = omega (arith, pow-zero 2)
by_bits-below bit each (suc width) a b =
    omega (arith, pow-suc 2 width, each (a % 2) (b % 2) (omega arith) (omega arith), by_bits-below bit each width (a / 2) (b / 2))

pub or-is : (flags : Flags) (width a b : ℕ) → a < 2 ^ width → b < 2 ^ width → poison_if (flags.disjoint && not (bit_and a b == 0)) (bit_or a b) ≡ or_of flags width a b
or-is flags width a b left right =
    ap (λ both. poison_if (flags.disjoint && not (both == 0)) (bit_or a b)) (and-by_bits width a b left right)
    ∙ ap (λ either. poison_if (flags.disjoint && not (by_bits width min a b == 0)) either) (or-by_bits width a b left right)

pub FitsWidth-poison_if : (width n : ℕ) (test : Bool) → n < 2 ^ width → FitsWidth width (poison_if test n)
FitsWidth-poison_if width n true below = tt
FitsWidth-poison_if width n false below = below
