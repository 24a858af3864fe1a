use Rattle.std.proofs.Common.{◌*◌, ◌^◌, ◌≤◌, ℤ, ◌*ℤ◌, lit<, sym, subst, arith}
use Rattle.std.specs.Prelude.{unsigned_abs}
use Rattle.std.specs.Int.{w128}
use Rattle.std.proofs.lemmas.Int.{unsigned_abs-mul, fits_signed_mul, to_z-of_z}
use Rattle.std.proofs.lemmas.Nat.{mul-le}
use Rattle.wrap_rows.proofs.scaled.signed_product.Goals as goal

product_size : (a b : ℤ) → unsigned_abs a ≤ 2 ^ 31 → unsigned_abs b ≤ 2 ^ 32 → unsigned_abs (a *ℤ b) ≤ 2 ^ 63
product_size a b small_a small_b =
    let product : unsigned_abs a * unsigned_abs b ≤ 2 ^ 31 * 2 ^ 32 = mul-le _ _ _ _ small_a small_b in
    subst (λ n. n ≤ 2 ^ 63) (sym (unsigned_abs-mul a b)) (omega (arith, product))

pub overflow_mul-result : goal.overflow_mul-result
overflow_mul-result c =
    let fits_a = c.ranges.a in
    let fits_b = c.ranges.b in
    simp to_z-of_z (fits_signed_mul w128 c.args.a c.args.b (2 ^ 31) (2 ^ 32) c.requires.a c.requires.b (lit< tt))

pub returns-clause-small : goal.returns-clause-small
returns-clause-small c =
    let fits_a = c.ranges.a in
    let fits_b = c.ranges.b in
    let fits = fits_signed_mul w128 c.args.a c.args.b (2 ^ 31) (2 ^ 32) c.requires.a c.requires.b (lit< tt) in
    simp to_z-of_z (product_size c.args.a c.args.b c.requires.a c.requires.b)
