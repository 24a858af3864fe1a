-- The quotient with a remainder of 0 or more is the floor, where the divisor is above 0.
use Rattle.std.proofs.Common.{◌≡◌, ◌<◌, ℤ, pos, negsuc, ◌+ℤ◌, ◌*ℤ◌, ◌<ℤ◌, ◌≤ℤ◌, ap, ◌∙◌, arith}
use Rattle.std.proofs.Math.IntN.{+ℤ_one, suc_ℤ-*ℤ}
use Rattle.std.specs.Int.{int_div_euclid}
use Rattle.std.proofs.lemmas.Int.{ints}
use Rattle.std.proofs.lemmas.Nat.{div-add-mod', mod_below}

pub floor_at_most : (x y : ℤ) → pos 0 <ℤ y → (int_div_euclid x y *ℤ y) ≤ℤ x
floor_at_most (pos a) (pos b) h = omega (arith, ints, div-add-mod' a b)
floor_at_most (negsuc a) (pos b) h =
    let above : 0 < b = omega (arith, ints) in
    omega (arith, ints, div-add-mod' a b, mod_below a b above)
floor_at_most x (negsuc b) h = absurd (omega (arith, ints))

-- one more of `y`
one_more-*ℤ : (q y : ℤ) → (q +ℤ pos 1) *ℤ y ≡ q *ℤ y +ℤ y
one_more-*ℤ q y = ap (λ n. n *ℤ y) (+ℤ_one q) ∙ suc_ℤ-*ℤ q y

below_next : (x y : ℤ) → pos 0 <ℤ y → x <ℤ (int_div_euclid x y *ℤ y +ℤ y)
below_next (pos a) (pos b) h =
    let above : 0 < b = omega (arith, ints) in
    omega (arith, ints, div-add-mod' a b, mod_below a b above)
below_next (negsuc a) (pos b) h = omega (arith, ints, div-add-mod' a b)
below_next x (negsuc b) h = absurd (omega (arith, ints))

pub floor_greatest : (x y : ℤ) → pos 0 <ℤ y → x <ℤ ((int_div_euclid x y +ℤ pos 1) *ℤ y)
floor_greatest x y h = rw one_more-*ℤ (below_next x y h)
