use Rattle.std.proofs.Common.{◌≡◌, ℕ, ℤ, pos, ◌*ℤ◌, FitsSigned, sym, ap, ◌∙◌, rules, arith}
use Rattle.std.specs.Int.{w128}
use Rattle.std.proofs.lemmas.Int.{ints, to_z-of_z}
use Rattle.tableau_rows.proofs.RingLaws.{mul_comm}
use Rattle.bounded_simplex.specs.Point.{IsKeptPoint}
use Rattle.integer_splits.proofs.whole.whole_value.Goals as goal

whole_ratio : (num den denominator number : ℤ) → den ≡ pos 1 → num *ℤ denominator ≡ number *ℤ den → number ≡ denominator *ℤ num
whole_ratio num den denominator number one same =
    let unit : number *ℤ pos 1 ≡ number = omega (arith, ints) in
    sym unit ∙ ap (λ z. number *ℤ z) (sym one) ∙ sym same ∙ mul_comm num denominator

pub returns : goal.returns
returns c =
    let s = c.args.simplex.now in
    let ratio = c.in-Ok.ratio in
    let fits : FitsSigned w128 ratio.num = search rules in
    let one : ratio.den ≡ pos 1 = omega (arith, ints) in
    let value : (denominator : ℤ) (number : ℕ → ℤ) → IsKeptPoint s.bounds.system s.tableau.rows.items s.values.items denominator number → ratio.num *ℤ denominator ≡ number c.args.var *ℤ ratio.den = search rules in
    simp to_z-of_z (λ denominator number kept. whole_ratio ratio.num ratio.den denominator (number c.args.var) one (value denominator number kept))
