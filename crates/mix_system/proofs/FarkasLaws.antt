-- A refuted box has no point.
use Rattle.std.proofs.Common.{◌≡◌, ℕ, zero, suc, ◌+◌, ◌<◌, List, [], ◌∷◌, ℤ, pos, neg_ℤ, ◌+ℤ◌, ◌*ℤ◌, ◌≤ℤ◌, All, refl, sym, ap, ◌∙◌, eq-eqb, ne_eqb, ◌≢◌, arith}
use Rattle.std.proofs.lemmas.Int.{ints}
use Rattle.std.proofs.lemmas.List.Elements.{All-head, All-tail, All-weaker}
use Rattle.std.proofs.Math.IntN.{zero-*ℤ, *ℤ-zero, suc_ℤ-*ℤ}
use Rattle.mix_system.specs.declared.literal.Term.{Term}
use Rattle.mix_system.specs.declared.literal.Term.TheVariants.{Var, Row}
use Rattle.mix_system.specs.declared.literal.Side.{Side}
use Rattle.mix_system.specs.declared.literal.Side.TheVariants.{Le, Ge}
use Rattle.mix_system.specs.declared.literal.Lit.{Lit}
use Rattle.mix_system.specs.declared.row.Part.{Part}
use Rattle.mix_system.specs.declared.farkas.FarkasPart.{FarkasPart}
use Rattle.mix_system.specs.Sum.{int_sum_by}
use Rattle.mix_system.specs.Lit.{IsWithin}
use Rattle.mix_system.specs.Row.{number_at, product_at, row_value}
use Rattle.mix_system.specs.Fits.{term_value, IsTrueAt}
use Rattle.mix_system.specs.Bounds.{IsIn, AreTrueAt}
use Rattle.mix_system.specs.FarkasSum.{parts_of, coeff_on, by_side, weight, bound_weight, FarkasRefutes}
use Rattle.mix_system.proofs.ProductLaws.{add-*ℤ, *ℤ-add, neg_ℤ-*ℤ, *ℤ_assoc, le-*ℤ}
use Rattle.mix_system.proofs.BoundLaws.{true_from_IsIn}

-- the sum of each number times its variable's coefficient, where the first number is that of this variable
abbrev pub dot : (ℕ → ℤ) → ℕ → List ℤ → ℤ
dot coeffs first [] = pos 0
dot coeffs first (number ∷ numbers) = coeffs first *ℤ number +ℤ dot coeffs (first + 1) numbers

pub dot-zero : (coeffs : ℕ → ℤ) → ((var : ℕ) → coeffs var ≡ pos 0) → (first : ℕ) (numbers : List ℤ) → dot coeffs first numbers ≡ pos 0
dot-zero coeffs none first [] = refl
dot-zero coeffs none first (number ∷ numbers) =
    let here : coeffs first *ℤ number ≡ pos 0 = ap (λ n. n *ℤ number) (none first) ∙ zero-*ℤ number in
    omega (arith, ints, here, dot-zero coeffs none (first + 1) numbers)

pub dot-add : (f g : ℕ → ℤ) (first : ℕ) (numbers : List ℤ) → dot (λ var. f var +ℤ g var) first numbers ≡ dot f first numbers +ℤ dot g first numbers
dot-add f g first [] = refl
dot-add f g first (number ∷ numbers) = omega (arith, ints, add-*ℤ (f first) (g first) number, dot-add f g (first + 1) numbers)

pub dot-times : (c : ℤ) (f : ℕ → ℤ) (first : ℕ) (numbers : List ℤ) → dot (λ var. c *ℤ f var) first numbers ≡ c *ℤ dot f first numbers
dot-times c f first [] = sym (*ℤ-zero c)
dot-times c f first (number ∷ numbers) =
    omega (arith, ints, *ℤ_assoc c (f first) number, *ℤ-add (f first *ℤ number) (dot f (first + 1) numbers) c, dot-times c f (first + 1) numbers)

pub dot-neg_ℤ : (f : ℕ → ℤ) (first : ℕ) (numbers : List ℤ) → dot (λ var. neg_ℤ (f var)) first numbers ≡ neg_ℤ (dot f first numbers)
dot-neg_ℤ f first [] = refl
dot-neg_ℤ f first (number ∷ numbers) = omega (arith, ints, neg_ℤ-*ℤ (f first) number, dot-neg_ℤ f (first + 1) numbers)

pub dot-by_side : (side : Side) (f : ℕ → ℤ) (first : ℕ) (numbers : List ℤ) → dot (λ var. by_side side (f var)) first numbers ≡ by_side side (dot f first numbers)
dot-by_side Le f first numbers = refl
dot-by_side Ge f first numbers = dot-neg_ℤ f first numbers

pub dot-sum : {X : Type 0} (g : ℕ → X → ℤ) (xs : List X) (first : ℕ) (numbers : List ℤ) → dot (λ var. int_sum_by (g var) xs) first numbers ≡ int_sum_by (λ x. dot (λ var. g var x) first numbers) xs
dot-sum g [] first numbers = dot-zero (λ var. pos 0) (λ var. refl) first numbers
dot-sum g (x ∷ xs) first numbers =
    dot-add (λ var. g var x) (λ var. int_sum_by (g var) xs) first numbers ∙ ap (λ n. dot (λ var. g var x) first numbers +ℤ n) (dot-sum g xs first numbers)

-- a part has its coefficient on its own variable and 0 on each other
coeff_on-own : (part : Part) (var : ℕ) → part.var ≡ var → coeff_on var part ≡ part.coeff
coeff_on-own part var is = rw (eq-eqb part.var var is) refl

coeff_on-other : (part : Part) (var : ℕ) → part.var ≢ var → coeff_on var part ≡ pos 0
coeff_on-other part var apart = rw (ne_eqb part.var var apart) refl

dot-part_past : (part : Part) (first : ℕ) (numbers : List ℤ) → part.var < first → dot (λ var. coeff_on var part) first numbers ≡ pos 0
dot-part_past part first [] past = refl
dot-part_past part first (number ∷ numbers) past =
    let here = ap (λ n. n *ℤ number) (coeff_on-other part first (omega arith)) ∙ zero-*ℤ number in
    omega (arith, ints, here, dot-part_past part (first + 1) numbers (omega arith))

dot-part : (part : Part) (first k : ℕ) (numbers : List ℤ) → part.var ≡ first + k → dot (λ var. coeff_on var part) first numbers ≡ part.coeff *ℤ number_at numbers k
dot-part part first k [] is = sym (*ℤ-zero part.coeff)
dot-part part first zero (number ∷ numbers) is =
    let here = ap (λ n. n *ℤ number) (coeff_on-own part first (omega arith)) in
    omega (arith, ints, here, dot-part_past part (first + 1) numbers (omega arith))
dot-part part first (suc k) (number ∷ numbers) is =
    let here = ap (λ n. n *ℤ number) (coeff_on-other part first (omega arith)) ∙ zero-*ℤ number in
    omega (arith, ints, here, dot-part part (first + 1) k numbers (omega arith))

int_sum_by-same : {X : Type 0} (f g : X → ℤ) → ((x : X) → f x ≡ g x) → (xs : List X) → int_sum_by f xs ≡ int_sum_by g xs
int_sum_by-same f g same [] = refl
int_sum_by-same f g same (x ∷ xs) = omega (arith, ints, same x, int_sum_by-same f g same xs)

pub dot-row : (parts : List Part) (point : List ℤ) → dot (λ var. int_sum_by (coeff_on var) parts) 0 point ≡ row_value parts point
dot-row parts point = dot-sum coeff_on parts 0 point ∙ int_sum_by-same (λ part. dot (λ var. coeff_on var part) 0 point) (product_at point) (λ part. dot-part part 0 part.var point (omega arith)) parts

-- a term's value is the sum of its parts
pub parts_of-value : (rows : List (List Part)) (point : List ℤ) (term : Term) → row_value (parts_of rows term) point ≡ term_value rows point term
parts_of-value rows point (Var var) = omega (arith, ints, suc_ℤ-*ℤ (pos 0) (number_at point var), zero-*ℤ (number_at point var))
parts_of-value rows point (Row row) = refl

-- what a literal with its multiplier comes to at a point
abbrev pub value_weight : (rows : List (List Part)) (point : List ℤ) → FarkasPart → ℤ
value_weight rows point part = by_side part.lit.side (part.by *ℤ term_value rows point part.lit.term)

dot-weight : (rows : List (List Part)) (point : List ℤ) (part : FarkasPart) → dot (λ var. weight rows var part) 0 point ≡ value_weight rows point part
dot-weight rows point part =
    let parts = parts_of rows part.lit.term in
    dot-by_side part.lit.side (λ var. part.by *ℤ int_sum_by (coeff_on var) parts) 0 point
    ∙ ap (λ n. by_side part.lit.side n) (dot-times part.by (λ var. int_sum_by (coeff_on var) parts) 0 point ∙ ap (λ n. part.by *ℤ n) (dot-row parts point ∙ parts_of-value rows point part.lit.term))

-- where all variables cancel out, the values at each point do
pub values_vanish : (rows : List (List Part)) (point : List ℤ) (parts : List FarkasPart) → ((var : ℕ) → int_sum_by (weight rows var) parts ≡ pos 0) → int_sum_by (value_weight rows point) parts ≡ pos 0
values_vanish rows point parts vanishes =
    sym (int_sum_by-same (λ part. dot (λ var. weight rows var part) 0 point) (value_weight rows point) (dot-weight rows point) parts)
    ∙ sym (dot-sum (weight rows) parts 0 point)
    ∙ dot-zero (λ var. int_sum_by (weight rows var) parts) vanishes 0 point

within-times : (side : Side) (by bound value : ℤ) → pos 0 ≤ℤ by → IsWithin side bound value → by_side side (by *ℤ value) ≤ℤ by_side side (by *ℤ bound)
within-times Le by bound value above within = le-*ℤ by value bound above within
within-times Ge by bound value above within = omega (arith, ints, le-*ℤ by bound value above within)

values_in_order : (rows : List (List Part)) (point : List ℤ) (parts : List FarkasPart) → All (λ part. IsTrueAt rows point part.lit) parts → int_sum_by (value_weight rows point) parts ≤ℤ int_sum_by bound_weight parts
values_in_order rows point [] all = omega (arith, ints)
values_in_order rows point (part ∷ parts) all =
    let here = within-times part.lit.side part.by part.lit.bound (term_value rows point part.lit.term) (omega (arith, ints, part.at_least_once)) (All-head (λ part. IsTrueAt rows point part.lit) part parts all) in
    omega (arith, ints, here, values_in_order rows point parts (All-tail (λ part. IsTrueAt rows point part.lit) part parts all))

pub FarkasRefutes-no_point : (rows : List (List Part)) (point : List ℤ) (box : List Lit) (parts : List FarkasPart) → FarkasRefutes rows box parts → AreTrueAt rows point box → ⊥
FarkasRefutes-no_point rows point box parts refutes all =
    let trues = All-weaker (λ part. IsIn box part.lit) (λ part. IsTrueAt rows point part.lit) (λ part. true_from_IsIn rows point box part.lit all) parts refutes.in_box in
    omega (arith, ints, values_in_order rows point parts trues, values_vanish rows point parts refutes.vanishes, refutes.contradictory)
