use Rattle.std.proofs.Common.{◌≡◌, ◌<◌, pos, ◌*ℤ◌, FitsSigned, rules, arith}
use Rattle.std.specs.Prelude.{unsigned_abs}
use Rattle.std.specs.Int.{w128, IsGcd}
use Rattle.std.proofs.lemmas.Int.{ints, to_z-of_z}
use Rattle.std.proofs.lemmas.Nat.Gcd.{le_of_dvd}
use Rattle.std.proofs.Math.Nat.{one-dvd}
use Rattle.tableau_rows.proofs.QuotientLaws.{divisor_positive}
use Rattle.bounded_simplex.proofs.RatioLaws.{quotients_cross, quotients_lowest, positive_quotient, size_of_positive}
use Rattle.bounded_simplex.proofs.ratio.Ratio.reduced.Goals as goal

pub exact_quotient-num-requires-clause-small : goal.exact_quotient-num-requires-clause-small
exact_quotient-num-requires-clause-small c =
    let n = c.args.numerator in
    let d = c.args.denominator in
    let g = c.gcd-divisor.result in
    let n_fits : FitsSigned w128 n = search rules in
    let d_fits : FitsSigned w128 d = search rules in
    let gcd : IsGcd (unsigned_abs n) (unsigned_abs d) g = simp (to_z-of_z, c.unsigned_abs.ensures.value, c.unsigned_abs-2.ensures.value) at c.gcd-divisor.ensures.greatest in
    let size = size_of_positive d c.requires d_fits in
    omega (arith, le_of_dvd size.0 gcd.1, size.1)

pub exact_quotient-num-requires-clause-positive : goal.exact_quotient-num-requires-clause-positive
exact_quotient-num-requires-clause-positive c =
    let n = c.args.numerator in
    let d = c.args.denominator in
    let g = c.gcd-divisor.result in
    let n_fits : FitsSigned w128 n = search rules in
    let d_fits : FitsSigned w128 d = search rules in
    let gcd : IsGcd (unsigned_abs n) (unsigned_abs d) g = simp (to_z-of_z, c.unsigned_abs.ensures.value, c.unsigned_abs-2.ensures.value) at c.gcd-divisor.ensures.greatest in
    let size = size_of_positive d c.requires d_fits in
    divisor_positive d g (λ e. absurd (omega (arith, ints, e, c.requires))) gcd.1

pub exact_quotient-num-requires-clause-divides : goal.exact_quotient-num-requires-clause-divides
exact_quotient-num-requires-clause-divides c =
    let n = c.args.numerator in
    let d = c.args.denominator in
    let g = c.gcd-divisor.result in
    let n_fits : FitsSigned w128 n = search rules in
    let d_fits : FitsSigned w128 d = search rules in
    let gcd : IsGcd (unsigned_abs n) (unsigned_abs d) g = simp (to_z-of_z, c.unsigned_abs.ensures.value, c.unsigned_abs-2.ensures.value) at c.gcd-divisor.ensures.greatest in
    let size = size_of_positive d c.requires d_fits in
    simp to_z-of_z gcd.0

pub exact_quotient-den-requires-clause-small : goal.exact_quotient-den-requires-clause-small
exact_quotient-den-requires-clause-small c =
    let n = c.args.numerator in
    let d = c.args.denominator in
    let g = c.gcd-divisor.result in
    let n_fits : FitsSigned w128 n = search rules in
    let d_fits : FitsSigned w128 d = search rules in
    let gcd : IsGcd (unsigned_abs n) (unsigned_abs d) g = simp (to_z-of_z, c.unsigned_abs.ensures.value, c.unsigned_abs-2.ensures.value) at c.gcd-divisor.ensures.greatest in
    let size = size_of_positive d c.requires d_fits in
    omega (arith, le_of_dvd size.0 gcd.1, size.1)

pub exact_quotient-den-requires-clause-positive : goal.exact_quotient-den-requires-clause-positive
exact_quotient-den-requires-clause-positive c =
    let n = c.args.numerator in
    let d = c.args.denominator in
    let g = c.gcd-divisor.result in
    let n_fits : FitsSigned w128 n = search rules in
    let d_fits : FitsSigned w128 d = search rules in
    let gcd : IsGcd (unsigned_abs n) (unsigned_abs d) g = simp (to_z-of_z, c.unsigned_abs.ensures.value, c.unsigned_abs-2.ensures.value) at c.gcd-divisor.ensures.greatest in
    let size = size_of_positive d c.requires d_fits in
    divisor_positive d g (λ e. absurd (omega (arith, ints, e, c.requires))) gcd.1

pub exact_quotient-den-requires-clause-divides : goal.exact_quotient-den-requires-clause-divides
exact_quotient-den-requires-clause-divides c =
    let n = c.args.numerator in
    let d = c.args.denominator in
    let g = c.gcd-divisor.result in
    let n_fits : FitsSigned w128 n = search rules in
    let d_fits : FitsSigned w128 d = search rules in
    let gcd : IsGcd (unsigned_abs n) (unsigned_abs d) g = simp (to_z-of_z, c.unsigned_abs.ensures.value, c.unsigned_abs-2.ensures.value) at c.gcd-divisor.ensures.greatest in
    let size = size_of_positive d c.requires d_fits in
    simp to_z-of_z gcd.1

pub invariant_of-result : goal.invariant_of-result
invariant_of-result c =
    let n = c.args.numerator in
    let d = c.args.denominator in
    let g = c.gcd-divisor.result in
    let n_fits : FitsSigned w128 n = search rules in
    let d_fits : FitsSigned w128 d = search rules in
    let gcd : IsGcd (unsigned_abs n) (unsigned_abs d) g = simp (to_z-of_z, c.unsigned_abs.ensures.value, c.unsigned_abs-2.ensures.value) at c.gcd-divisor.ensures.greatest in
    let size = size_of_positive d c.requires d_fits in
    let a = c.exact_quotient-num.result in
    let b = c.exact_quotient-den.result in
    let a_fits : FitsSigned w128 a = search rules in
    let b_fits : FitsSigned w128 b = search rules in
    let is_n : n ≡ a *ℤ pos g = simp to_z-of_z at c.exact_quotient-num.ensures in
    let is_d : d ≡ b *ℤ pos g = simp to_z-of_z at c.exact_quotient-den.ensures in
    let positive : 0 < g = divisor_positive d g (λ e. absurd (omega (arith, ints, e, c.requires))) gcd.1 in
    simp to_z-of_z (record {
      positive = positive_quotient d b g c.requires is_d;
      lowest = (one-dvd (unsigned_abs a), one-dvd (unsigned_abs b), quotients_lowest n d a b g positive gcd is_n is_d);
    })

pub returns : goal.returns
returns c =
    let n = c.args.numerator in
    let d = c.args.denominator in
    let g = c.gcd-divisor.result in
    let n_fits : FitsSigned w128 n = search rules in
    let d_fits : FitsSigned w128 d = search rules in
    let gcd : IsGcd (unsigned_abs n) (unsigned_abs d) g = simp (to_z-of_z, c.unsigned_abs.ensures.value, c.unsigned_abs-2.ensures.value) at c.gcd-divisor.ensures.greatest in
    let size = size_of_positive d c.requires d_fits in
    let a = c.exact_quotient-num.result in
    let b = c.exact_quotient-den.result in
    let a_fits : FitsSigned w128 a = search rules in
    let b_fits : FitsSigned w128 b = search rules in
    let is_n : n ≡ a *ℤ pos g = simp to_z-of_z at c.exact_quotient-num.ensures in
    let is_d : d ≡ b *ℤ pos g = simp to_z-of_z at c.exact_quotient-den.ensures in
    simp to_z-of_z (quotients_cross n d (pos g) a b is_n is_d)
