use Rattle.std.proofs.Common.{◌≡◌, ◌↔◌, ◌*ℤ◌, FitsSigned, refl, subst, rules}
use Rattle.std.specs.Prelude.{IsTrue}
use Rattle.std.specs.Int.{w128}
use Rattle.std.proofs.lemmas.Int.{to_z-of_z}
use Rattle.mix_system.specs.Lit.{IsWithin}
use Rattle.bounded_simplex.proofs.broken.keeps.Goals as goal

pub returns-in-Ok-clause-value : goal.returns-in-Ok-clause-value
returns-in-Ok-clause-value c =
    let bound_fits : FitsSigned w128 c.in-Some.bound = search rules in
    let product_fits : FitsSigned w128 c.in-Ok.product = search rules in
    let denominator_fits : FitsSigned w128 c.args.denominator = search rules in
    let numerator_fits : FitsSigned w128 c.args.numerator = search rules in
    let product : c.in-Ok.product ≡ c.args.denominator *ℤ c.in-Some.bound = simp to_z-of_z at c.in-Ok.ensures.value in
    let within = simp to_z-of_z at c.is_within.ensures in
    rw c.in-Some.is (subst (λ z. IsTrue c.is_within.result ↔ IsWithin c.args.side z c.args.numerator) product within)

pub returns-in-None-clause-value : goal.returns-in-None-clause-value
returns-in-None-clause-value c = rw c.in-None.is ((λ _. tt), (λ _. refl))
