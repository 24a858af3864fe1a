use Rattle.std.proofs.Common.{◌≡◌, ◌⊎◌, None, Some, ℤ, FitsSigned, refl, sym, ap, ◌∙◌, ⊎_elim, inl, inr, rules}
use Rattle.std.specs.Prelude.{IsSome}
use Rattle.std.specs.Int.{w128}
use Rattle.std.proofs.lemmas.Int.{to_z-of_z}
use Rattle.mix_system.specs.declared.literal.Side.TheVariants.{Le, Ge}
use Rattle.bounded_simplex.specs.InForce.{in_force}
use Rattle.bounded_simplex.specs.Lax.{IsLaxAt, IsLax}
use Rattle.bounded_simplex.specs.Point.{numerator_of, Keeps}
use Rattle.bounded_simplex.specs.Refutation.{bound_on}
use Rattle.bounded_simplex.proofs.BrokenLaws.{bounds_of, lax_of, tight_of, free_keeps, some_bound}
use Rattle.bounded_simplex.proofs.StepLaws.{compare_step, sides_break, sides_keep, sides_tight}
use Rattle.bounded_simplex.proofs.broken.broken_side.Goals as goal

pub returns-then-not-has_bound-clause-none : goal.returns-then-not-has_bound-clause-none
returns-then-not-has_bound-clause-none c =
    let none : (c.tight_end-low.result ≡ None) × (c.tight_end-high.result ≡ None) = search rules in
    free_keeps c.args.bounds.now c.args.equation.now.basic c.term_at-basic.result c.tight_end-low.result c.tight_end-high.result c.term_at-basic.ensures.term c.tight_end-low.ensures.none c.tight_end-high.ensures.none none (Keeps c.args.bounds.now c.args.values.now c.args.equation.now)

pub returns-in-Err-clause-formed : goal.returns-in-Err-clause-formed
returns-in-Err-clause-formed c = (c.term_at-basic.ensures.term, c.in-Err.ensures.step)

pub returns-in-Err-clause-bounded : goal.returns-in-Err-clause-bounded
returns-in-Err-clause-bounded c =
    let some : IsSome c.tight_end-low.result ⊎ IsSome c.tight_end-high.result = search rules in
    ⊎_elim (λ low. inl (some_bound (in_force c.args.bounds.now c.term_at-basic.result Ge) c.tight_end-low.result c.tight_end-low.ensures.some low))
    (λ high. inr (some_bound (in_force c.args.bounds.now c.term_at-basic.result Le) c.tight_end-high.result c.tight_end-high.ensures.some high)) some

pub returns-in-Err-broken_bound-clause-formed : goal.returns-in-Err-broken_bound-clause-formed
returns-in-Err-broken_bound-clause-formed c =
    let bounds = c.args.bounds.now in
    let equation = c.args.equation.now in
    let low = bounds_of bounds equation.basic c.term_at-basic.result Ge c.tight_end-low.result c.term_at-basic.ensures.term c.tight_end-low.ensures.some in
    let high = bounds_of bounds equation.basic c.term_at-basic.result Le c.tight_end-high.result c.term_at-basic.ensures.term c.tight_end-high.ensures.some in
    let y_fits : FitsSigned w128 c.in-Err-broken_bound.excess.y = search rules in
    let denominator_fits : FitsSigned w128 equation.denominator = search rules in
    let formed = simp to_z-of_z at c.in-Err-broken_bound.ensures.formed in (
      c.term_at-basic.ensures.term,
      simp to_z-of_z (compare_step (bound_on bounds equation.basic) (IsLax bounds equation.basic) c.tight_end-low.result c.tight_end-high.result low high bounds equation c.in-Err-broken_bound.excess refl formed),
    )

pub returns-in-Ok-broken_bound-clause-some : goal.returns-in-Ok-broken_bound-clause-some
returns-in-Ok-broken_bound-clause-some c =
    let bounds = c.args.bounds.now in
    let equation = c.args.equation.now in
    let low = bounds_of bounds equation.basic c.term_at-basic.result Ge c.tight_end-low.result c.term_at-basic.ensures.term c.tight_end-low.ensures.some in
    let high = bounds_of bounds equation.basic c.term_at-basic.result Le c.tight_end-high.result c.term_at-basic.ensures.term c.tight_end-high.ensures.some in
    let denominator_fits : FitsSigned w128 equation.denominator = search rules in
    let numerator_fits : FitsSigned w128 c.in-Ok.numerator = search rules in
    let kept = simp to_z-of_z at c.in-Ok-broken_bound.ensures.some in
    let value : c.in-Ok.numerator ≡ numerator_of c.args.values.now equation = c.in-Ok.ensures.value in
    sides_break (bound_on bounds equation.basic) (IsLax bounds equation.basic) c.tight_end-low.result c.tight_end-high.result low high equation.denominator c.in-Ok.numerator (numerator_of c.args.values.now equation) value c.in-Ok-broken_bound.side kept

pub returns-in-Ok-broken_bound-clause-tight : goal.returns-in-Ok-broken_bound-clause-tight
returns-in-Ok-broken_bound-clause-tight c =
    let bounds = c.args.bounds.now in
    let equation = c.args.equation.now in
    let low = bounds_of bounds equation.basic c.term_at-basic.result Ge c.tight_end-low.result c.term_at-basic.ensures.term c.tight_end-low.ensures.some in
    let high = bounds_of bounds equation.basic c.term_at-basic.result Le c.tight_end-high.result c.term_at-basic.ensures.term c.tight_end-high.ensures.some in
    let tight_low = tight_of bounds equation.basic c.term_at-basic.result Ge c.tight_end-low.result c.term_at-basic.ensures.term c.tight_end-low.ensures.some c.tight_end-low.ensures.tight in
    let tight_high = tight_of bounds equation.basic c.term_at-basic.result Le c.tight_end-high.result c.term_at-basic.ensures.term c.tight_end-high.ensures.some c.tight_end-high.ensures.tight in
    let denominator_fits : FitsSigned w128 equation.denominator = search rules in
    let numerator_fits : FitsSigned w128 c.in-Ok.numerator = search rules in
    let kept = simp to_z-of_z at c.in-Ok-broken_bound.ensures.some in
    sides_tight (bound_on bounds equation.basic) (IsLax bounds equation.basic) c.tight_end-low.result c.tight_end-high.result low high equation.denominator c.in-Ok.numerator tight_low tight_high c.in-Ok-broken_bound.side kept

pub returns-in-Ok-broken_bound-clause-none : goal.returns-in-Ok-broken_bound-clause-none
returns-in-Ok-broken_bound-clause-none c =
    let bounds = c.args.bounds.now in
    let equation = c.args.equation.now in
    let low = bounds_of bounds equation.basic c.term_at-basic.result Ge c.tight_end-low.result c.term_at-basic.ensures.term c.tight_end-low.ensures.some in
    let high = bounds_of bounds equation.basic c.term_at-basic.result Le c.tight_end-high.result c.term_at-basic.ensures.term c.tight_end-high.ensures.some in
    let lax_low = lax_of bounds equation.basic c.term_at-basic.result Ge c.tight_end-low.result c.term_at-basic.ensures.term c.tight_end-low.ensures.none in
    let lax_high = lax_of bounds equation.basic c.term_at-basic.result Le c.tight_end-high.result c.term_at-basic.ensures.term c.tight_end-high.ensures.none in
    let denominator_fits : FitsSigned w128 equation.denominator = search rules in
    let numerator_fits : FitsSigned w128 c.in-Ok.numerator = search rules in
    let kept = simp to_z-of_z at c.in-Ok-broken_bound.ensures.none in
    let value : c.in-Ok.numerator ≡ numerator_of c.args.values.now equation = c.in-Ok.ensures.value in
    sides_keep (bound_on bounds equation.basic) (IsLax bounds equation.basic) c.tight_end-low.result c.tight_end-high.result low high equation.denominator c.in-Ok.numerator (numerator_of c.args.values.now equation) lax_low lax_high value c.in-Ok-broken_bound.side kept
