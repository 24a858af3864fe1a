use Rattle.std.proofs.Common.{FitsSigned, sym, subst, ◌∙◌, rules, arith}
use Rattle.std.specs.Int.{w128}
use Rattle.std.proofs.lemmas.Int.{ints}
use Rattle.std.proofs.lemmas.List.Elements.{All-same}
use Rattle.tableau_rows.specs.Equation.{unit, coefficient, IsSparse}
use Rattle.tableau_rows.proofs.DivisionLaws.{Divides, divided_sums, divided_sparse, divided_reduced, keeps_basic}
use Rattle.tableau_rows.proofs.equation.Equation.reduced.Goals as goal

pub divided-entries-requires-clause-divides : goal.divided-entries-requires-clause-divides
divided-entries-requires-clause-divides c =
    All-same (Divides c.common_divisor-divisor.result) c.args.entries.items _ (sym c.deref.ensures.value) c.common_divisor-divisor.ensures.divides

pub coefficient_of-denominator-requires : goal.coefficient_of-denominator-requires
coefficient_of-denominator-requires c =
    subst IsSparse (sym c.deref-2.ensures.value) (divided_sparse c.common_divisor-divisor.result c.args.entries.items _ c.divided-entries.ensures c.requires.sparse)

pub overflow_sub-denominator : goal.overflow_sub-denominator
overflow_sub-denominator c =
    let divided = c.divided-entries.result.items in
    let coeff_fits : FitsSigned w128 c.coefficient_of-denominator.result = search rules in
    let is = rw c.deref-2.ensures.value at c.coefficient_of-denominator.ensures in
    let kept = keeps_basic c.common_divisor-divisor.result _ (coefficient divided c.args.basic) (divided_sums c.common_divisor-divisor.result c.args.entries.items divided c.divided-entries.ensures (unit c.args.basic)) c.requires.below c.requires.fits in
    let fits = rw (← is) at kept.fits in
    omega (arith, ints, fits)

pub invariant_of-result : goal.invariant_of-result
invariant_of-result c =
    let divided = c.divided-entries.result.items in
    let divisor = c.common_divisor-divisor.result in
    let coeff_fits : FitsSigned w128 c.coefficient_of-denominator.result = search rules in
    let is = rw c.deref-2.ensures.value at c.coefficient_of-denominator.ensures in
    let kept = keeps_basic divisor _ (coefficient divided c.args.basic) (divided_sums divisor c.args.entries.items divided c.divided-entries.ensures (unit c.args.basic)) c.requires.below c.requires.fits in
    let fits = rw (← is) at kept.fits in
    let below = rw (← is) at kept.below in
    let greatest = rw (c.deref.ensures.value) at c.common_divisor-divisor.ensures.greatest in
    record {
      sound = record {
        sparse = divided_sparse divisor c.args.entries.items divided c.divided-entries.ensures c.requires.sparse;
        reduced = divided_reduced divisor c.args.entries.items divided c.divided-entries.ensures kept.positive greatest;
        positive = omega (arith, ints, fits, below);
        solved = sym is ∙ omega (arith, ints, fits, below);
      };
    }

pub returns-clause-sums : goal.returns-clause-sums
returns-clause-sums c =
    let divided = c.divided-entries.result.items in
    let divisor = c.common_divisor-divisor.result in
    let kept = keeps_basic divisor _ (coefficient divided c.args.basic) (divided_sums divisor c.args.entries.items divided c.divided-entries.ensures (unit c.args.basic)) c.requires.below c.requires.fits in
    (divisor, kept.positive, divided_sums divisor c.args.entries.items divided c.divided-entries.ensures)
