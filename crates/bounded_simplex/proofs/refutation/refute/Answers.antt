use Rattle.std.proofs.Common.{◌≡◌, ◌<◌, None, length, get_or, pos, ◌<ℤ◌, FitsSigned, All, sym, ap, subst, ◌∙◌, rules, arith}
use Rattle.std.specs.Int.{w128}
use Rattle.std.proofs.lemmas.Int.{ints}
use Rattle.tableau_rows.specs.declared.entry.Entry.{Entry}
use Rattle.bounded_simplex.specs.Combination.{AreWorked, IsPut, IsPutStep}
use Rattle.bounded_simplex.specs.Refutation.{columns_of, bound_on, hindering}
use Rattle.bounded_simplex.proofs.RefutationLaws.{Refuting, front_all, first_put, first_step, next_skip, next_put, next_step, next_found, refuting_end, refuting_found}
use Rattle.bounded_simplex.proofs.StepLaws.{ok_true}
use Rattle.bounded_simplex.proofs.refutation.refute.Goals as goal

blank : Entry
blank = record { column = 0; coeff = pos 0 }

pub returns-in-Err-clause-step : goal.returns-in-Err-clause-step
returns-in-Err-clause-step c =
    let put : IsPutStep c.args.bounds.now c.args.upwards c.own_entry-own.result c.in_ok-combination.combination.parts c.in-Err.excess = search rules in
    first_step c.args.bounds.now c.args.upwards c.args.equation.now c.own_entry-own.result c.in_ok-combination.combination.parts c.in-Err.excess c.own_entry-own.ensures.is c.in_ok-combination.ensures.none put

pub loop-entry-init : goal.loop-entry-init
loop-entry-init c =
    let put = ok_true (IsPut c.args.bounds.now c.args.upwards c.own_entry-own.result c.in_ok-combination.combination.parts c.put_entry.new.combination.parts)
    c.in_ok-put_entry.field-0 c.in-Ok-true.field-0 c.in-Ok-true.is c.in-Ok-true.field-0-test c.in_ok-put_entry.ensures.put in
    let worked : AreWorked c.args.bounds.now.system.rows c.put_entry.new.combination.parts c.put_entry.new.combination.sums.items c.put_entry.new.combination.constant = search rules in
    record {
      refuting = first_put c.args.bounds.now c.args.upwards c.args.equation.now c.own_entry-own.result c.in_ok-combination.combination.parts c.put_entry.new.combination.parts
          c.own_entry-own.ensures.is c.in_ok-combination.ensures.none c.requires.basic put;
      worked = worked;
      count = c.put_entry.ensures.count ∙ c.in_ok-combination.ensures.count ∙ c.vars.ensures.count ∙ ap (λ s. length s.ranges) c.system.ensures;
    }

pub loop-entry-preserved-then-entry-equation : goal.loop-entry-preserved-then-entry-equation
loop-entry-preserved-then-entry-equation c = record {
  refuting = next_skip c.args.bounds.now c.args.upwards c.args.equation.now c.deref-entry-items.result.now c.deref-entry-items.ensures.value c.loop-entry.entry-index (record { column = 0; coeff = pos 0 }) c.loop-entry-test.true
      c.loop-entry.combination.parts c.if-entry-equation.true c.loop-entry.invariant.refuting;
  worked = c.loop-entry.invariant.worked;
  count = c.loop-entry.invariant.count;
}

pub returns-in-Ok-false-2-clause-found : goal.returns-in-Ok-false-2-clause-found
unfolding blank
returns-in-Ok-false-2-clause-found c = λ number hindered less.
    let bounds = c.args.bounds.now in
    let es = c.deref-entry-items.result.now in
    let entry = get_or es c.loop-entry.entry-index blank in
    let none : bound_on bounds entry.column (hindering c.args.upwards entry.coeff) ≡ None = search rules in
    absurd (next_found bounds c.args.upwards c.args.equation.now es c.deref-entry-items.ensures.value c.loop-entry.entry-index blank c.loop-entry-test.true number c.if-entry-equation.false none hindered)

pub returns-in-Err-2-clause-step : goal.returns-in-Err-2-clause-step
unfolding blank
returns-in-Err-2-clause-step c =
    let es = c.deref-entry-items.result.now in
    let entry = get_or es c.loop-entry.entry-index blank in
    let put : IsPutStep c.args.bounds.now c.args.upwards entry c.loop-entry.combination.parts c.in-Err-2.excess = search rules in
    next_step c.args.bounds.now c.args.upwards c.args.equation.now es c.deref-entry-items.ensures.value c.loop-entry.entry-index blank c.loop-entry-test.true
    c.loop-entry.combination.parts c.in-Err-2.excess c.if-entry-equation.false c.loop-entry.invariant.refuting put

pub loop-entry-preserved : goal.loop-entry-preserved
unfolding blank
loop-entry-preserved c =
    let bounds = c.args.bounds.now in
    let es = c.deref-entry-items.result.now in
    let i = c.loop-entry.entry-index in
    let entry = get_or es i blank in
    let new = c.put_entry-in-loop-entry.new.combination in
    let all = subst (λ xs. All (λ (e : Entry). e.column < columns_of bounds.system) xs) (sym c.deref-entry-items.ensures.value) c.requires.within in
    let put = ok_true (IsPut bounds c.args.upwards entry c.loop-entry.combination.parts new.parts)
    c.in_ok-put_entry-2.field-0 c.in-Ok-true-2.field-0 c.in-Ok-true-2.is c.in-Ok-true-2.field-0-test c.in_ok-put_entry-2.ensures.put in
    let worked : AreWorked bounds.system.rows new.parts new.sums.items new.constant = search rules in
    record {
      refuting = next_put bounds c.args.upwards c.args.equation.now es c.deref-entry-items.ensures.value i blank c.loop-entry-test.true
          c.loop-entry.combination.parts new.parts c.if-entry-equation.false (all i blank c.loop-entry-test.true) put c.loop-entry.invariant.refuting;
      worked = worked;
      count = c.put_entry-in-loop-entry.ensures.count ∙ c.loop-entry.invariant.count;
    }

pub returns-then-combination-lt0-clause-refutation : goal.returns-then-combination-lt0-clause-refutation
returns-then-combination-lt0-clause-refutation c =
    let bounds = c.args.bounds.now in
    let new = c.loop-entry.combination in
    let fits : FitsSigned w128 new.constant = search rules in
    let below : new.constant <ℤ pos 0 = omega (arith, ints, c.if-combination-lt0.true) in
    let done = subst (λ xs. Refuting bounds c.args.upwards xs new.parts)
    (front_all bounds c.args.upwards c.args.equation.now c.loop-entry.entry-index (omega (arith, c.loop-entry-test.false, ap length c.deref-entry-items.ensures.value))) c.loop-entry.invariant.refuting in
    refuting_end bounds c.args.upwards c.args.equation.now new.parts new.sums.items new.constant done c.loop-entry.invariant.worked c.requires.cancels below

pub returns-clause-found : goal.returns-clause-found
returns-clause-found c = λ number hindered less.
    let bounds = c.args.bounds.now in
    let new = c.loop-entry.combination in
    let fits : FitsSigned w128 new.constant = search rules in
    let done = subst (λ xs. Refuting bounds c.args.upwards xs new.parts)
    (front_all bounds c.args.upwards c.args.equation.now c.loop-entry.entry-index (omega (arith, c.loop-entry-test.false, ap length c.deref-entry-items.ensures.value))) c.loop-entry.invariant.refuting in
    let below = refuting_found bounds c.args.upwards c.args.equation.now new.parts new.sums.items new.constant done c.loop-entry.invariant.worked number hindered less in
    absurd (omega (arith, ints, below, c.if-combination-lt0.false))
