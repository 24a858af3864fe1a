use Rattle.std.proofs.Common.{◌≡◌, ◌≢◌, ◌⊎◌, ℕ, ◌<◌, length, get_or, pos, sym, ap, subst, ◌∙◌, rules}
use Rattle.std.specs.Prelude.{IfSome, IfNone}
use Rattle.mix_system.specs.Row.{number_at}
use Rattle.tableau_rows.specs.declared.entry.Entry.{Entry}
use Rattle.tableau_rows.specs.Substitution.{taken}
use Rattle.bounded_simplex.specs.Refutation.{IsHindered}
use Rattle.bounded_simplex.specs.declared.entering.Helper.{Helper}
use Rattle.bounded_simplex.proofs.EachLaws.{each_more, of_both_some, of_both_none, some_also}
use Rattle.bounded_simplex.proofs.WithinLaws.{entry_taken}
use Rattle.bounded_simplex.proofs.entering.entering.Goals as goal

blank : Entry
blank = record { column = 0; coeff = pos 0 }

pub loop-entry-preserved : goal.loop-entry-preserved
unfolding blank
loop-entry-preserved c =
    let equation = c.args.equation.now in
    let entries = c.deref-entry-items.result.now in
    let i = c.loop-entry.entry-index in
    let basic = equation.basic in
    let entry = get_or entries i blank in
    let found = c.loop-entry.found in
    let next = c.helper_of-next.result in
    let result = c.cheaper-found.result in
    let within : i < length equation.entries.items = subst (λ es. i < length es) c.deref-entry-items.ensures.value c.loop-entry-test.true in
    let here : IfNone next ((entry.column ≡ basic) ⊎ IsHindered c.args.bounds.now c.args.upwards (number_at c.args.values.now) entry) = search rules in
    let column : IfSome next (λ (helper : Helper). helper.column ≡ entry.column) = search rules in
    let takes : taken equation entry.column ≢ pos 0 =
    subst (λ es. taken equation (get_or es i blank).column ≢ pos 0) (sym c.deref-entry-items.ensures.value) (entry_taken equation i blank within) in
    record {
      none = of_both_none found next result c.cheaper-found.ensures.none c.loop-entry.invariant.none here
          (λ before now. each_more (λ (e : Entry). (e.column ≡ basic) ⊎ IsHindered c.args.bounds.now c.args.upwards (number_at c.args.values.now) e) entries i blank c.loop-entry-test.true before now);
      other = of_both_some (λ (helper : Helper). basic ≢ helper.column) found next result c.cheaper-found.ensures.of_both c.loop-entry.invariant.other c.helper_of-next.ensures.other;
      taken = of_both_some (λ (helper : Helper). taken equation helper.column ≢ pos 0) found next result c.cheaper-found.ensures.of_both c.loop-entry.invariant.taken
          (some_also (λ (helper : Helper). helper.column ≡ entry.column) (λ (helper : Helper). taken equation helper.column ≢ pos 0) next column (λ helper same none. takes (ap (taken equation) (sym same) ∙ none)));
    }
