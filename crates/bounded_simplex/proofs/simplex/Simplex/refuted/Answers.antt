use Rattle.std.proofs.Common.{◌≡◌, ◌⊎◌, pos, All, sym, ap, subst, ◌∙◌, inl, Ok, rules}
use Rattle.wx_num.specs.Excess.{Overflows}
use Rattle.mix_system.specs.Row.{number_at}
use Rattle.tableau_rows.specs.declared.entry.Entry.{Entry}
use Rattle.tableau_rows.specs.declared.equation.Equation.{Equation}
use Rattle.tableau_rows.specs.Equation.{total}
use Rattle.tableau_rows.specs.Substitution.{taken}
use Rattle.bounded_simplex.specs.Broken.{side_of}
use Rattle.bounded_simplex.specs.Combination.{IsCombineStep}
use Rattle.bounded_simplex.specs.Event.{IsFormedAt}
use Rattle.bounded_simplex.specs.declared.excess.Place.TheVariants.{Combine}
use Rattle.bounded_simplex.specs.Point.{Keeps, numerator_of}
use Rattle.bounded_simplex.specs.Refutation.{columns_of, bound_on, IsHindered}
use Rattle.bounded_simplex.specs.Terms.{times_in_column}
use Rattle.bounded_simplex.proofs.CoefficientLaws.{cancels_out}
use Rattle.bounded_simplex.proofs.PivotLaws.{read_at}
use Rattle.bounded_simplex.proofs.StepLaws.{no_none, bounded_values, broken_bound, order_hindered, refutes_below}
use Rattle.bounded_simplex.proofs.WithinLaws.{entries_within, basic_within}
use Rattle.bounded_simplex.proofs.simplex.Simplex.refuted.Goals as goal

pub refute-requires-clause-within : goal.refute-requires-clause-within
refute-requires-clause-within c =
    let s = c.args.self.now in
    let row = c.index-equation.result.now in
    entries_within row (columns_of s.bounds.system) (λ column beyond. subst (λ (x : Equation). taken x column ≡ pos 0) (sym c.index-equation.ensures) (s.tableau_of.known c.args.broken.at row column c.requires.broken.within beyond))

pub refute-requires-clause-basic : goal.refute-requires-clause-basic
refute-requires-clause-basic c =
    let s = c.args.self.now in
    let row = c.index-equation.result.now in
    basic_within row (columns_of s.bounds.system) (λ column beyond. subst (λ (x : Equation). taken x column ≡ pos 0) (sym c.index-equation.ensures) (s.tableau_of.known c.args.broken.at row column c.requires.broken.within beyond))

pub refute-requires-clause-cancels : goal.refute-requires-clause-cancels
refute-requires-clause-cancels c =
    let s = c.args.self.now in
    let row = c.index-equation.result.now in
    λ var. subst (λ (x : Equation). total (times_in_column s.bounds.system var) x.entries.items ≡ pos 0) (sym c.index-equation.ensures)
    (cancels_out s.bounds.system s.tableau.rows.items c.term_at-basic.ensures.well_formed s.tableau_of c.args.broken.at row c.requires.broken.within var)

pub returns-in-Ok-None : goal.returns-in-Ok-None
returns-in-Ok-None c =
    let s = c.args.self.now in
    let row = c.index-equation.result.now in
    let up = c.args.upwards in
    let is = sym c.index-equation.ensures in
    let broken_row = subst (λ (x : Equation). ¬ Keeps s.bounds s.values.items x c.args.broken.side) is (c.requires.broken.breaks row) in
    let broken = subst (λ side. ¬ Keeps s.bounds s.values.items row side) c.requires.upwards broken_row in
    let (bound, bounded) = broken_bound (side_of up) (bound_on s.bounds row.basic (side_of up)) row.denominator (numerator_of s.values.items row) broken in
    let stays = subst (λ (x : Equation). All (λ (entry : Entry). (entry.column ≡ x.basic) ⊎ IsHindered s.bounds up (number_at s.values.items) entry) x.entries.items) is (c.requires.stays row) in
    let hindered = order_hindered s.bounds s.values.items row up bound bounded stays in
    let below = refutes_below s.bounds s.values.items row up bound bounded broken in
    let found = c.in_ok-farkas.ensures.found (bounded_values s.bounds s.values.items row up bound bounded) hindered below in
    absurd (no_none c.in_ok-farkas.field-0 (c.in-Ok-None.is ∙ ap Ok c.in-Ok-None.field-0-is) found)

pub returns-in-Err : goal.returns-in-Err
returns-in-Err c =
    let s = c.args.self.now in
    let row = c.index-equation.result.now in
    let step : IsCombineStep s.bounds row c.in-Err.excess = search rules in
    let over : Overflows c.in-Err.excess = search rules in record {
      answer = (
        record {
          formed = inl (record {
            at = c.args.broken.at;
            within = c.requires.broken.within;
            formed = λ d. subst (λ (x : Equation). IsFormedAt s.bounds s.values.items x (Combine c.term_at-basic.result) c.in-Err.excess)
                (read_at s.tableau.rows.items c.args.broken.at row d c.requires.broken.within c.index-equation.ensures) (c.term_at-basic.ensures.term, step);
          });
          overflows = over;
        },
        tt,
      );
    }
