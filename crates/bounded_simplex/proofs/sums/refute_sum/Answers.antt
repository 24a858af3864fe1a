use Rattle.std.proofs.Common.{◌≡◌, ◌<◌, length, pos, sym, subst, rules, arith}
use Rattle.wx_num.specs.Excess.{Overflows}
use Rattle.tableau_rows.specs.declared.equation.Equation.{Equation}
use Rattle.tableau_rows.specs.Equation.{total}
use Rattle.tableau_rows.specs.Substitution.{taken}
use Rattle.bounded_simplex.specs.Combination.{IsCombineStep}
use Rattle.bounded_simplex.specs.Refutation.{columns_of}
use Rattle.bounded_simplex.specs.TableauOf.{IsOfRow}
use Rattle.bounded_simplex.specs.Terms.{times_in_column}
use Rattle.bounded_simplex.proofs.CoefficientLaws.{cancels_out}
use Rattle.bounded_simplex.proofs.RowSumLaws.{keeps_where_none, keeps_where_fits}
use Rattle.bounded_simplex.proofs.WithinLaws.{entries_within, basic_within}
use Rattle.bounded_simplex.proofs.sums.refute_sum.Goals as goal

pub refute-requires-clause-within : goal.refute-requires-clause-within
refute-requires-clause-within c =
    let row = c.index.result.now in
    let within : c.args.row < length c.args.first.now.rows.items = omega (arith, c.requires.within, c.requires.tableau_of.one_each) in
    entries_within row (columns_of c.args.bounds.now.system) (λ column beyond. subst (λ (x : Equation). taken x column ≡ pos 0) (sym c.index.ensures) (c.requires.tableau_of.known c.args.row row column within beyond))

pub refute-requires-clause-basic : goal.refute-requires-clause-basic
refute-requires-clause-basic c =
    let row = c.index.result.now in
    let within : c.args.row < length c.args.first.now.rows.items = omega (arith, c.requires.within, c.requires.tableau_of.one_each) in
    basic_within row (columns_of c.args.bounds.now.system) (λ column beyond. subst (λ (x : Equation). taken x column ≡ pos 0) (sym c.index.ensures) (c.requires.tableau_of.known c.args.row row column within beyond))

pub refute-requires-clause-cancels : goal.refute-requires-clause-cancels
refute-requires-clause-cancels c = λ var.
    let row = c.index.result.now in
    let within : c.args.row < length c.args.first.now.rows.items = omega (arith, c.requires.within, c.requires.tableau_of.one_each) in
    subst (λ (x : Equation). total (times_in_column c.args.bounds.now.system var) x.entries.items ≡ pos 0) (sym c.index.ensures)
    (cancels_out c.args.bounds.now.system c.args.first.now.rows.items c.requires.well_formed c.requires.tableau_of c.args.row row within var)

pub returns-in-Ok-clause-none : goal.returns-in-Ok-clause-none
returns-in-Ok-clause-none c =
    let row = c.index.result.now in
    let is = subst (IsOfRow c.args.bounds.now.system c.args.row) (sym c.index.ensures) (c.requires.of_row row) in
    keeps_where_none c.args.bounds.now c.args.upwards c.args.row row c.in-Ok.found c.in_ok-found.field-0 c.requires.within is c.in-Ok.is c.in_ok-found.ensures.found

pub returns-in-Err-clause-none : goal.returns-in-Err-clause-none
returns-in-Err-clause-none c =
    let row = c.index.result.now in
    let is = subst (IsOfRow c.args.bounds.now.system c.args.row) (sym c.index.ensures) (c.requires.of_row row) in
    let of : IsCombineStep c.args.bounds.now row c.in-Err.field-0 = search rules in
    let over : Overflows c.in-Err.field-0 = search rules in
    keeps_where_fits c.args.bounds.now c.args.upwards c.args.row row c.in-Err.field-0 c.requires.within is of over
