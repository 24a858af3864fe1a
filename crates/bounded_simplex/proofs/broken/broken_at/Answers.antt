use Rattle.std.proofs.Common.{◌≡◌, pos, sym, ap, subst}
use Rattle.tableau_rows.specs.declared.equation.Equation.{Equation}
use Rattle.tableau_rows.specs.Substitution.{taken}
use Rattle.bounded_simplex.specs.Event.{IsFormedAt}
use Rattle.bounded_simplex.specs.Lax.{IsLax}
use Rattle.bounded_simplex.specs.Point.{Keeps}
use Rattle.bounded_simplex.specs.Refutation.{columns_of}
use Rattle.bounded_simplex.proofs.PivotLaws.{read_at}
use Rattle.bounded_simplex.proofs.WithinLaws.{entries_within, basic_within}
use Rattle.bounded_simplex.proofs.broken.broken_at.Goals as goal

pub broken_side-requires-clause-known : goal.broken_side-requires-clause-known
broken_side-requires-clause-known c =
    let row = c.index-rows-at.result in
    entries_within row (columns_of c.args.bounds.now.system) (λ column beyond. subst (λ (x : Equation). taken x column ≡ pos 0) (sym c.index-rows-at.is) (c.requires.known c.args.at row column c.requires.at beyond))

pub broken_side-requires-clause-basic : goal.broken_side-requires-clause-basic
broken_side-requires-clause-basic c =
    let row = c.index-rows-at.result in
    basic_within row (columns_of c.args.bounds.now.system) (λ column beyond. subst (λ (x : Equation). taken x column ≡ pos 0) (sym c.index-rows-at.is) (c.requires.known c.args.at row column c.requires.at beyond))

pub returns-in-Err-clause-formed : goal.returns-in-Err-clause-formed
returns-in-Err-clause-formed c =
    record {
      at = c.args.at;
      within = c.requires.at;
      formed = λ d. subst (λ (x : Equation). IsFormedAt c.args.bounds.now c.args.values.now x c.in-Err.fault.place c.in-Err.fault.excess)
          (read_at c.args.rows.now c.args.at c.index-rows-at.result d c.requires.at c.index-rows-at.is) c.in-Err.ensures.formed;
    }

pub returns-in-Ok-Some-clause-broken : goal.returns-in-Ok-Some-clause-broken
returns-in-Ok-Some-clause-broken c =
    let breaks = rw c.in-Ok-Some.field-0-is at c.in-Ok-Some.ensures.some in
    let tight = rw c.in-Ok-Some.field-0-is at c.in-Ok-Some.ensures.tight in
    let read = λ (d : Equation). read_at c.args.rows.now c.args.at c.index-rows-at.result d c.requires.at c.index-rows-at.is in
    record {
      within = c.requires.at;
      basic = λ d. ap (λ (x : Equation). x.basic) (read d);
      breaks = λ d. subst (λ (x : Equation). ¬ Keeps c.args.bounds.now c.args.values.now x c.in-Ok-Some.side) (read d) breaks;
      tight = λ d. subst (λ (x : Equation). ¬ IsLax c.args.bounds.now x.basic c.in-Ok-Some.side) (read d) tight;
    }
