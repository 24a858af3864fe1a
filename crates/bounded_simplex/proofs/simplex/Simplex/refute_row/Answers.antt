use Rattle.std.proofs.Common.{◌≡◌, ℕ, ◌<◌, ◌⊎◌, length, get_or, pos, Ok, [], All, sym, ap, subst, ◌∙◌, inl, rules, arith}
use Rattle.wx_num.specs.Excess.{Overflows}
use Rattle.tableau_rows.specs.declared.equation.Equation.{Equation}
use Rattle.tableau_rows.specs.Equation.{total}
use Rattle.tableau_rows.specs.Substitution.{taken}
use Rattle.bounded_simplex.specs.Combination.{IsCombineStep}
use Rattle.bounded_simplex.specs.Event.{IsFormedAt}
use Rattle.bounded_simplex.specs.declared.excess.Place.TheVariants.{Combine}
use Rattle.mix_system.specs.declared.literal.Term.TheVariants.{Row}
use Rattle.bounded_simplex.specs.Refutation.{columns_of}
use Rattle.mix_system.specs.System.{System}
use Rattle.bounded_simplex.specs.TableauOf.{TableauOf, IsOfRow}
use Rattle.bounded_simplex.specs.Terms.{times_in_column}
use Rattle.bounded_simplex.proofs.BeyondLaws.{hinders, row_hindered, row_refutes}
use Rattle.bounded_simplex.proofs.CoefficientLaws.{cancels_out, term_of_row}
use Rattle.bounded_simplex.proofs.MoveLaws.{first_in_reach, row_term}
use Rattle.bounded_simplex.proofs.PivotLaws.{read_at}
use Rattle.bounded_simplex.proofs.StepLaws.{no_none}
use Rattle.bounded_simplex.proofs.WithinLaws.{entries_within, basic_within}
use Rattle.bounded_simplex.proofs.simplex.Simplex.refute_row.Goals as goal

pub refute-requires-clause-within : goal.refute-requires-clause-within
refute-requires-clause-within c =
    let s = c.args.self.now in
    let first = c.in_ok-first.first in
    let of = subst (λ (x : System). TableauOf x first.rows.items) c.system.ensures c.in_ok-first.ensures.tableau_of in
    let row = c.index.result.now in
    let within : c.args.row < length first.rows.items = omega (arith, c.requires.broken.within, of.one_each) in
    entries_within row (columns_of s.bounds.system) (λ column beyond. subst (λ (x : Equation). taken x column ≡ pos 0) (sym c.index.ensures) (of.known c.args.row row column within beyond))

pub refute-requires-clause-basic : goal.refute-requires-clause-basic
refute-requires-clause-basic c =
    let s = c.args.self.now in
    let first = c.in_ok-first.first in
    let of = subst (λ (x : System). TableauOf x first.rows.items) c.system.ensures c.in_ok-first.ensures.tableau_of in
    let row = c.index.result.now in
    let within : c.args.row < length first.rows.items = omega (arith, c.requires.broken.within, of.one_each) in
    basic_within row (columns_of s.bounds.system) (λ column beyond. subst (λ (x : Equation). taken x column ≡ pos 0) (sym c.index.ensures) (of.known c.args.row row column within beyond))

pub refute-requires-clause-cancels : goal.refute-requires-clause-cancels
refute-requires-clause-cancels c = λ var.
    let s = c.args.self.now in
    let first = c.in_ok-first.first in
    let of = subst (λ (x : System). TableauOf x first.rows.items) c.system.ensures c.in_ok-first.ensures.tableau_of in
    let row = c.index.result.now in
    let within : c.args.row < length first.rows.items = omega (arith, c.requires.broken.within, of.one_each) in
    subst (λ (x : Equation). total (times_in_column s.bounds.system var) x.entries.items ≡ pos 0) (sym c.index.ensures)
    (cancels_out s.bounds.system first.rows.items c.requires.broken.formed of c.args.row row within var)

pub returns-in-Ok-None-clause-answer : goal.returns-in-Ok-None-clause-answer
returns-in-Ok-None-clause-answer c =
    let s = c.args.self.now in
    let broken = c.requires.broken in
    let first = c.in_ok-first.first in
    let of = subst (λ (x : System). TableauOf x first.rows.items) c.system.ensures c.in_ok-first.ensures.tableau_of in
    let row = c.index.result.now in
    let within : c.args.row < length first.rows.items = omega (arith, broken.within, of.one_each) in
    let each = subst (λ (x : System). (k : ℕ) (d : Equation) → k < length first.rows.items → IsOfRow x k (get_or first.rows.items k d)) c.system.ensures c.in_ok-first.ensures.rows in
    let of_row = subst (IsOfRow s.bounds.system c.args.row) (sym c.index.ensures) (each c.args.row row within) in
    let is_row = broken.formed.rows c.args.row [] broken.within in
    let number = hinders s.bounds c.args.upwards c.args.row broken.within row of_row is_row c.requires.apart broken.bound in
    let hindered = row_hindered s.bounds c.args.upwards c.args.row broken.within row of_row is_row c.requires.apart broken.bound broken.is in
    let less = row_refutes s.bounds c.args.upwards c.args.row broken.within row of_row is_row c.requires.apart broken.bound broken.beyond in
    absurd (no_none c.in_ok-farkas.field-0 (c.in-Ok-None.is ∙ ap Ok c.in-Ok-None.field-0-is) (c.in_ok-farkas.ensures.found number hindered less))

pub returns-clause-answer : goal.returns-clause-answer
returns-clause-answer c =
    let s = c.args.self.now in
    let broken = c.requires.broken in
    let first = c.in_ok-first.first in
    let of = subst (λ (x : System). TableauOf x first.rows.items) c.system.ensures c.in_ok-first.ensures.tableau_of in
    let row = c.index.result.now in
    let within : c.args.row < length first.rows.items = omega (arith, broken.within, of.one_each) in
    let each = subst (λ (x : System). (k : ℕ) (d : Equation) → k < length first.rows.items → IsOfRow x k (get_or first.rows.items k d)) c.system.ensures c.in_ok-first.ensures.rows in
    let of_row = subst (IsOfRow s.bounds.system c.args.row) (sym c.index.ensures) (each c.args.row row within) in
    let step : IsCombineStep s.bounds row c.in-Err.excess = search rules in
    let over : Overflows c.in-Err.excess = search rules in (
      record {
        formed = inl (record {
          at = c.args.row;
          within = within;
          formed = λ d. subst (λ (x : Equation). IsFormedAt s.bounds s.values.items x (Combine (Row c.args.row)) c.in-Err.excess) (read_at first.rows.items c.args.row row d within c.index.ensures)
              (row_term s.bounds.system c.args.row row of_row, step);
        });
        overflows = over;
      },
      tt,
    )

pub invariant_of-self-clause-in_reach : goal.invariant_of-self-clause-in_reach
invariant_of-self-clause-in_reach c =
    let s = c.args.self.now in
    let first = c.in_ok-first.first in
    let of = subst (λ (x : System). TableauOf x first.rows.items) c.system.ensures c.in_ok-first.ensures.tableau_of in
    let each = subst (λ (x : System). (k : ℕ) (d : Equation) → k < length first.rows.items → IsOfRow x k (get_or first.rows.items k d)) c.system.ensures c.in_ok-first.ensures.rows in
    first_in_reach s.bounds.system first.rows.items s.values.items of.one_each each s.in_reach.vars
