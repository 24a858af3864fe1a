use Rattle.std.proofs.Common.{ℕ, ◌<◌, length, get_or, sym, subst}
use Rattle.mix_system.specs.System.{System}
use Rattle.tableau_rows.specs.declared.equation.Equation.{Equation}
use Rattle.bounded_simplex.specs.TableauOf.{TableauOf, IsOfRow}
use Rattle.bounded_simplex.proofs.MoveLaws.{first_in_reach}
use Rattle.bounded_simplex.proofs.simplex.Simplex.first_basis.Goals as goal

pub invariant_of-self-clause-tableau_of : goal.invariant_of-self-clause-tableau_of
invariant_of-self-clause-tableau_of c = subst (λ (of : System). TableauOf of c.in_ok-self.field-0.rows.items) c.system.ensures c.in_ok-self.ensures.tableau_of

pub invariant_of-self-clause-in_reach : goal.invariant_of-self-clause-in_reach
invariant_of-self-clause-in_reach c =
    let s = c.args.self.now in
    let rows = c.in_ok-self.field-0.rows.items in
    let of = subst (λ (of : System). TableauOf of rows) c.system.ensures c.in_ok-self.ensures.tableau_of in
    let each = subst (λ (of : System). (k : ℕ) (d : Equation) → k < length rows → IsOfRow of k (get_or rows k d)) c.system.ensures c.in_ok-self.ensures.rows in
    first_in_reach s.bounds.system rows s.values.items of.one_each each s.in_reach.vars
