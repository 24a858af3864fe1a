use Rattle.std.proofs.Common.{◌<◌, length, sym, ap, subst, ◌∙◌, rules, arith}
use Rattle.bounded_simplex.specs.InForce.{in_force}
use Rattle.bounded_simplex.specs.Lax.{IsLax}
use Rattle.bounded_simplex.specs.Reach.{AreInReach}
use Rattle.bounded_simplex.specs.Pivot.{ArePivoted, IsPivotExcess}
use Rattle.bounded_simplex.specs.Point.{AreInBounds}
use Rattle.bounded_simplex.specs.Refutation.{columns_of}
use Rattle.bounded_simplex.proofs.MoveLaws.{some_equation, left_in_reach}
use Rattle.bounded_simplex.proofs.PivotLaws.{pivot_tableau}
use Rattle.bounded_simplex.proofs.StepLaws.{at_bound_in_bounds}
use Rattle.bounded_simplex.proofs.WithinLaws.{basic_known, taken_known}
use Rattle.bounded_simplex.proofs.simplex.Simplex.exchange.Goals as goal

pub term_at-basic-requires : goal.term_at-basic-requires
term_at-basic-requires c =
    let s = c.args.self.now in
    basic_known (columns_of s.bounds.system) s.tableau.rows.items c.args.broken.at c.args.broken.basic s.tableau_of.known c.requires.broken.within c.requires.broken.basic

pub term_at-entering-requires : goal.term_at-entering-requires
term_at-entering-requires c =
    let s = c.args.self.now in
    taken_known (columns_of s.bounds.system) s.tableau.rows.items c.args.broken.at c.args.column s.tableau_of.known c.requires.broken.within c.requires.takes

pub term_at-changed-requires : goal.term_at-changed-requires
term_at-changed-requires c =
    let s = c.args.self.now in
    let step : IsPivotExcess s.tableau.rows.items c.args.broken.at c.args.column c.in-Err.field-0.changed c.in-Err.field-0.excess = search rules in
    basic_known (columns_of s.bounds.system) s.tableau.rows.items step.place c.in-Err.field-0.changed s.tableau_of.known step.within step.basic

pub invariant_of-self-in-Ok-clause-tableau_of : goal.invariant_of-self-in-Ok-clause-tableau_of
invariant_of-self-in-Ok-clause-tableau_of c =
    let s = c.args.self.now in
    let pivoted : ArePivoted c.args.broken.at c.args.column s.tableau.rows.items c.pivot.new.self.rows.items = search rules in
    pivot_tableau c.args.broken.at c.args.column s.tableau.rows.items c.pivot.new.self.rows.items c.requires.broken.within pivoted s.bounds.system s.tableau_of

pub returns-in-Ok-clause-in_bounds : goal.returns-in-Ok-clause-in_bounds
returns-in-Ok-clause-in_bounds c =
    let s = c.args.self.now in
    let within = basic_known (columns_of s.bounds.system) s.tableau.rows.items c.args.broken.at c.args.broken.basic s.tableau_of.known c.requires.broken.within c.requires.broken.basic in
    let is = c.put_at_bound.ensures in
    let end = c.end-bound.ensures ∙ ap (λ t. in_force s.bounds t c.args.broken.side) c.term_at-basic.ensures.term in
    subst (AreInBounds s.bounds) (sym is) (at_bound_in_bounds s.bounds s.values.items c.args.broken.basic c.args.broken.side c.end-bound.result (omega (arith, within, s.one_each)) end c.requires.in_bounds)

pub invariant_of-self-in-Ok-clause-in_reach : goal.invariant_of-self-in-Ok-clause-in_reach
invariant_of-self-in-Ok-clause-in_reach c =
    let s = c.args.self.now in
    let broken = c.requires.broken in
    let basic = c.args.broken.basic in
    let side = c.args.broken.side in
    let pivoted : ArePivoted c.args.broken.at c.args.column s.tableau.rows.items c.pivot.new.self.rows.items = search rules in
    let known = basic_known (columns_of s.bounds.system) s.tableau.rows.items c.args.broken.at basic s.tableau_of.known broken.within broken.basic in
    let inside : basic < length s.values.items = omega (arith, known, s.one_each) in
    let row = some_equation s.tableau.rows.items c.args.broken.at broken.within in
    let tight = subst (λ column. ¬ IsLax s.bounds column side) (sym (broken.basic row)) (broken.tight row) in
    let end = c.end-bound.ensures ∙ ap (λ t. in_force s.bounds t side) c.term_at-basic.ensures.term in
    let in_bounds = at_bound_in_bounds s.bounds s.values.items basic side c.end-bound.result inside end c.requires.in_bounds in
    subst (AreInReach s.bounds.system c.pivot.new.self.rows.items) (sym c.put_at_bound.ensures)
    (left_in_reach s.bounds s.reaches.items c.requires.room s.tableau.rows.items c.pivot.new.self.rows.items s.values.items c.args.broken.at c.args.column basic broken.within pivoted broken.basic side c.end-bound.result end inside s.one_each tight s.in_reach in_bounds)
