use Rattle.std.proofs.Common.{◌≡◌, ◌⊎◌, All, rules, arith}
use Rattle.mix_system.specs.declared.literal.Side.{Side}
use Rattle.mix_system.specs.Tally.{pivot_bound}
use Rattle.tableau_rows.specs.declared.equation.Equation.{Equation}
use Rattle.bounded_simplex.specs.Broken.{IsBroken}
use Rattle.mix_system.specs.System.{IsWellFormed}
use Rattle.bounded_simplex.specs.Lax.{IsLax}
use Rattle.bounded_simplex.specs.Point.{Keeps}
use Rattle.bounded_simplex.proofs.PointLaws.{point_from, beyond_from}
use Rattle.bounded_simplex.proofs.simplex.Simplex.pivots.Goals as goal

pub returns-in-Ok-None-clause-answer : goal.returns-in-Ok-None-clause-answer
returns-in-Ok-None-clause-answer c =
    let s = c.loop-broken.self in
    let all_now : All (λ (equation : Equation). (side : Side) → Keeps s.bounds c.deref-in-loop-broken-2.result.now equation side ⊎ IsLax s.bounds equation.basic side) c.deref-in-loop-broken.result.now = search rules in
    let all = rw (c.deref-in-loop-broken.ensures.value, c.deref-in-loop-broken-2.ensures.value) at all_now in
    let formed : IsWellFormed s.bounds.system = rw c.loop-broken.invariant.bounds c.columns.ensures.well_formed in
    point_from s.bounds s.tableau.rows.items s.values.items s.tableau_of formed s.one_each c.loop-broken.invariant.in_bounds all

pub returns-then-self-most-clause-answer : goal.returns-then-self-most-clause-answer
returns-then-self-most-clause-answer c =
    let s = c.loop-broken.self in
    let broken_now : IsBroken s.bounds c.deref-in-loop-broken.result.now c.deref-in-loop-broken-2.result.now c.in-Ok-Some.broken = search rules in
    let broken = rw (c.deref-in-loop-broken.ensures.value, c.deref-in-loop-broken-2.ensures.value) at broken_now in
    let made : s.made ≡ pivot_bound s.bounds.system = rw c.loop-broken.invariant.bounds (omega (arith, c.columns.ensures.count)) in
    (made, beyond_from s.bounds s.tableau.rows.items s.values.items s.tableau_of c.in-Ok-Some.broken.at c.in-Ok-Some.broken.side broken.within broken.breaks)
