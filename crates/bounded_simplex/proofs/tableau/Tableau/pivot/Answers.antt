use Rattle.std.proofs.Common.{ℕ, ◌<◌, length, Option, get_or, rules}
use Rattle.tableau_rows.specs.declared.equation.Equation.{Equation}
use Rattle.bounded_simplex.specs.Pivot.{IsFresh}
use Rattle.bounded_simplex.proofs.PivotLaws.{pivoted_from_fresh, pivot_holds, pivot_held, pivot_apart}
use Rattle.bounded_simplex.proofs.tableau.Tableau.pivot.Goals as goal

pub returns-in-Ok-clause-pivoted : goal.returns-in-Ok-clause-pivoted
returns-in-Ok-clause-pivoted c =
    let rows = c.args.self.now.rows.items in
    let formed_now : (k : ℕ) (o : Option Equation) → k < length c.deref.result.now → IsFresh c.deref.result.now c.args.at c.args.entering k (get_or c.in-Ok.fresh.items k o) = search rules in
    let formed = rw c.deref.ensures.value at formed_now in
    pivoted_from_fresh c.args.at c.args.entering rows _ c.in-Ok.fresh.items c.requires.at formed c.put_in.ensures

pub invariant_of-self : goal.invariant_of-self
invariant_of-self c =
    let rows = c.args.self.now.rows.items in
    let formed_now : (k : ℕ) (o : Option Equation) → k < length c.deref.result.now → IsFresh c.deref.result.now c.args.at c.args.entering k (get_or c.in-Ok.fresh.items k o) = search rules in
    let formed = rw c.deref.ensures.value at formed_now in
    let pivoted = pivoted_from_fresh c.args.at c.args.entering rows _ c.in-Ok.fresh.items c.requires.at formed c.put_in.ensures in
    record { apart = pivot_apart c.args.at c.args.entering rows _ c.requires.at pivoted c.args.self.now.apart }

pub returns-in-Ok-clause-same_solutions : goal.returns-in-Ok-clause-same_solutions
returns-in-Ok-clause-same_solutions c =
    let rows = c.args.self.now.rows.items in
    let formed_now : (k : ℕ) (o : Option Equation) → k < length c.deref.result.now → IsFresh c.deref.result.now c.args.at c.args.entering k (get_or c.in-Ok.fresh.items k o) = search rules in
    let formed = rw c.deref.ensures.value at formed_now in
    let pivoted = pivoted_from_fresh c.args.at c.args.entering rows _ c.in-Ok.fresh.items c.requires.at formed c.put_in.ensures in
    λ number. (pivot_holds c.args.at c.args.entering rows _ c.requires.at pivoted number, pivot_held c.args.at c.args.entering rows _ c.requires.at pivoted number)
