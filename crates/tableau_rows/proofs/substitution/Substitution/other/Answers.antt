use Rattle.std.proofs.Common.{FitsSigned, rules}
use Rattle.std.specs.Int.{w128}
use Rattle.std.proofs.lemmas.Int.{to_z-of_z}
use Rattle.tableau_rows.specs.Substitution.{times_row, times_pivot, difference, other}
use Rattle.tableau_rows.proofs.FormLaws.{IsStep-same, IsStep-turned}
use Rattle.tableau_rows.proofs.substitution.Substitution.other.Goals as goal

pub returns-in-Err-clause-step : goal.returns-in-Err-clause-step
returns-in-Err-clause-step c =
    let s = c.args.self.now in
    let factor_fits : FitsSigned w128 s.of_row = search rules in
    let row_fits = c.ranges.in_row in
    let step = simp to_z-of_z at c.in-Err.ensures.excess in
    IsStep-same s.row.now s.pivot.now s.of_row s.of_pivot s.entering _ _ step
    (rw (c.requires.row) (times_row c.args.column c.requires.stays))

pub returns-in-Err-mul-clause-step : goal.returns-in-Err-mul-clause-step
returns-in-Err-mul-clause-step c =
    let s = c.args.self.now in
    let factor_fits : FitsSigned w128 s.of_pivot = search rules in
    let pivot_fits = c.ranges.in_pivot in
    let step = simp to_z-of_z at c.in-Err-mul.ensures.excess in
    IsStep-same s.row.now s.pivot.now s.of_row s.of_pivot s.entering _ _ step
    (rw (c.requires.pivot) (times_pivot c.args.column c.requires.stays))

pub returns-in-Ok-sub-clause-value : goal.returns-in-Ok-sub-clause-value
returns-in-Ok-sub-clause-value c =
    let s = c.args.self.now in
    let row_factor_fits : FitsSigned w128 s.of_row = search rules in
    let pivot_factor_fits : FitsSigned w128 s.of_pivot = search rules in
    let row_fits = c.ranges.in_row in
    let pivot_fits = c.ranges.in_pivot in
    let first_fits : FitsSigned w128 c.in-Ok.product = search rules in
    let second_fits : FitsSigned w128 c.in-Ok-mul.product = search rules in
    let difference_fits : FitsSigned w128 c.in-Ok-sub.difference = search rules in
    let first = simp to_z-of_z at c.in-Ok.ensures.value in
    let second = simp to_z-of_z at c.in-Ok-mul.ensures.value in
    let value = simp to_z-of_z at c.in-Ok-sub.ensures.value in
    rw (← first, ← second, ← value) (simp to_z-of_z at c.oriented.ensures.value)

pub returns-in-Ok-sub-clause-step : goal.returns-in-Ok-sub-clause-step
returns-in-Ok-sub-clause-step c =
    let s = c.args.self.now in
    let row_factor_fits : FitsSigned w128 s.of_row = search rules in
    let pivot_factor_fits : FitsSigned w128 s.of_pivot = search rules in
    let row_fits = c.ranges.in_row in
    let pivot_fits = c.ranges.in_pivot in
    let first_fits : FitsSigned w128 c.in-Ok.product = search rules in
    let second_fits : FitsSigned w128 c.in-Ok-mul.product = search rules in
    let difference_fits : FitsSigned w128 c.in-Ok-sub.difference = search rules in
    let first = simp to_z-of_z at c.in-Ok.ensures.value in
    let second = simp to_z-of_z at c.in-Ok-mul.ensures.value in
    let value = simp to_z-of_z at c.in-Ok-sub.ensures.value in
    IsStep-turned s.row.now s.pivot.now s.of_row s.of_pivot s.entering c.oriented.result _ _ (rw (first, second, c.requires.row, c.requires.pivot) at value)
    (other c.args.column c.requires.stays) (simp to_z-of_z at c.oriented.ensures.turned)

pub returns-in-Err-sub-clause-step : goal.returns-in-Err-sub-clause-step
returns-in-Err-sub-clause-step c =
    let s = c.args.self.now in
    let row_factor_fits : FitsSigned w128 s.of_row = search rules in
    let pivot_factor_fits : FitsSigned w128 s.of_pivot = search rules in
    let row_fits = c.ranges.in_row in
    let pivot_fits = c.ranges.in_pivot in
    let first_fits : FitsSigned w128 c.in-Ok.product = search rules in
    let second_fits : FitsSigned w128 c.in-Ok-mul.product = search rules in
    let first = simp to_z-of_z at c.in-Ok.ensures.value in
    let second = simp to_z-of_z at c.in-Ok-mul.ensures.value in
    let step = simp to_z-of_z at c.in-Err-sub.ensures.excess in
    IsStep-same s.row.now s.pivot.now s.of_row s.of_pivot s.entering _ _ (rw (first, second, c.requires.row, c.requires.pivot) at step)
    (difference c.args.column c.requires.stays)
