use Rattle.std.proofs.Common.{◌≡◌, ℕ, ℤ, ◌*ℤ◌, ◌-ℤ◌, rules}
use Rattle.tableau_rows.specs.Equation.{total}
use Rattle.tableau_rows.specs.Substitution.{sum_at}
use Rattle.tableau_rows.specs.Proper.{turned}
use Rattle.tableau_rows.proofs.SubstitutionLaws.{basic_below, is_combination, is_gone}
use Rattle.tableau_rows.proofs.equation.Equation.substituted.Goals as goal

pub reduced-requires-clause-below : goal.reduced-requires-clause-below
reduced-requires-clause-below c =
    let s = c.new-substitution.result in
    let is = c.new-substitution.ensures in
    let found : (number : ℕ → ℤ) → total number c.in-Ok.entries.items ≡ turned s.of_row (s.of_row *ℤ sum_at number s.row.now -ℤ s.of_pivot *ℤ sum_at number s.pivot.now) = search rules in
    let sums = rw (is.row, is.pivot) at found in
    let terms = rw (is.row, is.pivot, is.entering) at is.proper.factors in
    basic_below c.args.self.now c.args.pivot.now s.of_row s.of_pivot c.args.entering c.in-Ok.entries.items terms c.requires.pivot_takes sums c.requires.pivot_without

pub returns-in-Ok-clause-combination : goal.returns-in-Ok-clause-combination
returns-in-Ok-clause-combination c =
    let s = c.new-substitution.result in
    let is = c.new-substitution.ensures in
    let found : (number : ℕ → ℤ) → total number c.in-Ok.entries.items ≡ turned s.of_row (s.of_row *ℤ sum_at number s.row.now -ℤ s.of_pivot *ℤ sum_at number s.pivot.now) = search rules in
    let sums = rw (is.row, is.pivot) at found in
    let terms = rw (is.row, is.pivot, is.entering) at is.proper.factors in
    let (divisor, positive, divided) = c.reduced.ensures.sums in
    is_combination c.args.self.now c.args.pivot.now s.of_row s.of_pivot c.args.entering c.in-Ok.entries.items terms c.requires.pivot_takes sums c.reduced.result divisor positive divided

pub returns-in-Ok-clause-gone : goal.returns-in-Ok-clause-gone
returns-in-Ok-clause-gone c =
    let s = c.new-substitution.result in
    let is = c.new-substitution.ensures in
    let found : (number : ℕ → ℤ) → total number c.in-Ok.entries.items ≡ turned s.of_row (s.of_row *ℤ sum_at number s.row.now -ℤ s.of_pivot *ℤ sum_at number s.pivot.now) = search rules in
    let sums = rw (is.row, is.pivot) at found in
    let terms = rw (is.row, is.pivot, is.entering) at is.proper.factors in
    let (divisor, positive, divided) = c.reduced.ensures.sums in
    is_gone c.args.self.now c.args.pivot.now s.of_row s.of_pivot c.args.entering c.in-Ok.entries.items terms c.requires.pivot_takes sums c.reduced.result divisor positive divided
