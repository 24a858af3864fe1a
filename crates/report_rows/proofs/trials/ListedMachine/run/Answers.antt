use Rattle.std.proofs.Common.{◌≡◌, ℕ, Option, Some, None, sym, ◌∙◌}
use Rattle.std.specs.Prelude.{IfSome}
use Rattle.report_rows.proofs.trials.ListedMachine.run.Goals as goal

IfSome-is : (result expected : Option ℕ) → result ≡ expected → IfSome result (λ n. expected ≡ Some n)
IfSome-is None expected is = tt
IfSome-is (Some n) expected is = sym is

pub returns-clause-cost : goal.returns-clause-cost
returns-clause-cost c = IfSome-is c.cost_of.result _ (rw c.deref.ensures.value at c.cost_of.ensures)

pub returns-clause-only : goal.returns-clause-only
returns-clause-only c = λ n is. (rw c.deref.ensures.value at c.cost_of.ensures) ∙ is
