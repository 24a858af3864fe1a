use Rattle.std.proofs.Common.{◌≡◌, Some, None, sym, ◌∙◌}
use Rattle.std.specs.Fmt.{decimal}
use Rattle.std.proofs.lemmas.Option.{same_Some}
use Rattle.cost_table.proofs.line.named_cost.Goals as goal

pub returns-in_default-clause-only : goal.returns-in_default-clause-only
returns-in_default-clause-only c name cost it = absurd (c.in_default.ensures.only it.written (decimal cost) name it.form it.named)

pub returns-in_default-2-clause-only : goal.returns-in_default-2-clause-only
returns-in_default-2-clause-only c name cost it =
    let parts = c.in-Some.ensures.only it.written (decimal cost) name it.form it.named in
    let found = c.in_ok-name.ensures.only name (rw parts.0 it.named) in
    let none : None ≡ Some name = sym c.in_default-2.is ∙ found in
    absurd (cc none)

pub returns-in_default-cost_of-clause-only : goal.returns-in_default-cost_of-clause-only
returns-in_default-cost_of-clause-only c name cost it =
    let parts = c.in-Some.ensures.only it.written (decimal cost) name it.form it.named in
    let none : None ≡ Some cost = c.in_default-cost_of.ensures.only cost it.small parts.1 in
    absurd (cc none)

pub returns-clause-only : goal.returns-clause-only
returns-clause-only c name cost it =
    let parts = c.in-Some.ensures.only it.written (decimal cost) name it.form it.named in
    let found = c.in_ok-name.ensures.only name (rw parts.0 it.named) in
    let same_name : c.in-Some-2.name ≡ name = same_Some c.in-Some-2.name name (sym c.in-Some-2.is ∙ found) in
    let same_cost : c.in-Some-cost_of.cost ≡ cost = same_Some c.in-Some-cost_of.cost cost (c.in-Some-cost_of.ensures.only cost it.small parts.1) in
    λ i. Some (same_name i, same_cost i)
