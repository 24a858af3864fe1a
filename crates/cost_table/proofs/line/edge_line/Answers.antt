use Rattle.std.proofs.Common.{◌≡◌, ℕ, List, Option, Some, None, sym, ◌∙◌}
use Rattle.std.proofs.lemmas.Option.{same_Some}
use Rattle.cost_table.specs.declared.line.Said.TheVariants as words
use Rattle.cost_table.proofs.line.edge_line.Goals as goal

pub returns-in_default-clause-only : goal.returns-in_default-clause-only
returns-in_default-clause-only c from to cost it = absurd (c.in_default.ensures.only it.written it.rest from it.form it.named)

pub returns-in_default-2-clause-only : goal.returns-in_default-2-clause-only
returns-in_default-2-clause-only c from to cost it =
    let parts = c.in-Some.ensures.only it.written it.rest from it.form it.named in
    let found = c.in_ok-from.ensures.only from (rw parts.0 it.named) in
    let none : None ≡ Some from = sym c.in_default-2.is ∙ found in
    absurd (cc none)

pub returns-in_default-3-clause-only : goal.returns-in_default-3-clause-only
returns-in_default-3-clause-only c from to cost it =
    let parts = c.in-Some.ensures.only it.written it.rest from it.form it.named in
    let found = c.in_ok-to.ensures.only to cost (rw parts.1 it.to_and_cost) in
    let pair : List ℕ × ℕ = (to, cost) in
    let none : ◌≡◌ {A = Option (List ℕ × ℕ)} None (Some pair) = sym c.in_default-3.is ∙ found in
    absurd (cc none)

pub returns-clause-only : goal.returns-clause-only
returns-clause-only c from to cost it =
    let parts = c.in-Some.ensures.only it.written it.rest from it.form it.named in
    let found = c.in_ok-from.ensures.only from (rw parts.0 it.named) in
    let same_from : c.in-Some-2.from ≡ from = same_Some c.in-Some-2.from from (sym c.in-Some-2.is ∙ found) in
    let same_rest = same_Some (c.in-Some-3.to, c.in-Some-3.cost) (to, cost) (sym c.in-Some-3.is ∙ c.in_ok-to.ensures.only to cost (rw parts.1 it.to_and_cost)) in
    λ i. Some (words.Edge (same_from i) (same_rest i).0 (same_rest i).1)
