use Rattle.std.proofs.Common.{◌≡◌, ◌<◌, ◌+◌, ◌-◌, ◌∙◌, ℕ, false, length, get_or, drop, sym, ap, arith, rules}
use Rattle.ll_links.specs.declared.link.Position.{Position}
use Rattle.path_encoding.specs.Paths.{positions}
use Rattle.path_encoding.specs.Filled.{is_step}
use Rattle.path_encoding.proofs.StepTests.{joins, step_on, step_nowhere}
use Rattle.path_encoding.proofs.fill.is_step.Goals as goal

pub loop-item-preserved : goal.loop-item-preserved
loop-item-preserved c =
    let path = c.args.path.now in
    let i = c.loop-item.item in
    let none : Position = record { 0 = 0 } in
    let fails : joins c.args.edge (get_or path (i - 1) none) (get_or path i none) ≡ false = search rules in
    let back : i + 1 - 1 ≡ i = omega arith in
    record {
      some = omega arith;
      rest = ap (λ (n : ℕ). is_step (positions (drop n path)) c.args.edge) back ∙ step_on path c.args.edge i none c.loop-item.invariant.some c.loop-item-test.true fails ∙ c.loop-item.invariant.rest;
    }

pub returns : goal.returns
returns c = sym (sym c.loop-item.invariant.rest ∙ step_nowhere c.args.path.now c.args.edge c.loop-item.item c.loop-item.invariant.some (omega (arith, c.loop-item-test.false)))
