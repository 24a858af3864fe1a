use Rattle.std.proofs.Common.{map}
use Rattle.ll_item_rules.specs.Cases as spec
use Rattle.ll_item_rules.proofs.CaseLaws.{old_number, new_number}
use Rattle.ll_item_rules.proofs.cases.repeated.Goals as goal

pub returns-then-not-branch : goal.returns-then-not-branch
returns-then-not-branch c = old_number c.args.cases.now c.loop-case.case-index c.case-item.result c.loop-case-test.true c.case-item.is c.loop-case.seen.keys c.loop-case.invariant.seen (spec.repeated (map (λ case. case.value) c.args.cases.now)) c.loop-case.invariant.rest c.in_ok-insert.field-0 c.in_ok-insert.ensures.added c.if-not-branch.true

pub loop-case-preserved : goal.loop-case-preserved
loop-case-preserved c =
    let next = new_number c.args.cases.now c.loop-case.case-index c.case-item.result c.loop-case-test.true c.case-item.is c.loop-case.seen.keys c.loop-case.invariant.seen (spec.repeated (map (λ case. case.value) c.args.cases.now)) c.loop-case.invariant.rest c.in_ok-insert.field-0 c.insert.new.self.keys c.in_ok-insert.ensures.added c.if-not-branch.false c.in_ok-insert.ensures.keys in
    record { seen = next.0; rest = next.1 }
