use Rattle.std.proofs.Common.{◌<◌, ◌≤◌, length, sym, arith}
use Rattle.std.proofs.lemmas.Bool.{eqb-true}
use Rattle.ll_token.proofs.PieceLaws.{goes_on, within, stops, ends_well, some_left}
use Rattle.ll_token.proofs.escapes.bad_escape.Goals as goal

pub loop-rest-preserved : goal.loop-rest-preserved
loop-rest-preserved c =
    goes_on c.args.inner.now c.loop-rest.rest.now (c.in-Some.field-0-0, c.in-Some.after.now) c.loop-rest.invariant c.in-Some.ensures

pub overflow_sub-result : goal.overflow_sub-result
overflow_sub-result c = within c.args.inner.now c.loop-rest.rest.now c.loop-rest.invariant

pub returns-in-None-clause-reads : goal.returns-in-None-clause-reads
returns-in-None-clause-reads c =
    stops c.args.inner.now c.loop-rest.rest.now c.loop-rest.invariant c.in-None.ensures (some_left _ c.loop-rest-test.ensures)

pub returns-in-None-clause-bound : goal.returns-in-None-clause-bound
returns-in-None-clause-bound c =
    let some : 0 < length c.loop-rest.rest.now = some_left _ c.loop-rest-test.ensures in
    let fits : length c.loop-rest.rest.now ≤ length c.args.inner.now = within c.args.inner.now c.loop-rest.rest.now c.loop-rest.invariant in
    omega arith

pub returns-clause-reads : goal.returns-clause-reads
returns-clause-reads c =
    ends_well c.args.inner.now c.loop-rest.rest.now c.loop-rest.invariant (eqb-true _ 0 (sym c.loop-rest-test.ensures))
