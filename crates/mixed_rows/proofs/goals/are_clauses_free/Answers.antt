use Rattle.std.proofs.Common.{◌<◌, [], length, sym, subst, rules, arith}
use Rattle.std.proofs.lemmas.Option.{get_or_from_slice_get}
use Rattle.proof_term.specs.Weaker.{IsFree}
use Rattle.bounded_simplex.proofs.EachLaws.{each_more}
use Rattle.mixed_rows.proofs.goals.are_clauses_free.Goals as goal

pub loop-clause-preserved : goal.loop-clause-preserved
loop-clause-preserved c =
    let clauses = c.args.system.now.clauses in
    let lits = c.clause.result.now in
    let at = get_or_from_slice_get clauses c.loop-clause.clause lits [] c.clause.ensures.lits in
    let within : c.loop-clause.clause < length clauses = omega (arith, c.loop-clause-test.true, c.clauses-clause-end.ensures.count) in
    let free : IsFree c.args.term lits = search rules in
    each_more (IsFree c.args.term) clauses c.loop-clause.clause [] within c.loop-clause.invariant
    (subst (IsFree c.args.term) (sym at) free)
