use Rattle.std.proofs.Common.{◌<◌, [], length, All, sym, subst, rules, arith}
use Rattle.std.proofs.lemmas.Option.{get_or_from_slice_get}
use Rattle.mix_system.specs.Calm.{IsSmall}
use Rattle.mix_system.specs.Lit.{negation}
use Rattle.mix_system.specs.declared.literal.Lit.{Lit}
use Rattle.bounded_simplex.proofs.EachLaws.{each_more}
use Rattle.mixed_rows.proofs.calm.are_clauses_small.Goals as goal

pub loop-clause-preserved : goal.loop-clause-preserved
loop-clause-preserved c =
    let clauses = c.args.system.now.clauses in
    let lits = c.clause.result.now in
    let at = get_or_from_slice_get clauses c.loop-clause.clause lits [] c.clause.ensures.lits in
    let within : c.loop-clause.clause < length clauses = omega (arith, c.loop-clause-test.true, c.clauses-clause-end.ensures.count) in
    let small : All (λ (lit : Lit). IsSmall lit.bound × IsSmall (negation lit).bound) lits = search rules in
    each_more (All (λ (lit : Lit). IsSmall lit.bound × IsSmall (negation lit).bound)) clauses c.loop-clause.clause [] within c.loop-clause.invariant
    (subst (All (λ (lit : Lit). IsSmall lit.bound × IsSmall (negation lit).bound)) (sym at) small)
