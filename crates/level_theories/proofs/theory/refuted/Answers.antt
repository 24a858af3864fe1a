use Rattle.std.proofs.Common.{sym, subst, List, All}
use Rattle.mix_system.specs.declared.literal.Lit.{Lit}
use Rattle.proof_term.specs.declared.step.Step.TheVariants.{Theory}
use Rattle.level_steps.specs.Steps.{IsStepOn}
use Rattle.level_steps.specs.Plain.{IsPlain}
use Rattle.level_search.specs.Kept.{level_of}
use Rattle.level_theories.specs.Theory.{NodeIsCovered}
use Rattle.level_theories.proofs.ExcludedLaws.{excluded_clause, excluded_plain}
use Rattle.level_theories.proofs.TheoryLaws.{theory_on}
use Rattle.level_theories.proofs.theory.refuted.Goals as goal

pub end-requires-clause-on : goal.end-requires-clause-on
end-requires-clause-on c =
    let it = c.args.level.now in
    let lits = c.in_ok-lits.lits in
    theory_on it lits c.args.tree (excluded_clause it c.requires.working.kept lits c.requires.calm c.in_ok-lits.ensures.lits) c.requires.names c.requires.numbers
    (subst (All (NodeIsCovered it lits)) c.items.ensures c.in_ok-lits.ensures.covered) c.requires.refutes

pub end-requires-clause-plain : goal.end-requires-clause-plain
end-requires-clause-plain c =
    excluded_plain c.args.level.now c.requires.working.kept c.in_ok-lits.lits c.args.tree c.requires.calm c.in_ok-lits.ensures.lits

pub exclude-requires-clause-on : goal.exclude-requires-clause-on
exclude-requires-clause-on c =
    let it = c.args.level.now in
    let lits = c.in_ok-lits.lits in
    let on = theory_on it lits c.args.tree (excluded_clause it c.requires.working.kept lits c.requires.calm c.in_ok-lits.ensures.lits) c.requires.names c.requires.numbers
    (subst (All (NodeIsCovered it lits)) c.items.ensures c.in_ok-lits.ensures.covered) c.requires.refutes in
    subst (λ (own : List Lit). IsStepOn (level_of it) it.steps.items (Theory own c.args.tree)) (sym c.in_ok-clause.ensures) on

pub exclude-requires-clause-plain : goal.exclude-requires-clause-plain
exclude-requires-clause-plain c =
    let it = c.args.level.now in
    subst (λ (own : List Lit). IsPlain it.system.now (Theory own c.args.tree)) (sym c.in_ok-clause.ensures)
    (excluded_plain it c.requires.working.kept c.in_ok-lits.lits c.args.tree c.requires.calm c.in_ok-lits.ensures.lits)
