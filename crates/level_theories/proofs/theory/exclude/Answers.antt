use Rattle.std.proofs.Common.{sym, List, subst, All}
use Rattle.std.proofs.lemmas.List.Elements.{All-weaker}
use Rattle.level_steps.specs.Plain.{IsNamed}
use Rattle.level_search.proofs.AllowedLaws.{over_back}
use Rattle.level_search.proofs.KeptLaws.{kept_with}
use Rattle.level_search.proofs.TurnLaws.{same_search}
use Rattle.mix_system.specs.declared.literal.Lit.{Lit}
use Rattle.level_theories.specs.Theory.{IsExcluded, AreExcluded, IsBackLevel}
use Rattle.level_theories.proofs.TheoryLaws.{excludes}
use Rattle.level_theories.proofs.theory.exclude.Goals as goal

pub log-requires-clause-kept : goal.log-requires-clause-kept
log-requires-clause-kept c =
    let it = c.args.level.now in
    kept_with it c.back_to.new.self c.back_to.ensures.store
    (over_back it.system.now it.search c.back_to.new.self c.back_level-back.result c.back_to.ensures.store c.back_to.ensures.trail c.requires.working.kept.over) c.requires.working.kept

pub log-requires-clause-named : goal.log-requires-clause-named
log-requires-clause-named c =
    let it = c.args.level.now in
    subst (All (IsNamed it.system.now)) (sym c.items-2.ensures) (All-weaker (IsExcluded it) (IsNamed it.system.now) (λ lit is. is.named) c.args.lits.now c.requires.lits.each)

pub back_level-back-requires-clause-lits : goal.back_level-back-requires-clause-lits
back_level-back-requires-clause-lits c = subst (AreExcluded c.args.level.now) (sym c.items.ensures) c.requires.lits

pub returns : goal.returns
returns c =
    let it = c.args.level.now in
    let lits = c.args.lits.now in
    let back = c.back_level-back.result in
    let made = c.in_ok-log.ensures in
    excludes it c.log.new.self lits c.args.step back c.requires.working c.levels.ensures.trail c.requires.lits c.requires.some c.requires.clause
    (subst (λ (l : List Lit). IsBackLevel it.search l back) c.items.ensures c.back_level-back.ensures) made.level made.steps
    (same_search it.search.store lits c.items-2.result.now _ c.log.new.self.search c.back_to.new.self made.search c.back_to.ensures.store c.back_to.ensures.trail c.items-2.ensures) made.kept
