use Rattle.std.proofs.Common.{ℕ, ◌<◌, [], ◌∷◌, ◌++◌, length, map, sym, ◌∙◌, ap, subst, arith, All}
use Rattle.mix_system.specs.Lit.{negation}
use Rattle.clause_search.specs.Search.{single_bounds}
use Rattle.proof_term.specs.declared.step.Step.TheVariants.{Lemma}
use Rattle.level_steps.specs.Plain.{IsNamed}
use Rattle.level_search.specs.Local.{local_hints}
use Rattle.level_search.proofs.AllowedLaws.{over_back}
use Rattle.level_search.proofs.KeptLaws.{kept_with, ok_more, ok_both}
use Rattle.level_search.proofs.TurnLaws.{hint_places, learnt_on, learnt_plain, learnt_named, learns, same_step, same_plain, same_search}
use Rattle.level_search.proofs.level.LevelSearch.learn_clause.Goals as goal

pub local_hints-requires : goal.local_hints-requires
local_hints-requires c =
    let it = c.args.self.now in
    subst (All (λ (h : ℕ). h < length it.numbers.items)) (sym c.items.ensures)
    (hint_places it c.requires.working.kept (map negation c.args.lits.now ++ single_bounds it.search) c.args.hints.now c.requires.learnt.follows)

pub back_to-requires : goal.back_to-requires
back_to-requires c = omega (arith, c.requires.learnt.asserting.lower)

pub log-requires-clause-kept : goal.log-requires-clause-kept
log-requires-clause-kept c =
    let it = c.args.self.now in
    kept_with it c.back_to.new.self c.back_to.ensures.store
    (over_back it.system.now it.search c.back_to.new.self c.args.level c.back_to.ensures.store c.back_to.ensures.trail c.requires.working.kept.over) c.requires.working.kept

pub log-requires-clause-on : goal.log-requires-clause-on
log-requires-clause-on c =
    let it = c.args.self.now in
    same_step it c.in_ok-clause.clause c.args.lits.now c.in_ok-hints.hints (local_hints it.numbers.items c.args.hints.now) c.in_ok-clause.ensures
    (c.in_ok-hints.ensures ∙ ap (local_hints it.numbers.items) c.items.ensures) (learnt_on it c.args.lits.now c.args.hints.now c.args.level c.requires.working c.requires.trail c.requires.learnt)

pub log-requires-clause-plain : goal.log-requires-clause-plain
log-requires-clause-plain c =
    let it = c.args.self.now in
    same_plain it.system.now c.in_ok-clause.clause c.args.lits.now c.in_ok-hints.hints c.in_ok-clause.ensures
    (learnt_plain it c.args.lits.now c.args.hints.now c.in_ok-hints.hints c.args.level c.requires.working c.requires.trail c.requires.learnt)

pub log-requires-clause-named : goal.log-requires-clause-named
log-requires-clause-named c =
    let it = c.args.self.now in
    subst (All (IsNamed it.system.now)) (sym c.items-2.ensures) (learnt_named it c.args.lits.now c.args.hints.now c.args.level c.requires.working c.requires.trail c.requires.learnt)

pub log-requires-clause-clause : goal.log-requires-clause-clause
log-requires-clause-clause c = c.in_ok-clause.ensures ∙ sym c.items-2.ensures

pub returns : goal.returns
returns c =
    let it = c.args.self.now in
    let made = c.log.ensures in
    ok_more c.log.result _ _
    (λ done. learns it c.log.new.self c.args.lits.now c.args.hints.now (local_hints it.numbers.items c.args.hints.now) c.args.level c.requires.working c.requires.trail c.requires.learnt
    done.0.1
    (done.1.0 ∙ (λ i. it.steps.items ++ Lemma (c.in_ok-clause.ensures i) ((c.in_ok-hints.ensures ∙ ap (local_hints it.numbers.items) c.items.ensures) i) ∷ []))
    (same_search it.search.store c.args.lits.now c.items-2.result.now _ c.log.new.self.search c.back_to.new.self done.1.1 c.back_to.ensures.store c.back_to.ensures.trail c.items-2.ensures)
    done.0.0)
    (ok_both c.log.result _ _ (ok_both c.log.result _ _ made.kept made.level) (ok_both c.log.result _ _ made.steps made.search))
