use Rattle.std.proofs.Common.{◌≡◌, ℕ, List, [], ◌∷◌, ◌++◌, sym, ap, ◌∙◌, subst}
use Rattle.mix_system.specs.declared.literal.Lit.{Lit}
use Rattle.proof_term.specs.declared.step.Step.TheVariants.{Theory}
use Rattle.level_steps.specs.Steps.{IsStepOn}
use Rattle.level_search.specs.Kept.{level_of}
use Rattle.level_search.proofs.TurnLaws.{same_step}
use Rattle.level_theories.proofs.GoalLaws.{against_on, theory_on}
use Rattle.level_theories.proofs.goal.against.Goals as goal

pub returns-in_ok-push-in-Some-clause-on : goal.returns-in_ok-push-in-Some-clause-on
returns-in_ok-push-in-Some-clause-on c =
    let it = c.args.level.now in
    let number = c.in-Some.number in
    let hints : c.push.new.self ≡ number ∷ [] = c.in_ok-push-in-Some.ensures.ok ∙ ap (λ (hs : List ℕ). hs ++ number ∷ []) c.new-hints.ensures in
    same_step it c.new-clause.result [] c.push.new.self (number ∷ []) c.new-clause.ensures hints (against_on it c.requires.kept c.args.goal c.requires.goal number c.in-Some.ensures.some)

pub returns-in_ok-tree-in-None-clause-on : goal.returns-in_ok-tree-in-None-clause-on
returns-in_ok-tree-in-None-clause-on c =
    let it = c.args.level.now in
    let tree = c.in_ok-tree-in-None.tree in
    subst (λ (clause : List Lit). IsStepOn (level_of it) it.steps.items (Theory clause tree)) (sym c.new-clause.ensures)
    (theory_on it c.requires.kept c.args.goal c.requires.goal tree.nodes c.in_ok-tree-in-None.ensures c.in-None.ensures.none)
