use Rattle.std.proofs.Common.{◌≡◌, ◌<◌, ◌∷◌, [], ◌∙◌, length, map, drop, subst, sym, ap, refl, arith, ℕ, List}
use Rattle.ll_tree.specs.declared.block.End.{End}
use Rattle.ll_tree.specs.declared.block.Case.{Case}
use Rattle.ll_rules.specs.Items.{targets_of}
use Rattle.ir_runner.specs.Code.{places, target}
use Rattle.ir_runner.proofs.LowerLaws.{target_at, target_low, targets_mapped}
use Rattle.ir_runner.proofs.lower.exit_of.Goals as goal

pub jump_code-requires-clause-to : goal.jump_code-requires-clause-to
jump_code-requires-clause-to c =
    let func = c.args.sound.now.func in
    let are : places c.end_links-links.result.blocks.now ≡ map (target func) (c.in-Br.to ∷ []) = c.end_links-links.ensures.targets ∙ ap (λ (terminator : End). map (target func) (targets_of terminator)) c.in-Br.is in
    subst (λ (n : ℕ). n < length func.blocks) (sym (target_at func c.end_links-links.result.blocks.now (c.in-Br.to ∷ []) are 0 c.in-Br.to (omega arith) refl c.target_at.result.0 c.target_at.ensures))
    (target_low func c.in-Br.to c.end_links-links.ensures.some)

pub jump_code-requires-in-CondBr-clause-to : goal.jump_code-requires-in-CondBr-clause-to
jump_code-requires-in-CondBr-clause-to c =
    let func = c.args.sound.now.func in
    let labels : List (List ℕ) = c.in-CondBr.yes ∷ c.in-CondBr.no ∷ [] in
    let are : places c.end_links-links.result.blocks.now ≡ map (target func) labels = c.end_links-links.ensures.targets ∙ ap (λ (terminator : End). map (target func) (targets_of terminator)) c.in-CondBr.is in
    subst (λ (n : ℕ). n < length func.blocks) (sym (target_at func c.end_links-links.result.blocks.now labels are 0 c.in-CondBr.yes (omega arith) refl c.target_at-in-CondBr.result.0 c.target_at-in-CondBr.ensures))
    (target_low func c.in-CondBr.yes c.end_links-links.ensures.some)

pub jump_code-requires-in-CondBr-2-clause-to : goal.jump_code-requires-in-CondBr-2-clause-to
jump_code-requires-in-CondBr-2-clause-to c =
    let func = c.args.sound.now.func in
    let labels : List (List ℕ) = c.in-CondBr.yes ∷ c.in-CondBr.no ∷ [] in
    let are : places c.end_links-links.result.blocks.now ≡ map (target func) labels = c.end_links-links.ensures.targets ∙ ap (λ (terminator : End). map (target func) (targets_of terminator)) c.in-CondBr.is in
    subst (λ (n : ℕ). n < length func.blocks) (sym (target_at func c.end_links-links.result.blocks.now labels are 1 c.in-CondBr.no (omega arith) refl c.target_at-in-CondBr-2.result.0 c.target_at-in-CondBr-2.ensures))
    (target_low func c.in-CondBr.no c.end_links-links.ensures.some)

pub jump_code-requires-in-Switch-clause-to : goal.jump_code-requires-in-Switch-clause-to
jump_code-requires-in-Switch-clause-to c =
    let func = c.args.sound.now.func in
    let labels : List (List ℕ) = c.in-Switch.default ∷ map (λ (case : Case). case.to) c.in-Switch.cases in
    let are : places c.end_links-links.result.blocks.now ≡ map (target func) labels = c.end_links-links.ensures.targets ∙ ap (λ (terminator : End). map (target func) (targets_of terminator)) c.in-Switch.is in
    subst (λ (n : ℕ). n < length func.blocks) (sym (target_at func c.end_links-links.result.blocks.now labels are 0 c.in-Switch.default (omega arith) refl c.target_at-in-Switch.result.0 c.target_at-in-Switch.ensures))
    (target_low func c.in-Switch.default c.end_links-links.ensures.some)

pub cases_of-requires-clause-targets : goal.cases_of-requires-clause-targets
cases_of-requires-clause-targets c =
    let func = c.args.sound.now.func in
    let are : places c.end_links-links.result.blocks.now ≡ map (target func) (c.in-Switch.default ∷ map (λ (case : Case). case.to) c.in-Switch.cases) = c.end_links-links.ensures.targets ∙ ap (λ (terminator : End). map (target func) (targets_of terminator)) c.in-Switch.is in
    ap (drop 1) are ∙ targets_mapped func c.in-Switch.cases ∙ ap (map (λ (case : Case). target func case.to)) (sym c.items.ensures)
