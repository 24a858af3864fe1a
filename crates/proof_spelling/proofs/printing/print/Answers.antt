use Rattle.std.proofs.Common.{◌≡◌, ◌++◌, List, ◌∙◌, ap, subst, All}
use Rattle.std.specs.List.{flat_map}
use Rattle.proof_term.specs.declared.step.Step.{Step}
use Rattle.proof_spelling.specs.Lines.{step_lines}
use Rattle.proof_spelling.specs.Ranges.{LineFits}
use Rattle.proof_spelling.specs.Text.{lines_bytes, text_of}
use Rattle.proof_spelling.proofs.PrintLaws.{printed, all_fit, spelled}
use Rattle.proof_spelling.proofs.printing.print.Goals as goal

printed_text : (c : goal.In_ok-push) → c.push.new.text.items ≡ text_of c.args.proof.now
printed_text c =
    let before = c.push_goal.new.text.items in
    printed c.args.proof.now c.new-text.result.items c.push_first_lines.new.text.items before c.push_steps.new.text.items c.push.new.text.items c.new-text.ensures.items
    c.in_ok-push_first_lines.ensures.text c.in_ok-push_goal.ensures.text
    (c.in_ok-push_steps.ensures.text ∙ ap (λ (steps : List Step). before ++ lines_bytes (flat_map step_lines steps)) c.items.ensures) c.in_ok-push.ensures

pub returns-clause-text : goal.returns-clause-text
returns-clause-text c = printed_text c

pub returns-clause-spells : goal.returns-clause-spells
returns-clause-spells c = λ complete.
    let steps = subst (λ (steps : List Step). All LineFits (flat_map step_lines steps)) c.items.ensures c.in_ok-push_steps.ensures.fits in
    spelled c.args.proof.now c.push.new.text.items (printed_text c) (all_fit c.args.proof.now c.in_ok-push_first_lines.ensures.fits c.in_ok-push_goal.ensures.fits steps) complete
