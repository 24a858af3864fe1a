use Rattle.std.proofs.Common.{◌≡◌, [], ◌∷◌, ◌++◌, append_assoc, map, sym, ap, ◌∙◌, rules}
use Rattle.proof_term.specs.declared.open_tree.OpenNode.TheVariants.{Pending}
use Rattle.integer_splits.specs.Answer.{pending_nodes}
use Rattle.integer_splits.specs.Boxes.{opened}
use Rattle.integer_splits.proofs.AnswerLaws.{pending_push}
use Rattle.integer_splits.proofs.kept.opened.Goals as goal

pub loop-box-preserved : goal.loop-box-preserved
loop-box-preserved c =
    let front = map opened c.args.nodes.now in
    let count = c.loop-box._box in
    let added : c.push-in-loop-box.new.self ≡ c.loop-box.tree ++ Pending ∷ [] = search rules in
    added ∙ ap (λ ns. ns ++ Pending ∷ []) c.loop-box.invariant ∙ append_assoc front (pending_nodes count) (Pending ∷ []) ∙ ap (λ ns. front ++ ns) (sym (pending_push count))
