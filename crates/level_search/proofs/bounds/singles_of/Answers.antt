use Rattle.std.proofs.Common.{◌++◌, ◌∷◌, [], List, sym, ap, ◌∙◌}
use Rattle.mix_system.specs.declared.literal.Lit.{Lit}
use Rattle.mix_system.specs.Bounds.{unit_bounds}
use Rattle.level_search.proofs.LocalLaws.{unit_more}
use Rattle.level_search.proofs.bounds.singles_of.Goals as goal

pub loop-at-preserved : goal.loop-at-preserved
loop-at-preserved c =
    c.in_ok-push_single.ensures ∙ ap (λ (xs : List Lit). xs ++ unit_bounds (c.clause.result.now ∷ [])) c.loop-at.invariant
    ∙ sym (unit_more c.args.system.now.clauses c.loop-at.at c.clause.result.now c.clause.ensures.lits)
