use Rattle.std.proofs.Common.{◌∙◌, [], ◌∷◌, ◌++◌, take, sym, ap, arith}
use Rattle.std.proofs.lemmas.List.{take_more}
use Rattle.std.proofs.lemmas.Option.{get_or_from_slice_get}
use Rattle.clause_search.specs.Search.{Search}
use Rattle.clause_search.proofs.clause_trail.ClauseTrail.new.Goals as goal

pub loop-at-preserved : goal.loop-at-preserved
loop-at-preserved c =
    let clauses = c.args.system.now.clauses in
    let at = c.loop-at.at in
    let clause = c.clause.result.now in
    let here = get_or_from_slice_get clauses at clause [] c.clause.ensures.lits in
    let more = take_more clauses at [] (omega arith) in
    let ok = c.in_ok-add_clause.ensures.ok in (
      ap (λ (s : Search). s.store) ok ∙ ap (λ xs. xs ++ clause ∷ []) c.loop-at.invariant.0 ∙ sym (more ∙ ap (λ x. take at clauses ++ x ∷ []) here),
      ap (λ (s : Search). s.trail) ok ∙ c.loop-at.invariant.1,
    )
