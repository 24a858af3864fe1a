use Rattle.std.proofs.Common.{◌∙◌, get_or, ap}
use Rattle.std.proofs.lemmas.List.{get_or_default}
use Rattle.bound_trail.specs.Edges.{blank_lit}
use Rattle.clause_search.proofs.clause_trail.ClauseTrail.put_at.Goals as goal

pub returns-clause-lit : goal.returns-clause-lit
returns-clause-lit c =
    get_or_default c.trail.result.now c.args.at _ blank_lit (rw c.trail.ensures.lits c.requires) ∙ ap (λ xs. get_or xs c.args.at blank_lit) c.trail.ensures.lits
