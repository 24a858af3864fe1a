use Rattle.std.proofs.Common.{◌-◌, ◌≤◌, length, get_or, subst}
use Rattle.bound_trail.specs.Trail.{Trail, IsCause}
use Rattle.clause_search.proofs.WatchLaws.{was_left_below}
use Rattle.clause_search.proofs.clause_trail.ClauseTrail.was_left.Goals as goal

pub returns : goal.returns
returns c left level below =
    let trail = c.args.self.now.trail in
    let lit = c.args.lit.now in
    let place = c.in-Some.place in
    let from : get_or c.levels-levels.result.now (length c.levels-levels.result.now - 1) 0 ≤ place = c.if-place-start.false in
    was_left_below trail lit place level c.levels-levels.ensures.trail
    (subst (λ (t : Trail). IsCause t lit place) c.bounds.ensures.trail c.in-Some.ensures)
    (subst (λ xs. get_or xs (length xs - 1) 0 ≤ place) c.levels-levels.ensures.levels from) below
