use Rattle.std.proofs.Common.{◌≤◌, length, sym, arith}
use Rattle.bound_trail.specs.Stored.{lists}
use Rattle.bound_trail.proofs.TrailLaws.{IsTrail-lower, levels_below}
use Rattle.bound_trail.proofs.trail.BoundTrail.back_to.Goals as goal

pub invariant_of-self : goal.invariant_of-self
invariant_of-self c =
    let it = c.self.inside in
    let h : c.args.level ≤ length it.levels.items = rw (← c.self.view_is) at c.requires in
    record {
      trail = rw c.truncate.ensures.items (IsTrail-lower (lists it) c.args.level c.self.invariant.trail h);
      edges = c.self.invariant.edges;
      links = c.self.invariant.links;
    }

pub shorten-requires-clause-levels : goal.shorten-requires-clause-levels
shorten-requires-clause-levels c =
    let it = c.self.inside in
    rw c.truncate.ensures.items (levels_below (lists it) c.args.level c.index-count.result.now c.self.invariant.trail (omega arith) (sym c.index-count.ensures))
