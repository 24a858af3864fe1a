use Rattle.std.proofs.Common.{sym, subst}
use Rattle.bound_trail.specs.declared.edge.Edge.{Edge}
use Rattle.bound_trail.specs.Reach.{Reaches}
use Rattle.bound_trail.proofs.TrailLaws.{true_law}
use Rattle.bound_trail.proofs.trail.BoundTrail.is_true.Goals as goal

pub returns : goal.returns
returns c =
    let lit = c.args.lit.now in
    let law = true_law c.args.self.now lit c.edge-edge.ensures.trail c.requires in
    let is = c.edge-edge.ensures.edge in (
      λ yes. law.0 (subst (λ (edge : Edge). Reaches edge.bound lit) is (c.reaches.ensures.0 yes)),
      λ there. c.reaches.ensures.1 (subst (λ (edge : Edge). Reaches edge.bound lit) (sym is) (law.1 there)),
    )
