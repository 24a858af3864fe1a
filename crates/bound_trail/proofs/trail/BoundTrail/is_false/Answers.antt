use Rattle.std.proofs.Common.{length, sym, subst, ap, ◌∙◌}
use Rattle.mix_system.specs.Lit.{negation}
use Rattle.bound_trail.specs.declared.edge.Edge.{Edge}
use Rattle.bound_trail.specs.Edges.{place_of, edge_after}
use Rattle.bound_trail.specs.Reach.{Reaches}
use Rattle.bound_trail.proofs.TrailLaws.{true_law}
use Rattle.bound_trail.proofs.trail.BoundTrail.is_false.Goals as goal

pub returns : goal.returns
returns c =
    let trail = c.args.self.now in
    let lit = c.args.lit.now in
    let law = true_law trail (negation lit) c.edge-edge.ensures.trail c.requires in
    let is = c.edge-edge.ensures.edge ∙ ap (λ side. edge_after trail.ranges trail.rows trail.lits (length trail.lits) (place_of (length trail.ranges) lit.term side)) c.opposite.ensures in (
      λ yes. law.0 (subst (λ (edge : Edge). Reaches edge.bound (negation lit)) is (c.contradicts.ensures.0 yes)),
      λ there. c.contradicts.ensures.1 (subst (λ (edge : Edge). Reaches edge.bound (negation lit)) (sym is) (law.1 there)),
    )
