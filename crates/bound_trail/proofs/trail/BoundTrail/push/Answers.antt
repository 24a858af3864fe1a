use Rattle.std.proofs.Common.{◌≡◌, ◌+◌, ◌^◌, ◌<◌, [], ◌∷◌, ◌++◌, length, ◌∙◌, subst, FitsSigned, rules, arith}
use Rattle.std.specs.Int.{w128}
use Rattle.std.proofs.lemmas.Int.{to_z-of_z}
use Rattle.std.proofs.lemmas.Grind.{common_steps}
use Rattle.std.proofs.lemmas.List.{get_or_read}
use Rattle.mix_system.specs.System.{Exists}
use Rattle.bound_trail.specs.Trail.{box, IsOpen}
use Rattle.bound_trail.specs.Edges.{place_of, no_edge, edge_after}
use Rattle.bound_trail.specs.Stored.{lists}
use Rattle.bound_trail.proofs.EdgeLaws.{place_within}
use Rattle.bound_trail.proofs.TrailLaws.{IsTrail-push, AreEdges-push, AreLinks-push}
use Rattle.bound_trail.proofs.trail.BoundTrail.push.Goals as goal

pub invariant_of-self-2 : goal.invariant_of-self-2
invariant_of-self-2 c =
    let it = c.self.inside in
    let lit = c.args.lit.now in
    let ranges = it.ranges.items in
    let fits : FitsSigned w128 lit.bound = search rules in
    let lits : c.push-2.new.self.items ≡ it.lits.items ++ lit ∷ [] = grind (arith, common_steps, to_z-of_z) in
    let links : c.push.new.self.items ≡ it.links.items ++ c.index-edge.result.now ∷ [] = grind (arith, common_steps) in
    let known : Exists (length ranges) it.rows lit.term = rw (← c.self.view_is) at c.requires.term in
    let open_ : IsOpen (box (lists it)) lit = rw (← c.self.view_is) at c.requires.open in
    let few : length it.lits.items + 1 < 2 ^ 32 = omega arith in
    let place : c.place-place.result ≡ place_of (length ranges) lit.term lit.side = rw (← c.self.view_is) at c.place-place.ensures.place in
    let within = place_within (length ranges) it.rows lit.term lit.side known in
    let read = get_or_read it.edges.items c.place-place.result c.index-edge.result.now (omega (arith, c.self.invariant.edges.one_each)) c.index-edge.ensures no_edge in
    let edge = read ∙ c.self.invariant.edges.each c.place-place.result (omega arith) in
    let edge_here = subst (λ p. c.index-edge.result.now ≡ edge_after ranges it.rows it.lits.items (length it.lits.items) p) place edge in
    let count : c.len-entry.result ≡ length it.lits.items = omega arith in
    record {
      trail = rw lits (IsTrail-push (lists it) lit c.self.invariant.trail known c.requires.inner open_ few);
      edges = simp to_z-of_z (rw (lits, place, count) (AreEdges-push ranges it.rows it.lits.items it.edges.items lit known c.self.invariant.edges));
      links = rw (lits, links) (AreLinks-push ranges it.rows it.lits.items it.links.items lit c.index-edge.result.now edge_here c.self.invariant.links);
    }

pub returns-clause-trail : goal.returns-clause-trail
returns-clause-trail c =
    let it = c.self.inside in
    let lit = c.args.lit.now in
    let fits : FitsSigned w128 lit.bound = search rules in
    let lits : c.push-2.new.self.items ≡ it.lits.items ++ lit ∷ [] = grind (arith, common_steps, to_z-of_z) in
    let known : Exists (length it.ranges.items) it.rows lit.term = rw (← c.self.view_is) at c.requires.term in
    let open_ : IsOpen (box (lists it)) lit = rw (← c.self.view_is) at c.requires.open in
    rw lits (IsTrail-push (lists it) lit c.self.invariant.trail known c.requires.inner open_ (omega arith))
