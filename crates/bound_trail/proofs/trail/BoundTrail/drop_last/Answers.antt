use Rattle.std.proofs.Common.{◌≡◌, ◌+◌, ◌-◌, ◌<◌, ◌≤◌, [], ◌∷◌, ◌++◌, length, get_or, take, All, sym, ap, ◌∙◌, subst, arith}
use Rattle.std.proofs.lemmas.List.{get_or_read, take_more, take_all, length-take-le}
use Rattle.std.proofs.lemmas.List.Elements.{All-weaker}
use Rattle.mix_system.specs.declared.literal.Lit.{Lit}
use Rattle.mix_system.specs.System.{Exists}
use Rattle.bound_trail.specs.Edges.{place_of, blank_lit, no_edge, edge_after}
use Rattle.bound_trail.specs.Stored.{lists, AreEdges}
use Rattle.bound_trail.proofs.TrailLaws.{IsTrail-cut, AreEdges-drop, AreLinks-cut}
use Rattle.bound_trail.proofs.trail.BoundTrail.drop_last.Goals as goal

pub invariant_of-self : goal.invariant_of-self
invariant_of-self c =
    let it = c.self.inside in
    let ranges = it.ranges.items in
    let lits = it.lits.items in
    let ok = c.self.invariant in
    let some : 0 < length lits = rw (← c.self.view_is) at c.requires.some in
    let levels : All (λ place. place + 1 ≤ length lits) it.levels.items = rw (← c.self.view_is) at c.requires.levels in
    let at = length lits - 1 in
    let count : c.len-at.result - 1 ≡ at = omega arith in
    let lit = get_or lits at blank_lit in
    let is_lit : c.index-lit.result.now ≡ lit = get_or_read lits (c.len-at.result - 1) c.index-lit.result.now (omega arith) c.index-lit.ensures blank_lit ∙ ap (λ n. get_or lits n blank_lit) count in
    let whole : take at lits ++ lit ∷ [] ≡ lits = sym (take_more lits at blank_lit (omega arith)) ∙ take_all (at + 1) lits (omega arith) in
    let known : Exists (length ranges) it.rows lit.term = ok.trail.terms at blank_lit (omega arith) in
    let place = place_of (length ranges) lit.term lit.side in
    let told : c.place-place.result ≡ place_of (length ranges) c.index-lit.result.now.term c.index-lit.result.now.side = rw (← c.self.view_is) at c.place-place.ensures.place in
    let is_place : c.place-place.result ≡ place = told ∙ ap (λ (l : Lit). place_of (length ranges) l.term l.side) is_lit in
    let link = c.index.result.now in
    let is_link : link ≡ edge_after ranges it.rows lits at place = get_or_read it.links.items (c.len-at.result - 1) link (omega (arith, ok.links.one_each)) c.index.ensures no_edge ∙ ap (λ n. get_or it.links.items n no_edge) count ∙ ok.links.each at (omega arith) in
    let short : length (take at lits) ≡ at = length-take-le at lits (omega arith) in
    let here : link ≡ edge_after ranges it.rows (take at lits ++ lit ∷ []) (length (take at lits)) place = rw (whole, short) is_link in
    let edges = subst (λ xs. AreEdges ranges it.rows xs it.edges.items) (sym whole) ok.edges in
    let cut = c.truncate.ensures.items ∙ ap (λ n. take n lits) count in
    let cut_links = c.truncate-2.ensures.items ∙ ap (λ n. take n it.links.items) count in
    record {
      trail = rw cut (IsTrail-cut (lists it) at ok.trail (omega arith) (All-weaker (λ place. place + 1 ≤ length lits) (λ place. place ≤ at) (λ place h. omega arith) it.levels.items levels));
      edges = rw (cut, is_place) (AreEdges-drop ranges it.rows (take at lits) it.edges.items lit link known here edges);
      links = rw (cut, cut_links) (AreLinks-cut ranges it.rows lits it.links.items at (omega arith) ok.links);
    }
