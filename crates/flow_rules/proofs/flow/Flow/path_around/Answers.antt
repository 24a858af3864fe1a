use Rattle.std.proofs.Common.{◌≡◌, ◌<◌, ℕ, length, get_or, map, sym, ◌∙◌, ap, arith, subst}
use Rattle.flow_graph.specs.Paths.{IsForward}
use Rattle.flow_rules.proofs.StoredLaws.{edges_forward, position_is, undefined_mark, undefined_path, path_within}
use Rattle.flow_rules.proofs.flow.Flow.path_around.Goals as goal

pub path_to-requires-clause-forward : goal.path_to-requires-clause-forward
path_to-requires-clause-forward c =
    let low : c.position-around.result < length c.self.inside.order = rw (← c.self.view_is) at c.position-around.ensures.within in
    let size : length c.row.result.now ≡ length c.self.inside.order = ap length c.row.ensures ∙ c.self.invariant.rows.sizes c.position-around.result (omega (arith, low)) in
    rw c.items.ensures (subst (λ (n : ℕ). IsForward n c.self.inside.edges) (sym size) (edges_forward c.self.inside c.self.invariant))

pub path_to-requires-clause-marked : goal.path_to-requires-clause-marked
path_to-requires-clause-marked c =
    undefined_mark c.self.inside c.self.invariant c.args.it.now c.position-around.result c.position-2.result c.row.result.now (rw (← c.self.view_is) at c.requires.within) (rw (← c.self.view_is) at c.position-around.ensures.within) (rw (← c.self.view_is) at c.position-around.ensures.there) (rw (← c.self.view_is) at c.position-2.ensures.within) (rw (← c.self.view_is) at c.position-2.ensures.there) c.row.ensures (rw (← c.self.view_is) at c.requires.undefined)

pub places_of-requires : goal.places_of-requires
places_of-requires c =
    rw (c.items-3.ensures, c.items-2.ensures) (path_within c.self.inside c.self.invariant c.position-around.result c.position.result c.in_ok-path.path c.position-2.result (rw (← c.self.view_is) at c.position-2.ensures.within) (rw c.items.ensures at c.in_ok-path.ensures))

pub returns : goal.returns
returns c =
    let places : c.in_ok-places.places ≡ map (λ at. get_or c.self.inside.order at 0) c.in_ok-path.path = rw (c.items-2.ensures, c.items-3.ensures) at c.in_ok-places.ensures in
    let entry = position_is c.self.inside c.self.invariant 0 c.position.result (rw (← c.self.view_is) at c.position.ensures.within) (rw (← c.self.view_is) at c.position.ensures.there) in
    rw (places, ← c.self.view_is) (undefined_path c.self.inside c.self.invariant c.args.it.now c.position-around.result c.position-2.result c.row.result.now (rw (← c.self.view_is) at c.requires.within) (rw (← c.self.view_is) at c.position-around.ensures.within) (rw (← c.self.view_is) at c.position-around.ensures.there) (rw (← c.self.view_is) at c.position-2.ensures.within) (rw (← c.self.view_is) at c.position-2.ensures.there) c.row.ensures c.position.result (sym entry) (rw (← c.self.view_is) at c.requires.undefined) c.in_ok-path.path (rw c.items.ensures at c.in_ok-path.ensures))
