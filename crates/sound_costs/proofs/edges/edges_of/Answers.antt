use Rattle.sound_costs.proofs.PlacedLaws.{placed_within, edges_are, ok_both}
use Rattle.sound_costs.proofs.edges.edges_of.Goals as goal

pub placed_edges-requires : goal.placed_edges-requires
placed_edges-requires c = rw (c.order.ensures.order, c.edges.ensures.edges) (placed_within c.args.sound.now c.order.ensures.sound)

pub returns : goal.returns
returns c =
    ok_both c.sorted.result c.sorted.ensures.sorted c.sorted.ensures.same (λ list rises same.
    edges_are c.args.sound.now c.order.ensures.sound list rises (rw (c.in_ok-placed.ensures, c.order.ensures.order, c.edges.ensures.edges) at same))
