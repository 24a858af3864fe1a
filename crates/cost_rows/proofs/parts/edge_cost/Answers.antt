use Rattle.portion_cuts.proofs.LabelLaws.{edge_costed}
use Rattle.cost_rows.proofs.parts.edge_cost.Goals as goal

pub edge-requires : goal.edge-requires
edge-requires c =
    rw (c.block_at.ensures.place, c.block_at-then-flags-edge.ensures.place) (edge_costed c.args.sound.now c.block_at.ensures.sound c.args.costs.now c.requires.costs c.args.edge.from.0 c.args.edge.to.0 c.requires.edge)
