use Rattle.std.proofs.Common.{ℕ, subst}
use Rattle.flow_graph.specs.Paths.{IsForward}
use Rattle.flow_rules.proofs.OrderLaws.{places_apart, flow_forward}
use Rattle.flow_rules.proofs.StoredLaws.{sound_of, flow_in}
use Rattle.flow_rules.proofs.flow.Flow.in_order.Goals as goal

pub positions_of-requires-clause-apart : goal.positions_of-requires-clause-apart
positions_of-requires-clause-apart c =
    rw c.items.ensures (places_apart c.args.blocks c.args.graph c.args.order c.requires.kept)

pub rows_of-requires-clause-forward : goal.rows_of-requires-clause-forward
rows_of-requires-clause-forward c =
    let flow = flow_in c.args.blocks c.args.graph c.args.order c.in_ok-positions.positions c.in_ok-edges.edges c.items-2.result.now c.items.result.now c.items-3.result.now c.items.ensures c.items-2.ensures c.items-3.ensures c.requires.within c.requires.kept c.requires.size c.in_ok-positions.ensures c.in_ok-edges.ensures.sorted c.in_ok-edges.ensures.same in
    rw c.items-4.ensures (subst (λ (n : ℕ). IsForward n c.in_ok-edges.edges) c.requires.size (flow_forward c.args.blocks _ flow))

pub invariant_of-result : goal.invariant_of-result
invariant_of-result c =
    let flow = flow_in c.args.blocks c.args.graph c.args.order c.in_ok-positions.positions c.in_ok-edges.edges c.items-2.result.now c.items.result.now c.items-3.result.now c.items.ensures c.items-2.ensures c.items-3.ensures c.requires.within c.requires.kept c.requires.size c.in_ok-positions.ensures c.in_ok-edges.ensures.sorted c.in_ok-edges.ensures.same in
    sound_of _ c.args.blocks c.requires.size c.requires.entry c.ranges.blocks.fits flow (rw c.items.ensures at c.in_ok-positions.ensures) (rw (c.items-4.ensures, c.items-5.ensures) at c.in_ok-rows.ensures)

pub returns-clause-flow : goal.returns-clause-flow
returns-clause-flow c =
    flow_in c.args.blocks c.args.graph c.args.order c.in_ok-positions.positions c.in_ok-edges.edges c.items-2.result.now c.items.result.now c.items-3.result.now c.items.ensures c.items-2.ensures c.items-3.ensures c.requires.within c.requires.kept c.requires.size c.in_ok-positions.ensures c.in_ok-edges.ensures.sorted c.in_ok-edges.ensures.same
