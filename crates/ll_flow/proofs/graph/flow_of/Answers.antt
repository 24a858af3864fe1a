use Rattle.std.proofs.Common.{◌≡◌, List, sym, subst}
use Rattle.flow_graph.specs.declared.edge.Edge.{Edge}
use Rattle.block_order.specs.Order.{IsCycle}
use Rattle.ll_flow.proofs.PathLaws.{AreLeads, ends_within, cycle_within, cycle_labels, no_loop}
use Rattle.ll_flow.proofs.graph.flow_of.Goals as goal

pub new-requires-clause-within : goal.new-requires-clause-within
new-requires-clause-within c =
    let edges : AreLeads c.args.func.now c.in_ok-graph.graph = rw c.requires.labels at c.in_ok-graph.ensures.edges in
    rw c.len.ensures (ends_within c.args.func.now c.in_ok-graph.graph edges)

pub labels_at-requires : goal.labels_at-requires
labels_at-requires c =
    let edges : AreLeads c.args.func.now c.in_ok-graph.graph = rw c.requires.labels at c.in_ok-graph.ensures.edges in
    let cycle : IsCycle c.in_ok-graph.graph c.in-Err-Loop.places = rw (c.in-Err-Loop.is, c.in-Err-Loop.field-0-is) at c.new.ensures.fault in
    rw c.items.ensures (cycle_within c.args.func.now c.in_ok-graph.graph edges c.in-Err-Loop.places cycle)

pub returns-in-Ok : goal.returns-in-Ok
returns-in-Ok c =
    let edges : AreLeads c.args.func.now c.in_ok-graph.graph = rw c.requires.labels at c.in_ok-graph.ensures.edges in
    let graph : c.in-Ok.flow.graph ≡ c.in_ok-graph.graph = rw c.in-Ok.is at c.new.ensures.graph in (
      no_loop c.args.func.now c.in_ok-graph.graph edges c.requires.different (rw c.in-Ok.is at c.new.ensures.acyclic),
      record {
        flow = rw c.len.ensures at (rw c.in-Ok.is at c.new.ensures.flow);
        entry = c.requires.entry;
        edges = subst (λ (graph : List Edge). AreLeads c.args.func.now graph) (sym graph) edges;
      },
    )

pub returns-in_ok-cycle-in-Err-Loop : goal.returns-in_ok-cycle-in-Err-Loop
returns-in_ok-cycle-in-Err-Loop c =
    let edges : AreLeads c.args.func.now c.in_ok-graph.graph = rw c.requires.labels at c.in_ok-graph.ensures.edges in
    let cycle : IsCycle c.in_ok-graph.graph c.in-Err-Loop.places = rw (c.in-Err-Loop.is, c.in-Err-Loop.field-0-is) at c.new.ensures.fault in
    rw (c.in_ok-cycle-in-Err-Loop.ensures, c.items.ensures) (cycle_labels c.args.func.now c.in_ok-graph.graph edges c.in-Err-Loop.places cycle)
