use Rattle.std.proofs.Common.{◌≡◌, ◌<◌, ℕ, List, length, sym, set, subst, arith, below_more}
use Rattle.flow_graph.specs.declared.edge.Edge.{Edge}
use Rattle.ll_rules.specs.declared.limits.TheConstants.{MAX_BLOCKS}
use Rattle.wcet_core.specs.Priced.{cell, edge_at, IsPut}
use Rattle.wcet_core.proofs.PricedLaws.{put_one, put_same}
use Rattle.wcet_core.proofs.priced.put_edges.Goals as goal

pub loop-at-preserved : goal.loop-at-preserved
loop-at-preserved c =
    let edges = c.edges-edges.result.now in
    let cells = c.loop-at.cells in
    let edge = edge_at edges c.loop-at.at in
    let room = λ (k : ℕ) (low : k < length edges).
    subst (λ (edges : List Edge). k < length edges → ((edge_at edges k).to < MAX_BLOCKS) × (cell (edge_at edges k).from (edge_at edges k).to < length c.args.cells.now)) (sym c.edges-edges.ensures) (c.requires k) low in
    let here = room c.loop-at.at c.loop-at-test.true in
    let there : cell edge.from edge.to < length cells = omega (arith, here.1, c.loop-at.auto.cells) in
    let put = λ (other : Edge) (is : IsPut c.args.costs.now (set cells (cell edge.from edge.to) c.edge.result) other).
    subst (λ (n : ℕ). IsPut c.args.costs.now (set cells n c.edge.result) other) (sym c.cell.ensures) is in
    below_more _ _
    (λ k low. put (edge_at edges k) (put_one c.args.costs.now cells edge (edge_at edges k) c.edge.result here.0 (room k (omega (arith, low, c.loop-at-test.true))).0 there c.edge.ensures.cost (c.loop-at.invariant k low)))
    (put edge (put_same c.args.costs.now cells edge c.edge.result there c.edge.ensures.cost))
