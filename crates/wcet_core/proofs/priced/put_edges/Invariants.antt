use Rattle.std.proofs.Common.{◌<◌, ℕ}
use Rattle.wcet_core.specs.Priced.{edge_at, IsPut}
use Rattle.wcet_core.proofs.priced.put_edges.Given as goal

abbrev pub invariant-loop-at : goal.invariant-loop-at
invariant-loop-at l = (k : ℕ) → k < l.at → IsPut l.costs l.cells (edge_at l.edges k)
