use Rattle.flow_graph.proofs.SortingLaws.{kept_sorted, kept_same}
use Rattle.flow_graph.proofs.sorting.sorted.Goals as goal

pub returns-clause-sorted : goal.returns-clause-sorted
returns-clause-sorted c =
    rw c.from_vec.ensures (kept_sorted c.args.edges.items c.sort.new.self.items c.dedup.new.self.items c.sort.ensures.permutation c.dedup.ensures.filtered c.in_ok-sort.ensures.sorted)

pub returns-clause-same : goal.returns-clause-same
returns-clause-same c =
    rw c.from_vec.ensures (kept_same c.args.edges.items c.sort.new.self.items c.dedup.new.self.items c.sort.ensures.permutation c.dedup.ensures.filtered)
