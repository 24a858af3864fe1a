use Rattle.std.proofs.Common.{◌≡◌, length}
use Rattle.path_encoding.specs.Paths.{positions}
use Rattle.path_encoding.specs.Filled.{put_marks, is_step, put_edges}
use Rattle.path_encoding.proofs.PairLaws.{pairs_from}
use Rattle.path_encoding.proofs.fill.put_edges.Given as goal

abbrev pub invariant-loop-item : goal.invariant-loop-item
invariant-loop-item l = record {
  size : length l.point ≡ length l.initial.point;
  put : put_marks (is_step (positions l.path)) (pairs_from l.edges l.vars l.item) l.point ≡ put_edges (positions l.path) l.edges l.vars l.initial.point;
}
