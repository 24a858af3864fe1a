use Rattle.std.proofs.Common.{◌≡◌, length}
use Rattle.path_encoding.specs.Filled.{put_marks, is_value, put_cases}
use Rattle.path_encoding.proofs.PairLaws.{pairs_from}
use Rattle.path_encoding.proofs.fill.put_cases.Given as goal

abbrev pub invariant-loop-item : goal.invariant-loop-item
invariant-loop-item l = record {
  size : length l.point ≡ length l.initial.point;
  put : put_marks (is_value l.number) (pairs_from l.cases l.vars l.item) l.point ≡ put_cases l.number l.cases l.vars l.initial.point;
}
