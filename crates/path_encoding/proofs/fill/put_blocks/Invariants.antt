use Rattle.std.proofs.Common.{◌≡◌, length, drop}
use Rattle.path_encoding.specs.Paths.{positions}
use Rattle.path_encoding.specs.Filled.{put_blocks}
use Rattle.path_encoding.proofs.fill.put_blocks.Given as goal

abbrev pub invariant-loop-at : goal.invariant-loop-at
invariant-loop-at l = record {
  size : length l.point ≡ length l.initial.point;
  put : put_blocks (positions l.path) l.at (drop l.at l.vars) l.point ≡ put_blocks (positions l.path) 0 l.vars l.initial.point;
}
