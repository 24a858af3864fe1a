use Rattle.std.proofs.Common.{drop}
use Rattle.mix_system.specs.Bounds.{range_bounds, range_bounds_from}
use Rattle.box_check.specs.Bounds.{StandsEverywhere}
use Rattle.open_levels.specs.Adds.{AreFor}
use Rattle.open_levels.proofs.AddsLaws.{Adding}
use Rattle.open_levels.proofs.filling.put_ranges.Given as goal

abbrev pub invariant-loop-var : goal.invariant-loop-var
invariant-loop-var l = record {
  adding : Adding StandsEverywhere (range_bounds l.system.ranges) (range_bounds_from l.var (drop l.var l.system.ranges)) l.initial.bounds l.bounds;
  over : AreFor l.system l.bounds;
}
