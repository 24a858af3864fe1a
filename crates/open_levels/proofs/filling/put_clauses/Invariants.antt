use Rattle.std.proofs.Common.{drop}
use Rattle.mix_system.specs.Bounds.{unit_bounds}
use Rattle.box_check.specs.Bounds.{StandsEverywhere}
use Rattle.open_levels.specs.Adds.{AreFor}
use Rattle.open_levels.proofs.AddsLaws.{Adding}
use Rattle.open_levels.proofs.filling.put_clauses.Given as goal

abbrev pub invariant-loop-at : goal.invariant-loop-at
invariant-loop-at l = record {
  adding : Adding StandsEverywhere (unit_bounds l.system.clauses) (unit_bounds (drop l.at l.system.clauses)) l.initial.bounds l.bounds;
  over : AreFor l.system l.bounds;
}
