use Rattle.level_theories.specs.Latest.{AreLatest}
use Rattle.level_theories.proofs.latest.back_level.Given as goal

abbrev pub invariant-loop-at : goal.invariant-loop-at
invariant-loop-at l = AreLatest l.level.search.trail l.lits l.at l.latest
