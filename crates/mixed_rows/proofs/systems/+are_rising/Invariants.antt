use Rattle.std.proofs.Common.{length}
use Rattle.mixed_rows.proofs.systems.+are_rising.Given as goal

abbrev pub decreases-are_rising : goal.decreases-are_rising
decreases-are_rising l = length l.parts.now
