use Rattle.std.proofs.Common.{◌<◌, ℕ}
use Rattle.flow_rules.specs.Paths.{IsReached}
use Rattle.flow_rules.proofs.flow.Flow.unreached.Given as goal

abbrev pub invariant-loop-block : goal.invariant-loop-block
invariant-loop-block l = (other : ℕ) → other < l.block → IsReached l.self.graph other
