use Rattle.std.proofs.Common.{below_more, rules}
use Rattle.flow_rules.proofs.flow.Flow.unreached.Goals as goal

pub loop-block-preserved : goal.loop-block-preserved
loop-block-preserved c = below_more _ _ c.loop-block.invariant (c.is_reached.ensures.0 (search rules))
