use Rattle.std.specs.List.{AllWithin}
use Rattle.flow_rules.specs.Paths.{IsDefined}
use Rattle.flow_rules.proofs.flow.Flow.first_undefined.Given as goal

abbrev pub invariant-loop-at : goal.invariant-loop-at
invariant-loop-at l = AllWithin (IsDefined l.self.graph) l.uses 0 l.at
