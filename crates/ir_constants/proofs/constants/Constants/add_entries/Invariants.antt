use Rattle.std.proofs.Common.{◌≡◌, take, map}
use Rattle.ir_constants.specs.Constants.{with_operands}
use Rattle.ir_constants.proofs.constants.Constants.add_entries.Given as goal

abbrev pub invariant-loop-entry : goal.invariant-loop-entry
invariant-loop-entry l = l.self ≡ with_operands l.initial.self (map (λ entry. entry.value) (take l.entry-index l.phi.entries))
