use Rattle.std.proofs.Common.{◌≡◌, take}
use Rattle.std.specs.List.{flat_map}
use Rattle.ir_constants.specs.Constants.{with_operands}
use Rattle.ir_constants.specs.Counted.{entries_of}
use Rattle.ir_constants.proofs.constants.Constants.add_phis.Given as goal

abbrev pub invariant-loop-phi : goal.invariant-loop-phi
invariant-loop-phi l = l.self ≡ with_operands l.initial.self (flat_map entries_of (take l.phi-index l.phis))
