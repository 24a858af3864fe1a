use Rattle.std.proofs.Common.{◌≡◌, take}
use Rattle.std.specs.List.{flat_map}
use Rattle.ir_constants.specs.Constants.{with_operands}
use Rattle.ir_constants.specs.Counted.{counted}
use Rattle.ir_constants.proofs.constants.Constants.add_body.Given as goal

abbrev pub invariant-loop-instr : goal.invariant-loop-instr
invariant-loop-instr l = l.self ≡ with_operands l.initial.self (flat_map (λ instr. counted instr.op) (take l.instr-index l.body))
