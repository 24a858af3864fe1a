-- Operands that have to be constant, and divisors.
use Rattle.std.specs.Prelude.{Bool, false, not}
use Rattle.ll_rules.specs.Items.{Item, OfPhi, OfInstr, OfEnd}
use Rattle.ll_rules.specs.Arithmetic.{is_linear, has_divisor}

abbrev pub is_not_linear : Item → Bool
is_not_linear (OfPhi phi) = false
is_not_linear (OfInstr instr) = not (is_linear instr.op)
is_not_linear (OfEnd end) = false

abbrev pub has_bad_divisor : Item → Bool
has_bad_divisor (OfPhi phi) = false
has_bad_divisor (OfInstr instr) = not (has_divisor instr.op)
has_bad_divisor (OfEnd end) = false
