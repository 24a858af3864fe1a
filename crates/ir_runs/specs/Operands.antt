-- That no operand of a walk lacks its value.
use Rattle.std.specs.Prelude.{ℕ, List, [], ◌∷◌, Contains, Option, Some, IsSome}
use Rattle.std.specs.List.{AllByRecursion}
use Rattle.ll_tree.specs.declared.block.Block.{Block}
use Rattle.ll_tree.specs.declared.block.Operand.{Operand}
use Rattle.ll_rules.specs.Items.{Part, Use, op_parts, end_parts}
use Rattle.ir_runs.specs.Values.{Vals, operand_value, phi_value}

-- the operands among some parts have values
abbrev pub AreThere : Vals → List Part → Type 0
AreThere vals parts = (value : Operand) (width : ℕ) → Contains parts (Use value width) → IsSome (operand_value vals value)

-- The operands of a block have values, of each phi that for the label before.
pub record HasOperands (vals : Vals) (before : Option (List ℕ)) (block : Block) : Type 0 where
  pub phis : AllByRecursion (λ phi. IsSome (phi_value vals before phi)) block.phis
  pub body : AllByRecursion (λ instr. AreThere vals (op_parts instr.op)) block.body
  pub ends : AreThere vals (end_parts block.end)

abbrev pub HaveOperands : Vals → Option (List ℕ) → List Block → Type 0
HaveOperands vals before [] = Unit {0}
HaveOperands vals before (block ∷ blocks) = HasOperands vals before block × HaveOperands vals (Some block.label) blocks
