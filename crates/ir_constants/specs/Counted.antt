-- The operands of a block that are counted: those whose number stands in the system of its function.
use Rattle.std.specs.Prelude.{ℕ, ◌+◌, ◌*◌, Bool, true, false, List, [], ◌∷◌, ◌++◌, length, map, sum_by}
use Rattle.std.specs.List.{flat_map}
use Rattle.ll_tree.specs.declared.block.Block.{Block}
use Rattle.ll_tree.specs.declared.block.Phi.{Phi}
use Rattle.ll_tree.specs.declared.block.Operand.{Operand}
use Rattle.ll_tree.specs.declared.op.BinKind.{BinKind}
use Rattle.ll_tree.specs.declared.op.BinKind.TheVariants as bin
use Rattle.ll_tree.specs.declared.op.Op.{Op}
use Rattle.ll_tree.specs.declared.op.Op.TheVariants.{Bin, Cmp, Cast, Select, Abs, Assume}
use Rattle.ll_rules.specs.Arithmetic.{is_constant}
use Rattle.ll_links.specs.Links.{end_operands}

-- Of two factors the one that isn't the constant: the right one is that where it is a constant, else the left.
abbrev pub factored : (constant : Bool) → (left right : Operand) → List Operand
factored true left right = left ∷ []
factored false left right = right ∷ []

-- the operands of an operation but for the factor, the amount and the divisor
abbrev pub counted_of : BinKind → (left right : Operand) → List Operand
counted_of bin.Add left right = left ∷ right ∷ []
counted_of bin.Sub left right = left ∷ right ∷ []
counted_of bin.Mul left right = factored (is_constant right) left right
counted_of bin.Shl left right = left ∷ []
counted_of bin.Lshr left right = left ∷ []
counted_of bin.Ashr left right = left ∷ []
counted_of bin.And left right = left ∷ right ∷ []
counted_of bin.Or left right = left ∷ right ∷ []
counted_of bin.Xor left right = left ∷ right ∷ []
counted_of bin.Udiv left right = left ∷ []
counted_of bin.Sdiv left right = left ∷ []
counted_of bin.Urem left right = left ∷ []
counted_of bin.Srem left right = left ∷ []
counted_of bin.Smin left right = left ∷ right ∷ []
counted_of bin.Smax left right = left ∷ right ∷ []
counted_of bin.Umin left right = left ∷ right ∷ []
counted_of bin.Umax left right = left ∷ right ∷ []

abbrev pub counted : Op → List Operand
counted (Bin kind flags width left right) = counted_of kind left right
counted (Cmp pred flags width left right) = left ∷ right ∷ []
counted (Cast kind flags from arg to) = arg ∷ []
counted (Select width cond first second) = cond ∷ first ∷ second ∷ []
counted (Abs width arg strict) = arg ∷ []
counted (Assume cond) = cond ∷ []

abbrev pub entries_of : Phi → List Operand
entries_of phi = map (λ entry. entry.value) phi.entries

-- of a block: of its phis' entries, of its instructions as written, and last of its terminator
abbrev pub counted_in : Block → List Operand
counted_in block = flat_map entries_of block.phis ++ (flat_map (λ instr. counted instr.op) block.body ++ end_operands block.end)

-- how many operands a block has at most: its phis' entries, three for each instruction, and its terminator's
abbrev pub most_in : Block → ℕ
most_in block = sum_by (λ phi. length phi.entries) block.phis + 3 * length block.body + 1
