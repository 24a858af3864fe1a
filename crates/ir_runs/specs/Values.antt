-- The values of a function's names, and what its items compute (LLVM Language Reference, "Poison Values", "phi Instruction").
use Rattle.std.specs.Prelude.{ℕ, ◌&&◌, ◌||◌, Bool, true, not, nat_lt, nat_le, if◌then◌else◌, List, map, Option, Some, None}
use Rattle.std.specs.Option.{option_map, option_and_then}
use Rattle.std.specs.Map.{lookup}
use Rattle.std.specs.Str.{bytes_eq}
use Rattle.ll_tree.specs.declared.func.Range.{Range}
use Rattle.ll_tree.specs.declared.block.Phi.{Phi}
use Rattle.ll_tree.specs.declared.block.Operand.{Operand}
use Rattle.ll_tree.specs.declared.block.Operand.TheVariants as operand
use Rattle.ll_tree.specs.declared.op.Op.{Op}
use Rattle.ll_tree.specs.declared.op.Op.TheVariants.{Bin, Cmp, Cast, Select, Abs, Assume}
use Rattle.ir_meaning.specs.declared.value.Val.{Val}
use Rattle.ir_meaning.specs.declared.value.Val.TheVariants.{Poison, Num}
use Rattle.ir_meaning.specs.Value.{poison_if, on_number, select_of}
use Rattle.ir_meaning.specs.Rows.{bin_of, cast_of, abs_of}
use Rattle.ir_meaning.specs.Compare.{cmp_of}

-- A map from names to values: the value of a name, if it has one.
abbrev pub Vals : Type 0
Vals = List ℕ → Option Val

-- the number lies in the range: from `lo` up to `hi` without it or, where `lo` is the greater, from `lo` on or below `hi`
abbrev pub is_between : Range → ℕ → Bool
is_between range n = if nat_lt range.hi range.lo then (nat_le range.lo n || nat_lt n range.hi) else (nat_le range.lo n && nat_lt n range.hi)

abbrev pub is_in_range : Option Range → ℕ → Bool
is_in_range None n = true
is_in_range (Some range) n = is_between range n

-- a number, or poison where it isn't in the range
abbrev pub ranged : Option Range → ℕ → Val
ranged range n = poison_if (not (is_in_range range n)) n

abbrev pub operand_value : Vals → Operand → Option Val
operand_value vals (operand.Name name) = vals name
operand_value vals (operand.Const n) = Some (Num n)
operand_value vals operand.Poison = Some Poison

-- a function of two values, or of three, where there are values
abbrev pub of_two : (Val → Val → Val) → Option Val → Option Val → Option Val
of_two f a b = option_and_then (λ x. option_map (f x) b) a

abbrev pub of_three : (Val → Val → Val → Val) → Option Val → Option Val → Option Val → Option Val
of_three f a b c = option_and_then (λ x. of_two (f x) b c) a

-- what an operation computes from its operands' values, nothing for an assume
abbrev pub op_value : Vals → Op → Option Val
op_value vals (Bin kind flags width left right) = of_two (bin_of kind flags width) (operand_value vals left) (operand_value vals right)
op_value vals (Cmp pred flags width left right) = of_two (cmp_of pred flags width) (operand_value vals left) (operand_value vals right)
op_value vals (Cast kind flags from arg to) = option_map (cast_of kind flags from to) (operand_value vals arg)
op_value vals (Select width cond first second) = of_three select_of (operand_value vals cond) (operand_value vals first) (operand_value vals second)
op_value vals (Abs width arg strict) = option_map (on_number (abs_of strict width)) (operand_value vals arg)
op_value vals (Assume cond) = None

-- the operand of a phi for a label
abbrev pub operand_for : List ℕ → Phi → Option Operand
operand_for label phi = lookup (bytes_eq label) (map (λ entry. (entry.from, entry.value)) phi.entries)

-- the value of a phi is that of its operand for the label before its block on the path
abbrev pub phi_value : Vals → Option (List ℕ) → Phi → Option Val
phi_value vals before phi = option_and_then (operand_value vals) (option_and_then (λ label. operand_for label phi) before)
