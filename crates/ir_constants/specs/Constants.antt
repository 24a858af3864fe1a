-- The constants of blocks that have a variable of their own, in the order of their first use.
use Rattle.std.specs.Prelude.{◌≡◌, ◌==◌, ◌||◌, ℕ, ◌+◌, ◌<◌, nat_eq, nat_le, if◌then◌else◌, List, [], ◌∷◌, ◌++◌, length, fold, slice_index_or}
use Rattle.std.specs.Option.{unwrap_or}
use Rattle.std.specs.List.{flat_map, list_any}
use Rattle.std.specs.Map.{lookup}
use Rattle.ll_tree.specs.declared.block.Block.{Block}
use Rattle.ll_tree.specs.declared.block.Operand.{Operand}
use Rattle.ll_tree.specs.declared.block.Operand.TheVariants as operand
use Rattle.ir_constants.specs.Counted.{counted_in}

-- constants with a number more, unless it is there; those of 0 and 1 are the first two variables
abbrev pub with_number : List ℕ → ℕ → List ℕ
with_number constants n = if nat_le n 1 || list_any (nat_eq n) constants then constants else (constants ++ n ∷ [])

abbrev pub with_operand : List ℕ → Operand → List ℕ
with_operand constants (operand.Name name) = constants
with_operand constants (operand.Const n) = with_number constants n
with_operand constants operand.Poison = constants

-- constants with the numbers of some operands, each once
abbrev pub with_operands : List ℕ → List Operand → List ℕ
with_operands constants operands = fold with_operand constants operands

-- of blocks in this order
abbrev pub constants_of : List Block → List ℕ
constants_of blocks = with_operands [] (flat_map counted_in blocks)

-- ---- their variables

-- constants with their variables, the first of which is this one
abbrev pub vars_from : ℕ → List ℕ → List (ℕ × ℕ)
vars_from var [] = []
vars_from var (n ∷ constants) = (n, var) ∷ vars_from (var + 1) constants

-- Variables 0 and 1 are the numbers 0 and 1, and behind them the constants have theirs.
abbrev pub constant_var : List ℕ → ℕ → ℕ
constant_var constants n = if nat_le n 1 then n else (unwrap_or (lookup (λ value. value == n) (vars_from 2 constants)) 0)

-- the number that stands at the constant's variable is the constant
pub record HasVar (constants : List ℕ) (n : ℕ) : Type 0 where
  pub within : constant_var constants n < 2 + length constants
  pub stands : slice_index_or (0 ∷ 1 ∷ constants) (constant_var constants n) 0 ≡ n
