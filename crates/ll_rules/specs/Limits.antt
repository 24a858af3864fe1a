-- How much of each thing a function has, and how much it may have.
use Rattle.std.specs.Prelude.{ℕ, ◌+◌, ◌-◌, ◌^◌, ◌<◌, ◌≤◌, ◌≡◌, List, [], ◌∷◌, length, sum_by, min, Bool, true, false, if◌then◌else◌}
use Rattle.std.specs.List.{list_any}
use Rattle.std.specs.Str.{bytes_eq}
use Rattle.ll_tree.specs.declared.func.Func.{Func}
use Rattle.ll_tree.specs.declared.block.End.{End}
use Rattle.ll_tree.specs.declared.block.End.TheVariants as end
use Rattle.ll_tree.specs.declared.op.BinKind.{BinKind}
use Rattle.ll_tree.specs.declared.op.BinKind.TheVariants as kind
use Rattle.ll_tree.specs.declared.op.Op.{Op}
use Rattle.ll_tree.specs.declared.op.Op.TheVariants.{Bin, Cmp, Cast, Select, Abs, Assume}
use Rattle.ll_rules.specs.Items.{targets_of}
use Rattle.ll_rules.specs.declared.limits.TheConstants.{MAX_BLOCKS, MAX_PARAMS, MAX_VALUES, MAX_ENTRIES, MAX_CASES, MAX_EDGES, MAX_BITS}
use Rattle.ll_rules.specs.declared.limits.Limit.{Limit}
use Rattle.ll_rules.specs.declared.limits.Limit.TheVariants as limit
use Rattle.ll_rules.specs.declared.limits.TooMany.{TooMany}

-- parameters, phis and instructions, an assume as one
abbrev pub count_values : Func → ℕ
count_values func = length func.params + sum_by (λ block. length block.phis + length block.body) func.blocks

abbrev pub count_entries : Func → ℕ
count_entries func = sum_by (λ block. sum_by (λ phi. length phi.entries) block.phis) func.blocks

abbrev pub end_cases : End → ℕ
end_cases end.RetVoid = 0
end_cases (end.Ret width value) = 0
end_cases (end.Br to) = 0
end_cases (end.CondBr cond on_one on_zero) = 0
end_cases (end.Switch width value default cases) = length cases
end_cases end.Unreachable = 0

abbrev pub count_cases : Func → ℕ
count_cases func = sum_by (λ block. end_cases block.end) func.blocks

-- how many different names a list has
abbrev pub count_distinct : List (List ℕ) → ℕ
count_distinct [] = 0
count_distinct (name ∷ names) = (if list_any (λ other. bytes_eq other name) names then 0 else 1) + count_distinct names

-- different pairs of a block and a target's name
abbrev pub count_edges : Func → ℕ
count_edges func = sum_by (λ block. count_distinct (targets_of block.end)) func.blocks

abbrev pub is_bitwise : BinKind → Bool
is_bitwise kind.Add = false
is_bitwise kind.Sub = false
is_bitwise kind.Mul = false
is_bitwise kind.Shl = false
is_bitwise kind.Lshr = false
is_bitwise kind.Ashr = false
is_bitwise kind.And = true
is_bitwise kind.Or = true
is_bitwise kind.Xor = true
is_bitwise kind.Udiv = false
is_bitwise kind.Sdiv = false
is_bitwise kind.Urem = false
is_bitwise kind.Srem = false
is_bitwise kind.Smin = false
is_bitwise kind.Smax = false
is_bitwise kind.Umin = false
is_bitwise kind.Umax = false

-- the width of an `and`, `or` or `xor`
abbrev pub op_bits : Op → ℕ
op_bits (Bin kind flags width left right) = if is_bitwise kind then width else 0
op_bits (Cmp pred flags width left right) = 0
op_bits (Cast kind flags from arg to) = 0
op_bits (Select width cond first second) = 0
op_bits (Abs width arg strict) = 0
op_bits (Assume cond) = 0

abbrev pub count_bits : Func → ℕ
count_bits func = sum_by (λ block. sum_by (λ instr. op_bits instr.op) block.body) func.blocks

abbrev pub count_of : Limit → Func → ℕ
count_of limit.Blocks func = length func.blocks
count_of limit.Params func = length func.params
count_of limit.Values func = count_values func
count_of limit.Entries func = count_entries func
count_of limit.Cases func = count_cases func
count_of limit.Edges func = count_edges func
count_of limit.Bits func = count_bits func

-- a number as 64 bits hold it: a greater one stands at their end
abbrev pub held : ℕ → ℕ
held count = min count (2 ^ 64 - 1)

pub record KeepsLimits (func : Func) : Type 0 where
  pub blocks : length func.blocks ≤ MAX_BLOCKS
  pub params : length func.params ≤ MAX_PARAMS
  pub values : count_values func ≤ MAX_VALUES
  pub entries : count_entries func ≤ MAX_ENTRIES
  pub cases : count_cases func ≤ MAX_CASES
  pub edges : count_edges func ≤ MAX_EDGES
  pub bits : count_bits func ≤ MAX_BITS

abbrev pub most_of : Limit → ℕ
most_of limit.Blocks = MAX_BLOCKS
most_of limit.Params = MAX_PARAMS
most_of limit.Values = MAX_VALUES
most_of limit.Entries = MAX_ENTRIES
most_of limit.Cases = MAX_CASES
most_of limit.Edges = MAX_EDGES
most_of limit.Bits = MAX_BITS

abbrev pub Keeps : Limit → Func → Type 0
Keeps what func = count_of what func ≤ most_of what

-- the limits before this one are kept
abbrev pub KeepsBefore : Limit → Func → Type 0
KeepsBefore limit.Blocks func = Unit {0}
KeepsBefore limit.Params func = Keeps limit.Blocks func
KeepsBefore limit.Values func = Keeps limit.Blocks func × Keeps limit.Params func
KeepsBefore limit.Entries func = Keeps limit.Blocks func × Keeps limit.Params func × Keeps limit.Values func
KeepsBefore limit.Cases func = Keeps limit.Blocks func × Keeps limit.Params func × Keeps limit.Values func × Keeps limit.Entries func
KeepsBefore limit.Edges func = Keeps limit.Blocks func × Keeps limit.Params func × Keeps limit.Values func × Keeps limit.Entries func × Keeps limit.Cases func
KeepsBefore limit.Bits func = Keeps limit.Blocks func × Keeps limit.Params func × Keeps limit.Values func × Keeps limit.Entries func × Keeps limit.Cases func × Keeps limit.Edges func

-- the first limit that is exceeded, with its count
pub record IsFirstExcess (func : Func) (excess : TooMany) : Type 0 where
  pub over : most_of excess.what < count_of excess.what func
  pub count : excess.count ≡ held (count_of excess.what func)
  pub before : KeepsBefore excess.what func
