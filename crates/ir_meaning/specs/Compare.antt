-- Comparisons (LLVM Language Reference, `icmp`).
use Rattle.std.specs.Prelude.{ℕ, Bool, not, ◌&&◌, ◌==◌, nat_lt, nat_le, if◌then◌else◌, pos, int_lt, int_le}
use Rattle.ll_tree.specs.declared.op.Pred.{Pred}
use Rattle.ll_tree.specs.declared.op.Pred.TheVariants.{Eq, Ne, Ugt, Uge, Ult, Ule, Sgt, Sge, Slt, Sle}
use Rattle.ll_tree.specs.declared.op.Flags.{Flags}
use Rattle.ir_meaning.specs.declared.value.Val.{Val}
use Rattle.ir_meaning.specs.Whole.{signed}
use Rattle.ir_meaning.specs.Value.{poison_if, on_numbers}

-- whether the predicate holds of two numbers of the width: the `s` predicates compare the signed readings
abbrev pub holds : Pred → ℕ → ℕ → ℕ → Bool
holds Eq width a b = a == b
holds Ne width a b = not (a == b)
holds Ugt width a b = nat_lt b a
holds Uge width a b = nat_le b a
holds Ult width a b = nat_lt a b
holds Ule width a b = nat_le a b
holds Sgt width a b = int_lt (signed width b) (signed width a)
holds Sge width a b = int_le (signed width b) (signed width a)
holds Slt width a b = int_lt (signed width a) (signed width b)
holds Sle width a b = int_le (signed width a) (signed width b)

-- whether a signed reading is negative
abbrev pub is_negative : ℕ → ℕ → Bool
is_negative width a = int_lt (signed width a) (pos 0)

-- whether exactly one of two signed readings is negative
abbrev pub signs_differ : ℕ → ℕ → ℕ → Bool
signs_differ width a b = if is_negative width a then not (is_negative width b) else (is_negative width b)

-- 1 where the predicate holds, else 0; `samesign` bars different signs
abbrev pub cmp_on : Pred → Flags → ℕ → ℕ → ℕ → Val
cmp_on pred flags width a b = poison_if (flags.samesign && signs_differ width a b) (if holds pred width a b then 1 else 0)

abbrev pub cmp_of : Pred → Flags → ℕ → Val → Val → Val
cmp_of pred flags width a b = on_numbers (cmp_on pred flags width) a b
