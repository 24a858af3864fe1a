-- Which operands of an operation have to be constant, and which divisors are taken.
use Rattle.std.specs.Prelude.{ℕ, ◌-◌, ◌^◌, Bool, true, false, ◌||◌, ◌&&◌, ◌==◌, not}
use Rattle.ll_tree.specs.declared.block.Operand.{Operand}
use Rattle.ll_tree.specs.declared.block.Operand.TheVariants as operand
use Rattle.ll_tree.specs.declared.op.BinKind.{BinKind}
use Rattle.ll_tree.specs.declared.op.BinKind.TheVariants as kind
use Rattle.ll_tree.specs.declared.op.Op.{Op}
use Rattle.ll_tree.specs.declared.op.Op.TheVariants.{Bin, Cmp, Cast, Select, Abs, Assume}

-- a number or `poison`
abbrev pub is_constant : Operand → Bool
is_constant (operand.Name name) = false
is_constant (operand.Const number) = true
is_constant operand.Poison = true

-- what has to be constant: of the two factors one, of a shift its amount, of a division its divisor
abbrev pub are_linear : BinKind → Bool → Bool → Bool
are_linear kind.Add left right = true
are_linear kind.Sub left right = true
are_linear kind.Mul left right = left || right
are_linear kind.Shl left right = right
are_linear kind.Lshr left right = right
are_linear kind.Ashr left right = right
are_linear kind.And left right = true
are_linear kind.Or left right = true
are_linear kind.Xor left right = true
are_linear kind.Udiv left right = right
are_linear kind.Sdiv left right = right
are_linear kind.Urem left right = right
are_linear kind.Srem left right = right
are_linear kind.Smin left right = true
are_linear kind.Smax left right = true
are_linear kind.Umin left right = true
are_linear kind.Umax left right = true

-- no product, shift or division of a value by a value
abbrev pub is_linear : Op → Bool
is_linear (Bin kind flags width left right) = are_linear kind (is_constant left) (is_constant right)
is_linear (Cmp pred flags width left right) = true
is_linear (Cast kind flags from arg to) = true
is_linear (Select width cond first second) = true
is_linear (Abs width arg strict) = true
is_linear (Assume cond) = true

-- a divisor of an unsigned division or remainder: neither 0 nor `poison`
abbrev pub is_unsigned_divisor : Operand → Bool
is_unsigned_divisor (operand.Name name) = true
is_unsigned_divisor (operand.Const number) = not (number == 0)
is_unsigned_divisor operand.Poison = false

-- a divisor of a signed one: neither 0 nor -1 nor `poison`
abbrev pub is_signed_divisor : ℕ → Operand → Bool
is_signed_divisor width (operand.Name name) = true
is_signed_divisor width (operand.Const number) = not (number == 0) && not (number == 2 ^ width - 1)
is_signed_divisor width operand.Poison = false

abbrev pub is_divisor : BinKind → ℕ → Operand → Bool
is_divisor kind.Add width right = true
is_divisor kind.Sub width right = true
is_divisor kind.Mul width right = true
is_divisor kind.Shl width right = true
is_divisor kind.Lshr width right = true
is_divisor kind.Ashr width right = true
is_divisor kind.And width right = true
is_divisor kind.Or width right = true
is_divisor kind.Xor width right = true
is_divisor kind.Udiv width right = is_unsigned_divisor right
is_divisor kind.Sdiv width right = is_signed_divisor width right
is_divisor kind.Urem width right = is_unsigned_divisor right
is_divisor kind.Srem width right = is_signed_divisor width right
is_divisor kind.Smin width right = true
is_divisor kind.Smax width right = true
is_divisor kind.Umin width right = true
is_divisor kind.Umax width right = true

-- no division by 0, by `poison` or, where it is signed, by -1
abbrev pub has_divisor : Op → Bool
has_divisor (Bin kind flags width left right) = is_divisor kind width right
has_divisor (Cmp pred flags width left right) = true
has_divisor (Cast kind flags from arg to) = true
has_divisor (Select width cond first second) = true
has_divisor (Abs width arg strict) = true
has_divisor (Assume cond) = true
