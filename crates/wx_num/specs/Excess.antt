-- What the clauses of checked arithmetic cite.
use Rattle.std.specs.Prelude.{ℤ, ◌+ℤ◌, ◌-ℤ◌, ◌*ℤ◌, FitsSigned}
use Rattle.std.specs.Int.{w128}
use Rattle.wx_num.specs.declared.excess.NumOp.{NumOp}
use Rattle.wx_num.specs.declared.excess.NumOp.TheVariants.{Plus, Minus, Times}
use Rattle.wx_num.specs.declared.excess.Excess.{Excess}

-- the result of an operation in whole numbers without a bound
abbrev pub exact : NumOp → ℤ → ℤ → ℤ
exact Plus x y = x +ℤ y
exact Minus x y = x -ℤ y
exact Times x y = x *ℤ y

-- the exact result of the named operation on the two numbers lies outside i128
abbrev pub Overflows : Excess → Type 0
Overflows e = ¬ FitsSigned w128 (exact e.op e.x e.y)
