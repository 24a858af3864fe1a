-- The words of operations, conversions, predicates and types.
use Rattle.std.specs.Prelude.{ℕ, List, ◌++◌, codes, Bool, true, false}
use Rattle.std.specs.Fmt.{decimal}
use Rattle.ll_tree.specs.declared.op.BinKind.{BinKind}
use Rattle.ll_tree.specs.declared.op.BinKind.TheVariants as kind
use Rattle.ll_tree.specs.declared.op.CastKind.{CastKind}
use Rattle.ll_tree.specs.declared.op.CastKind.TheVariants as cast
use Rattle.ll_tree.specs.declared.op.Pred.{Pred}
use Rattle.ll_tree.specs.declared.op.Pred.TheVariants as pred

-- the operations that are written as calls of `@llvm.WORD.TYPE`
abbrev pub is_called : BinKind → Bool
is_called kind.Add = false
is_called kind.Sub = false
is_called kind.Mul = false
is_called kind.Shl = false
is_called kind.Lshr = false
is_called kind.Ashr = false
is_called kind.And = false
is_called kind.Or = false
is_called kind.Xor = false
is_called kind.Udiv = false
is_called kind.Sdiv = false
is_called kind.Urem = false
is_called kind.Srem = false
is_called kind.Smin = true
is_called kind.Smax = true
is_called kind.Umin = true
is_called kind.Umax = true

abbrev pub bin_word : BinKind → List ℕ
bin_word kind.Add = codes "add"
bin_word kind.Sub = codes "sub"
bin_word kind.Mul = codes "mul"
bin_word kind.Shl = codes "shl"
bin_word kind.Lshr = codes "lshr"
bin_word kind.Ashr = codes "ashr"
bin_word kind.And = codes "and"
bin_word kind.Or = codes "or"
bin_word kind.Xor = codes "xor"
bin_word kind.Udiv = codes "udiv"
bin_word kind.Sdiv = codes "sdiv"
bin_word kind.Urem = codes "urem"
bin_word kind.Srem = codes "srem"
bin_word kind.Smin = codes "smin"
bin_word kind.Smax = codes "smax"
bin_word kind.Umin = codes "umin"
bin_word kind.Umax = codes "umax"

abbrev pub cast_word : CastKind → List ℕ
cast_word cast.Zext = codes "zext"
cast_word cast.Sext = codes "sext"
cast_word cast.Trunc = codes "trunc"

abbrev pub pred_word : Pred → List ℕ
pred_word pred.Eq = codes "eq"
pred_word pred.Ne = codes "ne"
pred_word pred.Ugt = codes "ugt"
pred_word pred.Uge = codes "uge"
pred_word pred.Ult = codes "ult"
pred_word pred.Ule = codes "ule"
pred_word pred.Sgt = codes "sgt"
pred_word pred.Sge = codes "sge"
pred_word pred.Slt = codes "slt"
pred_word pred.Sle = codes "sle"

-- an integer type of so many bits
abbrev pub type_word : ℕ → List ℕ
type_word width = codes "i" ++ decimal width
