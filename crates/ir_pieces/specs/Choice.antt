-- Which piece an operation has, over operands that are given by their variables.
use Rattle.std.specs.Prelude.{◌≡◌, ℕ, ◌<◌, Bool, true, false, not, ◌||◌, ◌&&◌, nat_lt, nat_le, if◌then◌else◌, ℤ, pos, List, slice_index_or, Option, Some, None}
use Rattle.std.specs.Option.{unwrap_or}
use Rattle.mix_system.specs.Row.{number_at}
use Rattle.ll_tree.specs.declared.block.Operand.{Operand}
use Rattle.ll_tree.specs.declared.block.Operand.TheVariants as operand
use Rattle.ll_tree.specs.declared.func.Range.{Range}
use Rattle.ll_tree.specs.declared.op.BinKind.{BinKind}
use Rattle.ll_tree.specs.declared.op.BinKind.TheVariants as bin
use Rattle.ll_tree.specs.declared.op.CastKind.{CastKind}
use Rattle.ll_tree.specs.declared.op.CastKind.TheVariants as cast
use Rattle.ll_tree.specs.declared.op.Flags.{Flags}
use Rattle.ll_tree.specs.declared.op.Op.{Op}
use Rattle.ll_tree.specs.declared.op.Op.TheVariants as op
use Rattle.ll_tree.specs.Formed.{IsFormedOp}
use Rattle.ll_rules.specs.Arithmetic.{is_linear, has_divisor}
use Rattle.ll_item_rules.specs.Widths.{op_differs}
use Rattle.ir_meaning.specs.declared.value.Val.{Val}
use Rattle.ir_meaning.specs.Value.{poison_if, on_number, select_of}
use Rattle.ir_meaning.specs.Rows.{bin_of, cast_of, abs_of}
use Rattle.ir_meaning.specs.Compare.{cmp_of}
use Rattle.wrap_rows.specs.declared.vars.ValueVars.{ValueVars}
use Rattle.wrap_rows.specs.declared.sum.SumKind.{SumKind}
use Rattle.wrap_rows.specs.declared.sum.SumKind.TheVariants.{Plus, Minus}
use Rattle.wrap_rows.specs.declared.scaled.Scale.{Scale}
use Rattle.wrap_rows.specs.declared.scaled.Scale.TheVariants.{Before, Behind, Shift}
use Rattle.wrap_rows.specs.declared.shift_out.ShiftKind.{ShiftKind}
use Rattle.wrap_rows.specs.declared.shift_out.ShiftKind.TheVariants.{Left, Right, SignedRight}
use Rattle.bit_rows.specs.declared.bitwise.BitKind.{BitKind}
use Rattle.bit_rows.specs.declared.bitwise.BitKind.TheVariants.{And, Or, Xor}
use Rattle.bit_rows.specs.declared.bitwise.BitOperand.{BitOperand}
use Rattle.div_rows.specs.declared.division.DivisionKind.{DivisionKind}
use Rattle.div_rows.specs.declared.division.DivisionKind.TheVariants.{Quotient, Remainder}
use Rattle.div_rows.specs.declared.extreme.ExtremeKind.{ExtremeKind}
use Rattle.div_rows.specs.declared.extreme.ExtremeKind.TheVariants.{Least, Greatest}
use Rattle.wrap_rows.specs.Vars.{IsValue, IsMark, is_marked, value_at}
use Rattle.bit_rows.specs.Bitwise.{IsLiteral}
use Rattle.ir_pieces.specs.declared.piece.IrPiece.{IrPiece}
use Rattle.ir_pieces.specs.declared.piece.IrPiece.TheVariants as kind

-- ---- operands

-- the number of an operand that is a literal, 0 for poison
abbrev pub literal_of : Operand → Option ℕ
literal_of (operand.Name name) = None
literal_of (operand.Const n) = Some n
literal_of operand.Poison = Some 0

-- the number of a literal
abbrev pub constant_of : BitOperand → ℕ
constant_of given = unwrap_or given.literal 0

-- an operand that isn't there
abbrev pub no_operand : BitOperand
no_operand = record { vars = record { number = 0; mark = 0 }; literal = None }

abbrev pub operand_at : List BitOperand → ℕ → BitOperand
operand_at operands at = slice_index_or operands at no_operand

-- ---- the pieces of operations on two operands

abbrev pub sum_piece : SumKind → Flags → ℕ → (a b : BitOperand) → IrPiece
sum_piece of flags width a b = kind.Sum (record { kind = of; flags = flags; width = width; a = a.vars; b = b.vars })

abbrev pub scaled_piece : Scale → Flags → ℕ → (a constant : BitOperand) → IrPiece
scaled_piece scale flags width a constant =
    kind.Scaled (record { scale = scale; flags = flags; width = width; a = a.vars; constant_mark = constant.vars.mark })

-- the factor is the right operand where that is a literal, else the left
abbrev pub product_by : Option ℕ → Flags → ℕ → (a b : BitOperand) → IrPiece
product_by (Some factor) flags width a b = scaled_piece (Behind factor) flags width a b
product_by None flags width a b = scaled_piece (Before (constant_of a)) flags width b a

-- a shift by an amount that isn't below the width is always poison
abbrev pub shifted_out : ShiftKind → Flags → ℕ → (a amount : BitOperand) → IrPiece
shifted_out of flags width a amount =
    kind.ShiftOut (record { kind = of; flags = flags; width = width; amount = constant_of amount; a = a.vars; amount_mark = amount.vars.mark })

abbrev pub left_piece : Flags → ℕ → (a amount : BitOperand) → IrPiece
left_piece flags width a amount =
    if nat_lt (constant_of amount) width then scaled_piece (Shift (constant_of amount)) flags width a amount
    else (shifted_out Left flags width a amount)

abbrev pub right_kind : Bool → ShiftKind
right_kind false = Right
right_kind true = SignedRight

abbrev pub right_piece : (signed : Bool) → Flags → ℕ → (a amount : BitOperand) → IrPiece
right_piece signed flags width a amount =
    if nat_lt (constant_of amount) width then
    kind.ShiftRight (record { signed = signed; flags = flags; width = width; amount = constant_of amount; a = a.vars; amount_mark = amount.vars.mark })
    else (shifted_out (right_kind signed) flags width a amount)

abbrev pub bitwise_piece : BitKind → Flags → ℕ → (a b : BitOperand) → IrPiece
bitwise_piece of flags width a b = kind.Bitwise (record { kind = of; flags = flags; width = width; a = a; b = b })

abbrev pub unsigned_piece : DivisionKind → Flags → ℕ → (a divisor : BitOperand) → IrPiece
unsigned_piece of flags width a divisor =
    kind.UnsignedDivision (record { kind = of; flags = flags; width = width; divisor = constant_of divisor; a = a.vars; divisor_mark = divisor.vars.mark })

abbrev pub signed_piece : DivisionKind → Flags → ℕ → (a divisor : BitOperand) → IrPiece
signed_piece of flags width a divisor =
    kind.SignedDivision (record { kind = of; flags = flags; width = width; divisor = constant_of divisor; a = a.vars; divisor_mark = divisor.vars.mark })

abbrev pub extreme_piece : ExtremeKind → (signed : Bool) → ℕ → (a b : BitOperand) → IrPiece
extreme_piece of signed width a b = kind.Extreme (record { kind = of; signed = signed; width = width; a = a.vars; b = b.vars })

abbrev pub bin_piece : BinKind → Flags → ℕ → (a b : BitOperand) → IrPiece
bin_piece bin.Add flags width a b = sum_piece Plus flags width a b
bin_piece bin.Sub flags width a b = sum_piece Minus flags width a b
bin_piece bin.Mul flags width a b = product_by b.literal flags width a b
bin_piece bin.Shl flags width a b = left_piece flags width a b
bin_piece bin.Lshr flags width a b = right_piece false flags width a b
bin_piece bin.Ashr flags width a b = right_piece true flags width a b
bin_piece bin.And flags width a b = bitwise_piece And flags width a b
bin_piece bin.Or flags width a b = bitwise_piece Or flags width a b
bin_piece bin.Xor flags width a b = bitwise_piece Xor flags width a b
bin_piece bin.Udiv flags width a b = unsigned_piece Quotient flags width a b
bin_piece bin.Sdiv flags width a b = signed_piece Quotient flags width a b
bin_piece bin.Urem flags width a b = unsigned_piece Remainder flags width a b
bin_piece bin.Srem flags width a b = signed_piece Remainder flags width a b
bin_piece bin.Smin flags width a b = extreme_piece Least true width a b
bin_piece bin.Smax flags width a b = extreme_piece Greatest true width a b
bin_piece bin.Umin flags width a b = extreme_piece Least false width a b
bin_piece bin.Umax flags width a b = extreme_piece Greatest false width a b

-- ---- the piece of an operation, none of an assume

abbrev pub cast_piece : CastKind → Flags → (from to : ℕ) → BitOperand → IrPiece
cast_piece cast.Zext flags from to a = kind.Zext (record { flags = flags; from = from; to = to; a = a.vars })
cast_piece cast.Sext flags from to a = kind.Sext (record { from = from; to = to; a = a.vars })
cast_piece cast.Trunc flags from to a = kind.Trunc (record { flags = flags; from = from; to = to; a = a.vars })

abbrev pub select_piece : ℕ → (test first second : BitOperand) → IrPiece
select_piece width test first second =
    kind.Select (record { width = width; cond = test.vars; yes = first.vars; no = second.vars })

abbrev pub piece_of : Op → List BitOperand → Option IrPiece
piece_of (op.Bin of flags width left right) operands = Some (bin_piece of flags width (operand_at operands 0) (operand_at operands 1))
piece_of (op.Cmp pred flags width left right) operands =
    Some (kind.Compare (record { pred = pred; flags = flags; width = width; a = (operand_at operands 0).vars; b = (operand_at operands 1).vars }))
piece_of (op.Cast of flags from arg to) operands = Some (cast_piece of flags from to (operand_at operands 0))
piece_of (op.Select width test first second) operands = Some (select_piece width (operand_at operands 0) (operand_at operands 1) (operand_at operands 2))
piece_of (op.Abs width arg strict) operands = Some (kind.Abs (record { strict = strict; width = width; a = (operand_at operands 0).vars }))
piece_of (op.Assume test) operands = None

-- ---- parameters

-- the piece of a parameter whose argument's number stands at a variable, none without a range
abbrev pub range_piece : Option Range → (width number : ℕ) → Option IrPiece
range_piece None width number = None
range_piece (Some range) width number = Some (kind.Ranged (record { width = width; low = range.lo; high = range.hi; number = number }))

-- the number lies in the range: from `lo` up to `hi` without it or, where `lo` is the greater, from `lo` on or below `hi`
abbrev pub is_between : Range → ℕ → Bool
is_between range n =
    if nat_lt range.hi range.lo then (nat_le range.lo n || nat_lt n range.hi) else (nat_le range.lo n && nat_lt n range.hi)

-- a number, or poison where it isn't in the range
abbrev pub ranged_value : Range → ℕ → Val
ranged_value range n = poison_if (not (is_between range n)) n

-- ---- what it means

-- an operand's value: a literal's is told by its number and by its mark alone
abbrev pub given_value : Option ℕ → ValueVars → List ℤ → Val
given_value None vars point = value_at vars point
given_value (Some literal) vars point = poison_if (is_marked vars point) literal

abbrev pub operand_value : BitOperand → List ℤ → Val
operand_value given point = given_value given.literal given.vars point

abbrev pub value_of : List BitOperand → List ℤ → ℕ → Val
value_of operands point at = operand_value (operand_at operands at) point

-- what an operation computes of its operands' values, nothing for an assume
abbrev pub computed : Op → (ℕ → Val) → Option Val
computed (op.Bin of flags width left right) values = Some (bin_of of flags width (values 0) (values 1))
computed (op.Cmp pred flags width left right) values = Some (cmp_of pred flags width (values 0) (values 1))
computed (op.Cast of flags from arg to) values = Some (cast_of of flags from to (values 0))
computed (op.Select width test first second) values = Some (select_of (values 0) (values 1) (values 2))
computed (op.Abs width arg strict) values = Some (on_number (abs_of strict width) (values 0))
computed (op.Assume test) values = None

-- ---- what is asked of its operands

-- a value of the width, and of a literal its number
pub record IsOperand (width : ℕ) (given : BitOperand) (point : List ℤ) : Type 0 where
  pub value : IsValue width given.vars point
  pub literal : IsLiteral given.literal (number_at point given.vars.number)

-- a constant that has no variable of its own: its mark
pub record IsConstant (given : BitOperand) (point : List ℤ) : Type 0 where
  pub mark : IsMark (number_at point given.vars.mark)

-- its variables stand before
pub record StandsBefore (first : ℕ) (given : BitOperand) : Type 0 where
  pub number : given.vars.number < first
  pub mark : given.vars.mark < first

-- the operands of a product at a point: of the factor the mark alone
abbrev pub AreFactors : Option ℕ → ℕ → (a b : BitOperand) → List ℤ → Type 0
AreFactors (Some factor) width a b point = IsOperand width a point × IsConstant b point
AreFactors None width a b point = IsConstant a point × IsOperand width b point

abbrev pub AreBoth : ℕ → (a b : BitOperand) → List ℤ → Type 0
AreBoth width a b point = IsOperand width a point × IsOperand width b point

-- the operands of a shift or a division: of the amount or the divisor the mark alone
abbrev pub AreWithConstant : ℕ → (a b : BitOperand) → List ℤ → Type 0
AreWithConstant width a b point = IsOperand width a point × IsConstant b point

abbrev pub AreOfBin : BinKind → ℕ → (a b : BitOperand) → List ℤ → Type 0
AreOfBin bin.Mul width a b point = AreFactors b.literal width a b point
AreOfBin bin.Shl width a b point = AreWithConstant width a b point
AreOfBin bin.Lshr width a b point = AreWithConstant width a b point
AreOfBin bin.Ashr width a b point = AreWithConstant width a b point
AreOfBin bin.Udiv width a b point = AreWithConstant width a b point
AreOfBin bin.Sdiv width a b point = AreWithConstant width a b point
AreOfBin bin.Urem width a b point = AreWithConstant width a b point
AreOfBin bin.Srem width a b point = AreWithConstant width a b point
AreOfBin of width a b point = AreBoth width a b point

-- variables 0 and 1 are the numbers 0 and 1, and each operand is a value of its width
pub record AreNumbers (point : List ℤ) : Type 0 where
  pub zero_is : number_at point 0 ≡ pos 0
  pub one_is : number_at point 1 ≡ pos 1

abbrev pub AreOperands : Op → List BitOperand → List ℤ → Type 0
AreOperands (op.Bin of flags width left right) operands point = AreOfBin of width (operand_at operands 0) (operand_at operands 1) point
AreOperands (op.Cmp pred flags width left right) operands point = AreBoth width (operand_at operands 0) (operand_at operands 1) point
AreOperands (op.Cast of flags from arg to) operands point = IsOperand from (operand_at operands 0) point
AreOperands (op.Select width test first second) operands point =
    IsOperand 1 (operand_at operands 0) point × IsOperand width (operand_at operands 1) point × IsOperand width (operand_at operands 2) point
AreOperands (op.Abs width arg strict) operands point = IsOperand width (operand_at operands 0) point
AreOperands (op.Assume test) operands point = Unit {0}

-- the literals are those that are written
abbrev pub AreGiven : Op → List BitOperand → Type 0
AreGiven (op.Bin of flags width left right) operands =
    ((operand_at operands 0).literal ≡ literal_of left) × ((operand_at operands 1).literal ≡ literal_of right)
AreGiven what operands = Unit {0}

-- the variables 0 and 1 and those of the first three operands stand before
pub record AllBefore (first : ℕ) (operands : List BitOperand) : Type 0 where
  pub constants : 1 < first
  pub one : StandsBefore first (operand_at operands 0)
  pub two : StandsBefore first (operand_at operands 1)
  pub three : StandsBefore first (operand_at operands 2)

-- what the verifier asks of an operation
pub record IsSoundOp (what : Op) : Type 0 where
  pub formed : IsFormedOp what
  pub linear : is_linear what ≡ true
  pub divides : has_divisor what ≡ true
  pub converts : op_differs what ≡ false
