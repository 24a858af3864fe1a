-- The canonical text of a function.
use Rattle.std.specs.Prelude.{ℕ, List, [], ◌∷◌, ◌++◌, codes, Option, Some, None, Bool, true, false, ◌==◌, if◌then◌else◌}
use Rattle.std.specs.List.{flat_map}
use Rattle.ll_tree.specs.Words.{is_called, bin_word, cast_word, pred_word}
use Rattle.ll_tree.specs.Pieces.{Piece, Word, Bits, Number, Local, Global, Label, Intrinsic, Mark, Blank, LineEnd, written, separated}
use Rattle.ll_tree.specs.declared.func.Func.{Func}
use Rattle.ll_tree.specs.declared.func.Param.{Param}
use Rattle.ll_tree.specs.declared.func.Range.{Range}
use Rattle.ll_tree.specs.declared.func.Ret.{Ret}
use Rattle.ll_tree.specs.declared.func.Ret.TheVariants.{Void, Int}
use Rattle.ll_tree.specs.declared.block.Block.{Block}
use Rattle.ll_tree.specs.declared.block.Phi.{Phi}
use Rattle.ll_tree.specs.declared.block.PhiEntry.{PhiEntry}
use Rattle.ll_tree.specs.declared.block.Instr.{Instr}
use Rattle.ll_tree.specs.declared.block.Case.{Case}
use Rattle.ll_tree.specs.declared.block.Operand.{Operand}
use Rattle.ll_tree.specs.declared.block.Operand.TheVariants as operand
use Rattle.ll_tree.specs.declared.block.End.{End}
use Rattle.ll_tree.specs.declared.block.End.TheVariants as end
use Rattle.ll_tree.specs.declared.op.BinKind.{BinKind}
use Rattle.ll_tree.specs.declared.op.Flags.{Flags}
use Rattle.ll_tree.specs.declared.op.Op.{Op}
use Rattle.ll_tree.specs.declared.op.Op.TheVariants.{Bin, Cmp, Cast, Select, Abs, Assume}

-- ---- operands

-- a number of so many bits: decimal, but for i1 `true` and `false`
abbrev pub literal : ℕ → ℕ → Piece
literal width number = if width == 1 then (if number == 0 then Word (codes "false") else Word (codes "true")) else Number number

abbrev pub operand_piece : ℕ → Operand → Piece
operand_piece width (operand.Name name) = Local name
operand_piece width (operand.Const number) = literal width number
operand_piece width operand.Poison = Word (codes "poison")

-- a type and an operand of it
abbrev pub typed : ℕ → Operand → List Piece
typed width value = Bits width ∷ Blank ∷ operand_piece width value ∷ []

abbrev pub pair : ℕ → Operand → Operand → List Piece
pair width left right = Bits width ∷ Blank ∷ operand_piece width left ∷ Mark 44 ∷ Blank ∷ operand_piece width right ∷ []

-- ---- flags, each with a blank behind it

abbrev pub flag : Bool → List ℕ → List Piece
flag false word = []
flag true word = Word word ∷ Blank ∷ []

unfoldable pub flag_pieces : Flags → List Piece
flag_pieces flags =
    flag flags.nuw (codes "nuw")
    ++ (flag flags.nsw (codes "nsw")
    ++ (flag flags.exact (codes "exact")
    ++ (flag flags.nneg (codes "nneg")
    ++ (flag flags.samesign (codes "samesign")
    ++ flag flags.disjoint (codes "disjoint")))))

-- ---- instructions

abbrev pub bin_pieces : Bool → BinKind → Flags → ℕ → Operand → Operand → List Piece
bin_pieces false kind flags width left right = Word (bin_word kind) ∷ Blank ∷ (flag_pieces flags ++ pair width left right)
bin_pieces true kind flags width left right =
    Word (codes "call") ∷ Blank ∷ Bits width ∷ Blank ∷ Intrinsic (bin_word kind) width
    ∷ Mark 40 ∷ Bits width ∷ Blank ∷ operand_piece width left ∷ Mark 44 ∷ Blank ∷ Bits width ∷ Blank ∷ operand_piece width right ∷ Mark 41 ∷ []

abbrev pub truth : Bool → Piece
truth false = Word (codes "false")
truth true = Word (codes "true")

abbrev pub abs_pieces : ℕ → Operand → Bool → List Piece
abs_pieces width arg strict =
    Word (codes "call") ∷ Blank ∷ Bits width ∷ Blank ∷ Intrinsic (codes "abs") width
    ∷ Mark 40 ∷ Bits width ∷ Blank ∷ operand_piece width arg ∷ Mark 44 ∷ Blank ∷ Bits 1 ∷ Blank ∷ truth strict ∷ Mark 41 ∷ []

abbrev pub assume_start : List Piece
assume_start = Word (codes "call") ∷ Blank ∷ Word (codes "void") ∷ Blank ∷ Global (codes "llvm.assume") ∷ Mark 40 ∷ []

abbrev pub assume_pieces : Operand → List Piece
assume_pieces cond = assume_start ++ Bits 1 ∷ Blank ∷ operand_piece 1 cond ∷ Mark 41 ∷ []

-- an operation, behind the name of its result and `=` where it has one
unfoldable pub op_pieces : Op → List Piece
op_pieces (Bin kind flags width left right) = bin_pieces (is_called kind) kind flags width left right
op_pieces (Cmp pred flags width left right) =
    Word (codes "icmp") ∷ Blank ∷ (flag_pieces flags ++ Word (pred_word pred) ∷ Blank ∷ pair width left right)
op_pieces (Cast kind flags from arg to) =
    Word (cast_word kind) ∷ Blank ∷ (flag_pieces flags
    ++ Bits from ∷ Blank ∷ operand_piece from arg ∷ Blank ∷ Word (codes "to") ∷ Blank ∷ Bits to ∷ [])
op_pieces (Select width cond first second) =
    Word (codes "select") ∷ Blank ∷ Bits 1 ∷ Blank ∷ operand_piece 1 cond
    ∷ Mark 44 ∷ Blank ∷ Bits width ∷ Blank ∷ operand_piece width first
    ∷ Mark 44 ∷ Blank ∷ Bits width ∷ Blank ∷ operand_piece width second ∷ []
op_pieces (Abs width arg strict) = abs_pieces width arg strict
op_pieces (Assume cond) = assume_pieces cond

-- the name of a result and `=`
abbrev pub result_pieces : List ℕ → List Piece
result_pieces name = Local name ∷ Blank ∷ Mark 61 ∷ Blank ∷ []

abbrev pub has_result : Op → Bool
has_result (Bin kind flags width left right) = true
has_result (Cmp pred flags width left right) = true
has_result (Cast kind flags from arg to) = true
has_result (Select width cond first second) = true
has_result (Abs width arg strict) = true
has_result (Assume cond) = false

abbrev pub instr_pieces : Instr → List Piece
instr_pieces instr = (if has_result instr.op then result_pieces instr.name else []) ++ op_pieces instr.op

-- ---- phis

abbrev pub entry_pieces : ℕ → PhiEntry → List Piece
entry_pieces width entry = Mark 91 ∷ Blank ∷ operand_piece width entry.value ∷ Mark 44 ∷ Blank ∷ Local entry.from ∷ Blank ∷ Mark 93 ∷ []

abbrev pub phi_pieces : Phi → List Piece
phi_pieces phi =
    Local phi.name ∷ Blank ∷ Mark 61 ∷ Blank ∷ Word (codes "phi") ∷ Blank ∷ Bits phi.width ∷ Blank ∷ separated (entry_pieces phi.width) phi.entries

-- ---- terminators

-- a label behind its word
abbrev pub target : List ℕ → List Piece
target to = Word (codes "label") ∷ Blank ∷ Local to ∷ []

-- a case with a blank behind it
abbrev pub case_pieces : Case → List Piece
case_pieces case = Bits case.width ∷ Blank ∷ literal case.width case.value ∷ Mark 44 ∷ Blank ∷ (target case.to ++ Blank ∷ [])

abbrev pub cond_br_pieces : Operand → List ℕ → List ℕ → List Piece
cond_br_pieces cond on_one on_zero =
    Word (codes "br") ∷ Blank ∷ Bits 1 ∷ Blank ∷ operand_piece 1 cond
    ∷ Mark 44 ∷ Blank ∷ (target on_one ++ Mark 44 ∷ Blank ∷ target on_zero)

abbrev pub switch_pieces : ℕ → Operand → List ℕ → List Case → List Piece
switch_pieces width value default cases =
    Word (codes "switch") ∷ Blank ∷ Bits width ∷ Blank ∷ operand_piece width value
    ∷ Mark 44 ∷ Blank ∷ (target default ++ Blank ∷ Mark 91 ∷ Blank ∷ (flat_map case_pieces cases ++ Mark 93 ∷ []))

unfoldable pub end_pieces : End → List Piece
end_pieces end.RetVoid = Word (codes "ret") ∷ Blank ∷ Word (codes "void") ∷ []
end_pieces (end.Ret width value) = Word (codes "ret") ∷ Blank ∷ typed width value
end_pieces (end.Br to) = Word (codes "br") ∷ Blank ∷ target to
end_pieces (end.CondBr cond on_one on_zero) = cond_br_pieces cond on_one on_zero
end_pieces (end.Switch width value default cases) = switch_pieces width value default cases
end_pieces end.Unreachable = Word (codes "unreachable") ∷ []

-- ---- blocks

-- a line behind two blanks
abbrev pub line : List Piece → List Piece
line pieces = Blank ∷ Blank ∷ (pieces ++ LineEnd ∷ [])

unfoldable pub block_pieces : Block → List Piece
block_pieces block =
    Label block.label ∷ LineEnd
    ∷ (flat_map (λ phi. line (phi_pieces phi)) block.phis
    ++ (flat_map (λ instr. line (instr_pieces instr)) block.body
    ++ line (end_pieces block.end)))

-- ---- the header

-- a range of a type, with a blank behind it
abbrev pub range_pieces : Piece → ℕ → Option Range → List Piece
range_pieces kind width None = []
range_pieces kind width (Some range) =
    Word (codes "range") ∷ Mark 40 ∷ kind ∷ Blank ∷ literal width range.lo ∷ Mark 44 ∷ Blank ∷ literal width range.hi ∷ Mark 41 ∷ Blank ∷ []

abbrev pub ret_piece : Ret → Piece
ret_piece Void = Word (codes "void")
ret_piece (Int width) = Bits width

-- the width of a result, 0 for `void`
abbrev pub ret_width : Ret → ℕ
ret_width Void = 0
ret_width (Int width) = width

unfoldable pub param_pieces : Param → List Piece
param_pieces param =
    Bits param.width ∷ Blank ∷ (flag param.strict (codes "noundef")
    ++ (range_pieces (Bits param.width) param.width param.range
    ++ Local param.name ∷ []))

-- up to the type of the result
unfoldable pub ret_pieces : Func → List Piece
ret_pieces func =
    Word (codes "define") ∷ Blank ∷ (flag func.ret_noundef (codes "noundef")
    ++ (range_pieces (ret_piece func.ret) (ret_width func.ret) func.ret_range
    ++ ret_piece func.ret ∷ []))

-- the name and the parameters
unfoldable pub signature_pieces : Func → List Piece
signature_pieces func =
    Blank ∷ Global func.name ∷ Mark 40 ∷ (separated param_pieces func.params ++ Mark 41 ∷ Blank ∷ Mark 123 ∷ LineEnd ∷ [])

unfoldable pub header_pieces : Func → List Piece
header_pieces func = ret_pieces func ++ signature_pieces func

-- ---- the whole

abbrev pub pieces_of : Func → List Piece
pieces_of func = header_pieces func ++ (flat_map block_pieces func.blocks ++ Mark 125 ∷ LineEnd ∷ [])

-- The canonical text: what `print` gives.
abbrev pub canonical : Func → List ℕ
canonical func = written (pieces_of func)
