-- Widths that don't agree.
use Rattle.std.specs.Prelude.{ℕ, List, [], ◌∷◌, Option, Some, None, Bool, true, false, ◌||◌, ◌==◌, not, nat_le, if◌then◌else◌}
use Rattle.std.specs.List.{list_any}
use Rattle.std.specs.Str.{bytes_eq}
use Rattle.ll_tree.specs.declared.func.Ret.{Ret}
use Rattle.ll_tree.specs.declared.func.Ret.TheVariants.{Void, Int}
use Rattle.ll_tree.specs.declared.block.Case.{Case}
use Rattle.ll_tree.specs.declared.block.Operand.{Operand}
use Rattle.ll_tree.specs.declared.block.Operand.TheVariants as operand
use Rattle.ll_tree.specs.declared.block.End.{End}
use Rattle.ll_tree.specs.declared.block.End.TheVariants as end
use Rattle.ll_tree.specs.declared.op.CastKind.{CastKind}
use Rattle.ll_tree.specs.declared.op.CastKind.TheVariants.{Zext, Sext, Trunc}
use Rattle.ll_tree.specs.declared.op.Op.{Op}
use Rattle.ll_tree.specs.declared.op.Op.TheVariants.{Bin, Cmp, Cast, Select, Abs, Assume}
use Rattle.ll_rules.specs.Items.{Item, OfPhi, OfInstr, OfEnd, Part, Use, Goal, parts_of}

-- the width of the value with this name
abbrev pub width_of : List ℕ → List (List ℕ × ℕ) → Option ℕ
width_of name [] = None
width_of name (value ∷ values) = if bytes_eq name value.0 then Some value.1 else width_of name values

abbrev pub width_differs : Option ℕ → ℕ → Bool
width_differs None width = false
width_differs (Some other) width = not (other == width)

-- a value of another width than is written; a constant has the one that is written
abbrev pub operand_differs : List (List ℕ × ℕ) → Operand → ℕ → Bool
operand_differs values (operand.Name name) width = width_differs (width_of name values) width
operand_differs values (operand.Const number) width = false
operand_differs values operand.Poison width = false

abbrev pub part_differs : List (List ℕ × ℕ) → Part → Bool
part_differs values (Use operand width) = operand_differs values operand width
part_differs values (Goal label) = false

-- a `zext` or `sext` to a type that isn't wider, a `trunc` to one that isn't narrower
abbrev pub cast_differs : CastKind → ℕ → ℕ → Bool
cast_differs Zext from to = nat_le to from
cast_differs Sext from to = nat_le to from
cast_differs Trunc from to = nat_le from to

abbrev pub op_differs : Op → Bool
op_differs (Bin kind flags width left right) = false
op_differs (Cmp pred flags width left right) = false
op_differs (Cast kind flags from arg to) = cast_differs kind from to
op_differs (Select width cond first second) = false
op_differs (Abs width arg strict) = false
op_differs (Assume cond) = false

abbrev pub is_int : Ret → Bool
is_int Void = false
is_int (Int width) = true

-- a returned value of another type than the function's
abbrev pub ret_differs : Ret → ℕ → Bool
ret_differs Void width = true
ret_differs (Int wanted) width = not (wanted == width)

abbrev pub case_differs : ℕ → Case → Bool
case_differs width case = not (case.width == width)

abbrev pub end_differs : Ret → End → Bool
end_differs ret end.RetVoid = is_int ret
end_differs ret (end.Ret width value) = ret_differs ret width
end_differs ret (end.Br to) = false
end_differs ret (end.CondBr cond on_one on_zero) = false
end_differs ret (end.Switch width value default cases) = list_any (case_differs width) cases
end_differs ret end.Unreachable = false

abbrev pub item_differs : Ret → Item → Bool
item_differs ret (OfPhi phi) = false
item_differs ret (OfInstr instr) = op_differs instr.op
item_differs ret (OfEnd end) = end_differs ret end

-- an operand, a case or a return has another width than is written, or a conversion doesn't convert
abbrev pub type_differs : List (List ℕ × ℕ) → Ret → Item → Bool
type_differs values ret item = list_any (part_differs values) (parts_of item) || item_differs ret item
