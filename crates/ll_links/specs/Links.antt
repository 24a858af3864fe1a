-- Numbers in place of names.
use Rattle.std.specs.Prelude.{◌≡◌, ◌==◌, ℕ, List, [], ◌∷◌, map, zip, Option, Some, None}
use Rattle.std.specs.Option.{option_map, option_and_then}
use Rattle.std.specs.Map.{lookup}
use Rattle.std.specs.Str.{bytes_eq}
use Rattle.std.specs.List.{filter_map}
use Rattle.ll_tree.specs.declared.block.Operand.{Operand}
use Rattle.ll_tree.specs.declared.block.Operand.TheVariants as operand
use Rattle.ll_tree.specs.declared.block.Phi.{Phi}
use Rattle.ll_tree.specs.declared.block.End.{End}
use Rattle.ll_tree.specs.declared.block.End.TheVariants as end
use Rattle.ll_tree.specs.declared.op.Op.{Op}
use Rattle.ll_tree.specs.declared.op.Op.TheVariants.{Bin, Cmp, Cast, Select, Abs, Assume}
use Rattle.ll_rules.specs.Items.{Item, OfPhi, OfInstr, OfEnd, Part, Use, Goal, parts_of, targets_of, result_width}
use Rattle.name_table.specs.Names.{place_of}
use Rattle.ll_links.specs.declared.link.ValueId.{ValueId}
use Rattle.ll_links.specs.declared.link.BlockId.{BlockId}
use Rattle.ll_links.specs.declared.link.Source.{Source}
use Rattle.ll_links.specs.declared.link.Source.TheVariants as source
use Rattle.ll_links.specs.declared.link.Links.{Links}

abbrev pub value_id : ℕ → ValueId
value_id number = record { 0 = number }

abbrev pub block_id : ℕ → BlockId
block_id place = record { 0 = place }

-- a value's number is the place of its name among the values
abbrev pub number_of : List (List ℕ × ℕ) → List ℕ → Option ValueId
number_of values name = option_map value_id (place_of name (map (λ value. value.0) values))

abbrev pub value_source : Option ValueId → Option Source
value_source None = None
value_source (Some number) = Some (source.Value number)

-- what an operand stands for, where its name is a value's
abbrev pub source_of : List (List ℕ × ℕ) → Operand → Option Source
source_of values (operand.Name name) = value_source (number_of values name)
source_of values (operand.Const number) = Some (source.Const number)
source_of values operand.Poison = Some source.Poison

-- a block's number is the place of its label among the labels
abbrev pub block_of : List (List ℕ) → List ℕ → Option BlockId
block_of labels label = option_map block_id (place_of label labels)

abbrev pub op_operands : Op → List Operand
op_operands (Bin kind flags width left right) = left ∷ right ∷ []
op_operands (Cmp pred flags width left right) = left ∷ right ∷ []
op_operands (Cast kind flags from arg to) = arg ∷ []
op_operands (Select width cond first second) = cond ∷ first ∷ second ∷ []
op_operands (Abs width arg strict) = arg ∷ []
op_operands (Assume cond) = cond ∷ []

abbrev pub end_operands : End → List Operand
end_operands end.RetVoid = []
end_operands (end.Ret width value) = value ∷ []
end_operands (end.Br to) = []
end_operands (end.CondBr cond on_one on_zero) = cond ∷ []
end_operands (end.Switch width value default cases) = value ∷ []
end_operands end.Unreachable = []

-- the operands of an item, in written order
abbrev pub operands_of : Item → List Operand
operands_of (OfPhi phi) = map (λ entry. entry.value) phi.entries
operands_of (OfInstr instr) = op_operands instr.op
operands_of (OfEnd end) = end_operands end

-- the labels that an item names, in written order
abbrev pub goals_of : Item → List (List ℕ)
goals_of (OfPhi phi) = map (λ entry. entry.from) phi.entries
goals_of (OfInstr instr) = []
goals_of (OfEnd end) = targets_of end

abbrev pub named_result : List (List ℕ × ℕ) → List ℕ → Option ℕ → Option ValueId
named_result values name None = None
named_result values name (Some width) = number_of values name

-- the value that an item gives
abbrev pub result_of : List (List ℕ × ℕ) → Item → Option ValueId
result_of values (OfPhi phi) = number_of values phi.name
result_of values (OfInstr instr) = named_result values instr.name (result_width instr.op)
result_of values (OfEnd end) = None

-- What an item names and gives has these numbers.
pub record AreLinks (values : List (List ℕ × ℕ)) (labels : List (List ℕ)) (what : Item) (links : Links) : Type 0 where
  pub sources : map Some links.sources.now ≡ map (source_of values) (operands_of what)
  pub blocks : map Some links.blocks.now ≡ map (block_of labels) (goals_of what)
  pub result : links.result ≡ result_of values what

-- the operand of a phi for the block with a label: that of the first entry that names it
abbrev pub operand_for : List ℕ → Phi → Option Operand
operand_for label phi = lookup (bytes_eq label) (map (λ entry. (entry.from, entry.value)) phi.entries)

-- what it stands for
abbrev pub source_for : List (List ℕ × ℕ) → List ℕ → Phi → Option Source
source_for values label phi = option_and_then (source_of values) (operand_for label phi)

abbrev pub IsPhi : Item → Type 0
IsPhi (OfPhi phi) = Unit {0}
IsPhi (OfInstr instr) = ⊥
IsPhi (OfEnd end) = ⊥

-- what the operand of an item stands for that comes from the block with a label, none where it is no phi
abbrev pub source_coming : List (List ℕ × ℕ) → List ℕ → Item → Option Source
source_coming values label (OfPhi phi) = source_for values label phi
source_coming values label (OfInstr instr) = None
source_coming values label (OfEnd end) = None

-- the source beside the first place at which a block stands
abbrev pub source_beside : ℕ → List BlockId → List Source → Option Source
source_beside from blocks sources = lookup (λ block. block.0 == from) (zip blocks sources)

-- what holds of an item as a whole, of its parts

abbrev pub source_in : List (List ℕ × ℕ) → Part → Option Source
source_in values (Use operand width) = source_of values operand
source_in values (Goal label) = None

abbrev pub block_in : List (List ℕ) → Part → Option BlockId
block_in labels (Use operand width) = None
block_in labels (Goal label) = block_of labels label

-- the numbers of those that have one

abbrev pub known_sources : List (List ℕ × ℕ) → Item → List Source
known_sources values what = filter_map (source_in values) (parts_of what)

abbrev pub known_blocks : List (List ℕ) → Item → List BlockId
known_blocks labels what = filter_map (block_in labels) (parts_of what)
