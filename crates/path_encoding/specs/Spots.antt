-- Where blocks, edges, cases and values of a function lie in a system.
use Rattle.std.specs.Prelude.{◌≡◌, ◌≢◌, ◌==◌, ◌&&◌, ◌<◌, ◌≤◌, ◌+◌, ◌++◌, ◌^◌, ℕ, Bool, nat_le, if◌then◌else◌, List, [], length, map, zip, drop, All, AllPairs, Contains, sum_by, slice_index, slice_index_or}
use Rattle.std.specs.Option.{unwrap_or}
use Rattle.std.specs.List.{range_with_len}
use Rattle.std.specs.Map.{lookup}
use Rattle.name_table.specs.Names.{place_of}
use Rattle.ll_tree.specs.declared.func.Func.{Func}
use Rattle.ll_tree.specs.declared.block.Block.{Block}
use Rattle.ll_tree.specs.declared.block.Case.{Case}
use Rattle.ll_tree.specs.declared.block.Operand.{Operand}
use Rattle.ll_tree.specs.declared.block.End.{End}
use Rattle.ll_tree.specs.declared.block.End.TheVariants as end
use Rattle.ll_rules.specs.Items.{labels_of, values_of}
use Rattle.ll_links.specs.declared.link.Source.{Source}
use Rattle.ll_links.specs.declared.link.Source.TheVariants as source
use Rattle.ll_links.specs.declared.link.BlockId.{BlockId}
use Rattle.ll_links.specs.Links.{block_id, source_of}
use Rattle.ll_verifier.specs.declared.order.PositionEdge.{PositionEdge}
use Rattle.ll_verifier.specs.Order.{position_edge}
use Rattle.ll_verifier.specs.Sound.{SoundFunc}
use Rattle.portion_cuts.specs.Paths.{place_at}
use Rattle.wrap_rows.specs.declared.vars.ValueVars.{ValueVars}
use Rattle.path_encoding.specs.declared.spots.ConstSpot.{ConstSpot}
use Rattle.path_encoding.specs.declared.spots.PathSpots.{PathSpots}

-- ---- values

abbrev pub value_vars : (number mark : ℕ) → ValueVars
value_vars number mark = record { number = number; mark = mark }

-- Variables 0 and 1 of a system are the numbers 0 and 1. Each other constant has a variable of its own.
abbrev pub constant_among : List ConstSpot → ℕ → ℕ
constant_among constants n = unwrap_or (lookup (λ value. value == n) (map (λ spot. (spot.value, spot.var)) constants)) 0

abbrev pub constant_var : List ConstSpot → ℕ → ℕ
constant_var constants n = if nat_le n 1 then n else (constant_among constants n)

-- number and mark of what an operand stands for; poison is the number 0 with the mark 1
abbrev pub source_vars : PathSpots → Source → ValueVars
source_vars spots (source.Value id) = slice_index_or spots.values.items id.0 (value_vars 0 0)
source_vars spots (source.Const n) = value_vars (constant_var spots.constants.items n) 0
source_vars spots source.Poison = value_vars 0 1

-- what an operand stands for, which each does whose name is a value's
abbrev pub source_at : Func → Operand → Source
source_at func operand = unwrap_or (source_of (values_of func) operand) source.Poison

abbrev pub operand_vars : SoundFunc → PathSpots → Operand → ValueVars
operand_vars it spots operand = source_vars spots (source_at it.func operand)

-- ---- blocks and edges, by positions in the kept order

abbrev pub no_block : Block
no_block = record { label = []; phis = []; body = []; end = end.Unreachable }

abbrev pub block_at : SoundFunc → ℕ → Block
block_at it at = slice_index_or it.func.blocks (place_at it at) no_block

abbrev pub block_var : PathSpots → ℕ → ℕ
block_var spots at = slice_index spots.blocks.items at

-- each edge with its variable
abbrev pub edge_vars : SoundFunc → PathSpots → List (PositionEdge × ℕ)
edge_vars it spots = zip (map position_edge it.flow.edges) spots.edges.items

-- the place of the block with a label
abbrev pub place_with : Func → List ℕ → ℕ
place_with func label = unwrap_or (place_of label (labels_of func)) 0

-- the edge goes from the block at a position to the block at a place
abbrev pub goes_to : List BlockId → (at place : ℕ) → PositionEdge → Bool
goes_to order at place edge = edge.from.0 == at && (slice_index_or order edge.to.0 (block_id 0)).0 == place

-- the variable of the first such edge
abbrev pub edge_among : List BlockId → List (PositionEdge × ℕ) → (at place : ℕ) → ℕ
edge_among order edges at place = unwrap_or (lookup (goes_to order at place) edges) 0

-- the variable of the edge from the block at a position to the block at a place
abbrev pub edge_to : SoundFunc → PathSpots → (at place : ℕ) → ℕ
edge_to it spots at place = edge_among (map block_id it.flow.order) (edge_vars it spots) at place

-- ---- cases

abbrev pub cases_of : End → List Case
cases_of end.RetVoid = []
cases_of (end.Ret width value) = []
cases_of (end.Br to) = []
cases_of (end.CondBr cond when_set when_clear) = []
cases_of (end.Switch width value default cases) = cases
cases_of end.Unreachable = []

-- how many cases the blocks before a position have
abbrev pub cases_before : SoundFunc → ℕ → ℕ
cases_before it at = sum_by (λ other. length (cases_of (block_at it other).end)) (range_with_len 0 at)

-- each case of the block at a position, with its variable
abbrev pub case_vars : SoundFunc → PathSpots → ℕ → List (Case × ℕ)
case_vars it spots at = zip (cases_of (block_at it at).end) (drop (cases_before it at) spots.cases.items)

-- the block at a position, and its place in the file
pub record IsBlock (it : SoundFunc) (at place : ℕ) (block : Block) : Type 0 where
  pub within : at < length it.flow.order
  pub place_is : place ≡ place_at it at
  pub low : place < length it.func.blocks
  pub stands : slice_index_or it.func.blocks place block ≡ block
  pub few : length block.phis + length block.body < 2 ^ 31

-- ---- all spots

-- A spot for each block by its position, for each edge, for each case by its block and as written, and for each parameter;
-- a value's spot stands by the value's number.
pub record AreSpotsOf (it : SoundFunc) (spots : PathSpots) : Type 0 where
  pub blocks : length spots.blocks.items ≡ length it.flow.order
  pub edges : length spots.edges.items ≡ length it.flow.edges
  pub cases : length spots.cases.items ≡ cases_before it (length it.flow.order)
  pub params : length it.func.params ≤ length spots.values.items

-- There are so many variables, those of the numbers 0 and 1 among them.
pub record Exist (vars : ℕ) (spots : PathSpots) : Type 0 where
  pub numbers : 2 ≤ vars
  pub blocks : All (λ var. var < vars) spots.blocks.items
  pub edges : All (λ var. var < vars) spots.edges.items
  pub cases : All (λ var. var < vars) spots.cases.items
  pub values : All (λ value. (value.number < vars) × (value.mark < vars)) spots.values.items
  pub constants : All (λ spot. spot.var < vars) spots.constants.items

-- No two of the blocks, edges and cases have one variable, and a case's is none of a number, a value or a constant.
pub record AreApart (spots : PathSpots) : Type 0 where
  pub paths : AllPairs (λ var other. var ≢ other) (spots.blocks.items ++ (spots.edges.items ++ spots.cases.items))
  pub numbers : All (λ var. 2 ≤ var) spots.cases.items
  pub values : All (λ value. ¬ Contains spots.cases.items value.number) spots.values.items
  pub constants : All (λ spot. ¬ Contains spots.cases.items spot.var) spots.constants.items
