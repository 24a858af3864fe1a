-- Paths of a function, as lists of labels.
use Rattle.std.specs.Prelude.{◌≡◌, ◌↔◌, ◌<◌, ◌≤◌, ℕ, List, [], ◌∷◌, length, map, All, Contains, slice_index_or}
use Rattle.ll_tree.specs.declared.func.Func.{Func}
use Rattle.ll_tree.specs.declared.block.Block.{Block}
use Rattle.ll_rules.specs.Items.{labels_of, targets_of}
use Rattle.flow_graph.specs.Paths.{HasEdge}
use Rattle.flow_rules.specs.Flow.{Flow, IsFlow}
use Rattle.ll_edges.specs.Graph.{LeadsTo}

-- the label of the block at a place
abbrev pub label_of : Func → ℕ → List ℕ
label_of func place = slice_index_or (labels_of func) place []

-- a block with one label has the other as a target
abbrev pub GoesTo : Func → List ℕ → List ℕ → Type 0
GoesTo func from to = (block : Block) × Contains func.blocks block × (block.label ≡ from) × Contains (targets_of block.end) to

-- The path that begins with `from` and goes on with `rest` ends at `to`: each of its blocks goes to the next.
abbrev pub GoesOn : Func → List ℕ → List (List ℕ) → List ℕ → Type 0
GoesOn func from [] to = from ≡ to
GoesOn func from (next ∷ rest) to = GoesTo func from next × GoesOn func next rest to

-- The list is a path from the entry, the first block of the function, to a block.
abbrev pub IsPathTo : Func → List (List ℕ) → List ℕ → Type 0
IsPathTo func [] label = ⊥
IsPathTo func (first ∷ rest) label = (first ≡ label_of func 0) × GoesOn func first rest label

-- Some path goes from the entry to the block.
abbrev pub IsReached : Func → List ℕ → Type 0
IsReached func label = (path : List (List ℕ)) × IsPathTo func path label

abbrev pub AllReached : Func → Type 0
AllReached func = (place : ℕ) → place < length func.blocks → IsReached func (label_of func place)

-- The label of the first block in the file that no path reaches.
pub record IsFirstUnreached (func : Func) (label : List ℕ) : Type 0 where
  pub place : ℕ
  pub within : place < length func.blocks
  pub there : label ≡ label_of func place
  pub unreached : ¬ IsReached func label
  pub first : (other : ℕ) → other < place → IsReached func (label_of func other)

-- blocks that go from one over others to a last
abbrev pub Runs : Func → List ℕ → List (List ℕ) → List ℕ → Type 0
Runs func from [] to = GoesTo func from to
Runs func from (next ∷ others) to = GoesTo func from next × Runs func next others to

-- each block goes to the next and the last to the first
abbrev pub IsClosed : Func → List (List ℕ) → Type 0
IsClosed func [] = ⊥
IsClosed func (first ∷ others) = Runs func first others first

abbrev pub HasNoLoop : Func → Type 0
HasNoLoop func = (cycle : List (List ℕ)) → ¬ IsClosed func cycle

-- The blocks stand at these places, of which none is before the first.
pub record HasLeastFirst (func : Func) (cycle : List (List ℕ)) : Type 0 where
  pub first : ℕ
  pub others : List ℕ
  pub there : cycle ≡ map (label_of func) (first ∷ others)
  pub within : All (λ place. place < length func.blocks) (first ∷ others)
  pub least : All (λ place. first ≤ place) others

pub record IsCycle (func : Func) (cycle : List (List ℕ)) : Type 0 where
  pub closed : IsClosed func cycle
  pub least : HasLeastFirst func cycle

-- The flow of a function: its edges are those from each block to its targets, by the places of the blocks.
pub record IsFlowOf (func : Func) (it : Flow) : Type 0 where
  pub flow : IsFlow (length func.blocks) it
  pub entry : 0 < length func.blocks
  pub edges : (from to : ℕ) → HasEdge it.graph from to ↔ LeadsTo (labels_of func) func.blocks from to
