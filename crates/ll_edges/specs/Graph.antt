-- The edges of a function by the places of its blocks.
use Rattle.std.specs.Prelude.{◌≡◌, ℕ, zero, suc, ◌+◌, List, [], ◌∷◌, ◌++◌, Option, Some, None, Contains}
use Rattle.ll_tree.specs.declared.block.Block.{Block}
use Rattle.ll_rules.specs.Items.{Part, Use, Goal, end_parts, targets_of}
use Rattle.name_table.specs.Names.{place_of}
use Rattle.flow_graph.specs.declared.edge.Edge.{Edge}

abbrev pub to_place : ℕ → Option ℕ → List Edge
to_place from None = []
to_place from (Some place) = (record { from = from; to = place }) ∷ []

-- to the block with this label
abbrev pub edge_to : List (List ℕ) → ℕ → List ℕ → List Edge
edge_to labels from label = to_place from (place_of label labels)

abbrev pub edge_of : List (List ℕ) → ℕ → Part → List Edge
edge_of labels from (Use operand width) = []
edge_of labels from (Goal label) = edge_to labels from label

abbrev pub edges_from : List (List ℕ) → ℕ → List Part → List Edge
edges_from labels from [] = []
edges_from labels from (part ∷ parts) = edge_of labels from part ++ edges_from labels from parts

-- an edge for each target of each block, of which so many stand before them
abbrev pub edges_in : List (List ℕ) → ℕ → List Block → List Edge
edges_in labels before [] = []
edges_in labels before (block ∷ blocks) = edges_from labels before (end_parts block.end) ++ edges_in labels (before + 1) blocks

-- the block at a place
abbrev pub IsBlockAt : List Block → ℕ → Block → Type 0
IsBlockAt [] place block = ⊥
IsBlockAt (first ∷ blocks) zero block = first ≡ block
IsBlockAt (first ∷ blocks) (suc place) block = IsBlockAt blocks place block

-- the block at one place has a target that is the label at another
abbrev pub LeadsTo : List (List ℕ) → List Block → ℕ → ℕ → Type 0
LeadsTo labels blocks from to = (block : Block) × IsBlockAt blocks from block × ((target : List ℕ) × Contains (targets_of block.end) target × (place_of target labels ≡ Some to))
