-- Paths of a graph.
use Rattle.std.specs.Prelude.{◌≡◌, ◌≢◌, ◌↔◌, ◌<◌, ◌≤◌, ℕ, Bool, false, IsTrue, List, [], ◌∷◌, length, All, AllPairs, Contains, slice_index_or}
use Rattle.flow_graph.specs.declared.edge.Edge.{Edge}

-- Edges between so many blocks, each to a later one, in the order of the blocks that they leave.
pub record IsForward (blocks : ℕ) (edges : List Edge) : Type 0 where
  pub later : All (λ edge. edge.from < edge.to) edges
  pub within : All (λ edge. edge.to < blocks) edges
  pub sorted : AllPairs (λ edge next. edge.from ≤ next.from) edges

abbrev pub HasEdge : List Edge → ℕ → ℕ → Type 0
HasEdge edges from to = Contains edges (record { from = from; to = to })

-- The path that begins with `from` and goes on with `rest` ends at `to`: each of its blocks has an edge to
-- the next, and `without` stands nowhere before its last.
abbrev pub Leads : List Edge → ℕ → ℕ → List ℕ → ℕ → Type 0
Leads edges without from [] to = from ≡ to
Leads edges without from (next ∷ rest) to = (from ≢ without) × HasEdge edges from next × Leads edges without next rest to

-- the list is such a path from one block to another
abbrev pub IsPath : List Edge → ℕ → ℕ → List ℕ → ℕ → Type 0
IsPath edges without from [] to = ⊥
IsPath edges without from (first ∷ rest) to = (first ≡ from) × Leads edges without first rest to

-- some such path goes to the block
abbrev pub IsReached : List Edge → ℕ → ℕ → ℕ → Type 0
IsReached edges entry without block = (rest : List ℕ) × Leads edges without entry rest block

-- a mark for each block, true exactly where it is reached
abbrev pub AreMarks : List Edge → ℕ → ℕ → List Bool → Type 0
AreMarks edges entry without marks = (block : ℕ) → block < length marks → IsTrue (slice_index_or marks block false) ↔ IsReached edges entry without block
