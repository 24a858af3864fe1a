-- Marks of taken and of blocked blocks.
use Rattle.std.specs.Prelude.{◌≡◌, ◌<◌, ◌↔◌, ℕ, Bool, true, false, IsTrue, List, length, slice_index_or}
use Rattle.flow_graph.specs.declared.edge.Edge.{Edge}
use Rattle.flow_graph.specs.Paths.{HasEdge}

-- a block that isn't taken, and whose predecessors all are
abbrev pub IsFree : List Edge → List Bool → ℕ → Type 0
IsFree edges taken block = (slice_index_or taken block false ≡ false) × ((from : ℕ) → HasEdge edges from block → slice_index_or taken from false ≡ true)

pub record IsFirstFree (edges : List Edge) (taken : List Bool) (block : ℕ) : Type 0 where
  pub within : block < length taken
  pub free : IsFree edges taken block
  pub least : (other : ℕ) → other < block → IsFree edges taken other → ⊥

-- each block that isn't taken has such a predecessor
abbrev pub IsStuck : List Edge → List Bool → Type 0
IsStuck edges taken = (block : ℕ) → block < length taken → slice_index_or taken block false ≡ false
    → (from : ℕ) × HasEdge edges from block × (slice_index_or taken from false ≡ false)

-- marked are the blocks that have a predecessor which isn't taken
abbrev pub AreBlocked : List Edge → List Bool → List Bool → Type 0
AreBlocked edges taken blocked = (block : ℕ) → block < length blocked
    → IsTrue (slice_index_or blocked block false) ↔ ((from : ℕ) × HasEdge edges from block × (slice_index_or taken from false ≡ false))

abbrev pub IsTakeable : List Bool → List Bool → ℕ → Type 0
IsTakeable taken blocked block = (slice_index_or taken block false ≡ false) × (slice_index_or blocked block false ≡ false)

pub record IsFirstOpen (taken blocked : List Bool) (block : ℕ) : Type 0 where
  pub within : block < length taken
  pub open_here : IsTakeable taken blocked block
  pub least : (other : ℕ) → other < block → IsTakeable taken blocked other → ⊥
