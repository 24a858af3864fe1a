-- Steps back over edges.
use Rattle.std.specs.Prelude.{◌≡◌, ℕ, List, [], ◌∷◌, ◌++◌}
use Rattle.flow_graph.specs.declared.edge.Edge.{Edge}
use Rattle.flow_graph.specs.Paths.{HasEdge}

-- each block has an edge to the next
abbrev pub IsChain : List Edge → ℕ → List ℕ → Type 0
IsChain edges from [] = Unit {0}
IsChain edges from (next ∷ others) = HasEdge edges from next × IsChain edges next others

-- the block, and of the steps those before it comes
pub record IsCut (at : ℕ) (steps cycle : List ℕ) : Type 0 where
  pub before : List ℕ
  pub after : List ℕ
  pub steps_are : steps ≡ before ++ at ∷ after
  pub cycle_is : cycle ≡ at ∷ before
