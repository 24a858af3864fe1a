-- The path that a point takes through a function's graph.
use Rattle.std.specs.Prelude.{◌≡◌, ◌↔◌, ◌⊎◌, ◌<◌, ℕ, ℤ, pos, false, List, [], ◌∷◌, length, map, All, Contains}
use Rattle.mix_system.specs.Row.{number_at}
use Rattle.ll_links.specs.declared.link.Position.{Position}
use Rattle.ll_verifier.specs.Sound.{SoundFunc}
use Rattle.portion_cuts.specs.Paths.{IsPath}
use Rattle.wrap_rows.specs.Vars.{IsMark}
use Rattle.path_encoding.specs.declared.spots.PathSpots.{PathSpots}
use Rattle.path_encoding.specs.Spots.{block_at, block_var, edge_vars}
use Rattle.path_encoding.specs.FlowRows.{goes_on}

-- positions as numbers
abbrev pub positions : List Position → List ℕ
positions path = map (λ position. position.0) path

-- the path goes from one position to the other
abbrev pub Steps : List ℕ → (from to : ℕ) → Type 0
Steps [] from to = ⊥
Steps (at ∷ []) from to = ⊥
Steps (at ∷ next ∷ rest) from to = ((at ≡ from) × (next ≡ to)) ⊎ Steps (next ∷ rest) from to

-- the last block is left by no edge
abbrev pub EndsThere : SoundFunc → List ℕ → Type 0
EndsThere it [] = ⊥
EndsThere it (last ∷ []) = goes_on (block_at it last).end ≡ false
EndsThere it (at ∷ next ∷ rest) = EndsThere it (next ∷ rest)

-- The point takes the path from the entry to an end: exactly its blocks and its edges are 1.
pub record IsTaken (it : SoundFunc) (spots : PathSpots) (point : List ℤ) (path : List ℕ) : Type 0 where
  pub is_path : IsPath it.flow.edges path
  pub ends : EndsThere it path
  pub visited : (at : ℕ) → at < length it.flow.order → (number_at point (block_var spots at) ≡ pos 1) ↔ Contains path at
  pub taken : All (λ edge. (number_at point edge.1 ≡ pos 1) ↔ Steps path edge.0.from.0 edge.0.to.0) (edge_vars it spots)

-- the variables of blocks and edges are 0 or 1
pub record AreMarks (spots : PathSpots) (point : List ℤ) : Type 0 where
  pub blocks : All (λ var. IsMark (number_at point var)) spots.blocks.items
  pub edges : All (λ var. IsMark (number_at point var)) spots.edges.items
