-- Paths from the entry, and where a value is defined on them.
use Rattle.std.specs.Prelude.{◌≡◌, ◌⊎◌, ◌<◌, ℕ, IsTrue, List, [], ◌∷◌, length, HoldsAt}
use Rattle.std.specs.List.{AllWithin}
use Rattle.flow_graph.specs.declared.edge.Edge.{Edge}
use Rattle.flow_graph.specs.Paths.{HasEdge}
use Rattle.flow_rules.specs.declared.usage.Use.{Use}

-- The path that begins with `from` and goes on with `rest` ends at `to`: each of its blocks has an edge to the next.
abbrev pub GoesOn : List Edge → ℕ → List ℕ → ℕ → Type 0
GoesOn edges from [] to = from ≡ to
GoesOn edges from (next ∷ rest) to = HasEdge edges from next × GoesOn edges next rest to

-- The list is a path from the entry, the block at place 0, to a block.
abbrev pub IsPathTo : List Edge → List ℕ → ℕ → Type 0
IsPathTo edges [] block = ⊥
IsPathTo edges (first ∷ rest) block = (first ≡ 0) × GoesOn edges first rest block

-- Some path goes from the entry to the block.
abbrev pub IsReached : List Edge → ℕ → Type 0
IsReached edges block = (path : List ℕ) × IsPathTo edges path block

-- The definition stands on the path before the use, which lies in the path's last block.
abbrev pub IsDefinedOn : Use → List ℕ → Type 0
IsDefinedOn it [] = ⊥
IsDefinedOn it (block ∷ []) = (block ≡ it.definition) × IsTrue it.comes_first
IsDefinedOn it (block ∷ next ∷ rest) = (block ≡ it.definition) ⊎ IsDefinedOn it (next ∷ rest)

-- The definition stands before the use in the use's own block.
abbrev pub IsOwn : Use → Type 0
IsOwn it = (it.block ≡ it.definition) × IsTrue it.comes_first

-- The definition stands before the use on every path to it.
abbrev pub IsDefined : List Edge → Use → Type 0
IsDefined edges it = (path : List ℕ) → IsPathTo edges path it.block → IsDefinedOn it path

-- This is a path to the use on which it doesn't.
abbrev pub LeavesOut : List Edge → Use → List ℕ → Type 0
LeavesOut edges it path = IsPathTo edges path it.block × ¬ IsDefinedOn it path

abbrev pub AllReached : ℕ → List Edge → Type 0
AllReached blocks edges = (block : ℕ) → block < blocks → IsReached edges block

-- The first block that no path reaches.
pub record IsFirstUnreached (blocks : ℕ) (edges : List Edge) (block : ℕ) : Type 0 where
  pub within : block < blocks
  pub unreached : ¬ IsReached edges block
  pub first : (other : ℕ) → other < block → IsReached edges other

-- The first use whose value isn't defined on every path to it.
pub record IsFirstUndefined (edges : List Edge) (uses : List Use) (at : ℕ) : Type 0 where
  pub within : at < length uses
  pub undefined : HoldsAt (λ it. ¬ IsDefined edges it) uses at
  pub first : AllWithin (IsDefined edges) uses 0 at
