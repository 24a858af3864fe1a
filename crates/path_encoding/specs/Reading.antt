-- How the path of a point is read: from each block by the first edge that is 1.
use Rattle.std.specs.Prelude.{◌==◌, ◌&&◌, ℕ, ℤ, pos, Bool, if◌then◌else◌, List, [], ◌∷◌, Option, Some, None}
use Rattle.std.specs.Ordering.{int_eq}
use Rattle.mix_system.specs.Row.{number_at}
use Rattle.ll_links.specs.declared.link.Position.{Position}
use Rattle.ll_verifier.specs.declared.order.PositionEdge.{PositionEdge}

-- the edge leads from the block, and it is 1
abbrev pub is_one_from : List ℤ → ℕ → PositionEdge × ℕ → Bool
is_one_from point at edge = edge.0.from.0 == at && int_eq (number_at point edge.1) (pos 1)

-- the first such edge
abbrev pub next_from : List ℤ → List (PositionEdge × ℕ) → ℕ → Option Position
next_from point [] at = None
next_from point (edge ∷ edges) at = if is_one_from point at edge then Some edge.0.to else (next_from point edges at)
