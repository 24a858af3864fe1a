-- How cut positions are found: by the furthest position to which an edge leads.
use Rattle.std.specs.Prelude.{◌≡◌, ◌+◌, ◌==◌, ℕ, Bool, max, nat_lt, nat_le, if◌then◌else◌, List, [], ◌∷◌, slice_index, EachIndex}
use Rattle.ll_verifier.specs.declared.order.PositionEdge.{PositionEdge}

-- from the position before this one, 0 where no edge does
abbrev pub step_to : List PositionEdge → ℕ → ℕ
step_to [] at = 0
step_to (edge ∷ edges) at = max (if edge.from.0 + 1 == at then edge.to.0 else 0) (step_to edges at)

-- from some position before this one
abbrev pub reach_of : List PositionEdge → ℕ → ℕ
reach_of [] at = 0
reach_of (edge ∷ edges) at = max (if nat_lt edge.from.0 at then edge.to.0 else 0) (reach_of edges at)

abbrev pub AreSteps : List PositionEdge → List ℕ → Type 0
AreSteps edges steps = EachIndex steps (λ at. slice_index steps at ≡ step_to edges at)

abbrev pub ends_there : List PositionEdge → ℕ → Bool
ends_there edges at = nat_le (reach_of edges at) at
