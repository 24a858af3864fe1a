-- How the longest is found: from the last edge to the first, what paths spend at most from each position on.
use Rattle.std.specs.Prelude.{◌≡◌, ◌≤◌, ◌+◌, ◌*◌, ◌^◌, ◌==◌, ℕ, max, if◌then◌else◌, List, [], ◌∷◌, length, slice_index, EachIndex}
use Rattle.flow_graph.specs.declared.edge.Edge.{Edge}
use Rattle.portion_cuts.specs.declared.portion.Portion.{Portion}
use Rattle.portion_cuts.specs.Paths.{PositionCosts, staying, leaving}

-- over some edges, in the order of the positions that they leave
abbrev pub best_from : PositionCosts → Portion → List Edge → ℕ → ℕ
best_from costs portion [] at = staying costs portion at
best_from costs portion (edge ∷ edges) at =
    if at == edge.from then max (best_from costs portion edges at) (leaving costs portion edge.from edge.to + best_from costs portion edges edge.to)
    else (best_from costs portion edges at)

abbrev pub AreBest : PositionCosts → Portion → List Edge → List ℕ → Type 0
AreBest costs portion edges best = EachIndex best (λ at. slice_index best at ≡ best_from costs portion edges at)

-- less than twice 2^32 for each position from this one on
abbrev pub IsBounded : List ℕ → Type 0
IsBounded best = EachIndex best (λ at. slice_index best at + at * 2 ^ 33 ≤ length best * 2 ^ 33)
