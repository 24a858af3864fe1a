-- Where a function's graph is cut, and the portions between the cuts.
use Rattle.std.specs.Prelude.{◌≡◌, ◌<◌, ◌+◌, ℕ, Bool, not, ◌&&◌, nat_lt, List, [], ◌∷◌, length, map, zip, drop}
use Rattle.std.specs.List.{filter, list_any, range_with_len}
use Rattle.flow_graph.specs.declared.edge.Edge.{Edge}
use Rattle.ll_verifier.specs.Order.{position}
use Rattle.ll_verifier.specs.Sound.{SoundFunc}
use Rattle.portion_cuts.specs.declared.portion.Portion.{Portion}

abbrev pub portion : ℕ → ℕ → Portion
portion from to = record { from = position from; to = position to }

-- all blocks of a function
abbrev pub whole : SoundFunc → Portion
whole it = portion 0 (length it.flow.order)

-- the edge goes from a position below this one to one above it
abbrev pub passes_over : ℕ → Edge → Bool
passes_over at edge = nat_lt edge.from at && nat_lt at edge.to

abbrev pub is_cut : List Edge → ℕ → Bool
is_cut edges at = not (list_any (passes_over at) edges)

-- The cut positions, from 0 to the count of blocks: those that no edge passes over.
abbrev pub cuts_of : ℕ → List Edge → List ℕ
cuts_of blocks edges = filter (is_cut edges) (range_with_len 0 (blocks + 1))

-- from each cut to the next
abbrev pub between : List ℕ → List Portion
between cuts = map (λ ends. portion ends.0 ends.1) (zip cuts (drop 1 cuts))

-- The portions of a function: the neighbouring pairs of all its cut positions, in order.
abbrev pub portions_of : SoundFunc → List Portion
portions_of it = between (cuts_of (length it.flow.order) it.flow.edges)

-- The portions lie one behind the other and none is empty; the first begins at one position, and the last ends at the other.
abbrev pub Cover : ℕ → List Portion → ℕ → Type 0
Cover from [] to = from ≡ to
Cover from (portion ∷ portions) to = (portion.from.0 ≡ from) × (from < portion.to.0) × Cover portion.to.0 portions to
