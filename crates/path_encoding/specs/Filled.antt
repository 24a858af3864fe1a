-- What is written for a path, and for the cases of switches.
use Rattle.std.specs.Prelude.{◌≡◌, ◌<◌, ◌+◌, ℕ, ℤ, pos, Bool, List, [], ◌∷◌, length, zip, All, Contains, slice_set}
use Rattle.std.specs.Ordering.{int_eq}
use Rattle.mix_system.specs.Row.{number_at}
use Rattle.flow_graph.specs.declared.edge.Edge.{Edge}
use Rattle.ll_tree.specs.declared.block.Case.{Case}
use Rattle.ll_verifier.specs.declared.order.PositionEdge.{PositionEdge}
use Rattle.portion_cuts.specs.Paths.{passes, takes}
use Rattle.ll_verifier.specs.Sound.{SoundFunc}
use Rattle.wrap_rows.specs.Piece.{mark_of}
use Rattle.path_encoding.specs.declared.spots.PathSpots.{PathSpots}
use Rattle.path_encoding.specs.Spots.{block_at, case_vars}
use Rattle.path_encoding.specs.Agree.{asked_var, IsCaseSaid}

-- only the numbers of these variables are changed
pub record ChangesOnly (vars : List ℕ) (old new : List ℤ) : Type 0 where
  pub same_length : length new ≡ length old
  pub kept : (var : ℕ) → ¬ Contains vars var → number_at new var ≡ number_at old var

-- ---- in code

-- each item's variable is 1 where the item passes the test, else 0
abbrev pub put_marks : {X : Type 0} → (X → Bool) → List (X × ℕ) → List ℤ → List ℤ
put_marks test [] point = point
put_marks test (pair ∷ pairs) point = put_marks test pairs (slice_set point pair.1 (mark_of (test pair.0)))

-- the blocks from a position on
abbrev pub put_blocks : List ℕ → ℕ → List ℕ → List ℤ → List ℤ
put_blocks path at [] point = point
put_blocks path at (var ∷ vars) point = put_blocks path (at + 1) vars (slice_set point var (mark_of (passes path at)))

abbrev pub is_step : List ℕ → PositionEdge → Bool
is_step path edge = takes path (record { from = edge.from.0; to = edge.to.0 })

abbrev pub put_edges : List ℕ → List PositionEdge → List ℕ → List ℤ → List ℤ
put_edges path edges vars point = put_marks (is_step path) (zip edges vars) point

-- the cases of a switch that asks this number
abbrev pub is_value : ℤ → Case → Bool
is_value number case = int_eq number (pos case.value)

abbrev pub put_cases : ℤ → List Case → List ℕ → List ℤ → List ℤ
put_cases number cases vars point = put_marks (is_value number) (zip cases vars) point

-- those of the blocks before a position, and nothing else
abbrev pub asked_at : SoundFunc → PathSpots → ℕ → ℕ
asked_at it spots at = asked_var it spots (block_at it at).end

pub record AreSaidBefore (it : SoundFunc) (spots : PathSpots) (old now : List ℤ) (at : ℕ) : Type 0 where
  pub said : (other : ℕ) → other < at → All (IsCaseSaid now (asked_at it spots other)) (case_vars it spots other)
  pub kept : ChangesOnly spots.cases.items old now
