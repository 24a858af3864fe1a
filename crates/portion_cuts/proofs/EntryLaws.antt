-- The entry stands first in the kept order.
use Rattle.std.proofs.Common.{◌≡◌, ◌<◌, ◌⊎◌, ⊎_elim, ℕ, List, [], ◌∷◌, length, take, subst, arith}
use Rattle.std.specs.List.{Contains}
use Rattle.std.proofs.lemmas.Bool.{cases_lt}
use Rattle.flow_graph.specs.Paths.{HasEdge}
use Rattle.block_order.specs.Order.{IsReady}
use Rattle.ll_flow.specs.Paths.{label_of, IsPathTo}
use Rattle.ll_flow.proofs.PlaceLaws.{no_item, goes}
use Rattle.ll_verifier.specs.Sound.{SoundFunc, IsSound}
use Rattle.ir_runs.proofs.MemberLaws.{in_here}
use Rattle.ir_runs.proofs.TrailLaws.{no_return}
use Rattle.portion_cuts.specs.Paths.{place_at}

module _ (it : SoundFunc) (sound : IsSound it) where
  -- the entry is on each path
  begins : (path : List (List ℕ)) (to : List ℕ) → IsPathTo it.func path to → Contains path (label_of it.func 0)
  begins [] to is = absurd is
  begins (first ∷ rest) to is = subst (λ (label : List ℕ). Contains (first ∷ rest) label) is.0 (in_here first rest)

  pub no_edge_back : (from : ℕ) → HasEdge it.flow.graph from 0 → ⊥
  no_edge_back from there =
      let led = goes it.func from 0 ((sound.flow.edges from 0).0 there) in
      let reached = sound.rules.reached from led.1 in
      no_return it.func sound.rules.acyclic reached.0 (label_of it.func from) (label_of it.func 0) reached.1 led.0 (begins reached.0 (label_of it.func from) reached.1)

  some_block : 0 < length it.flow.order
  some_block = omega (arith, sound.flow.entry, sound.flow.flow.size)

  ready : IsReady it.flow.graph (take 0 it.flow.order) 0
  ready = (λ there. no_item 0 there, λ from edge. absurd (no_edge_back from edge))

  pub first_place : place_at it 0 ≡ 0
  first_place =
      let first = sound.flow.flow.kept.next 0 some_block in
      ⊎_elim (λ some. absurd (first.least 0 some ready)) (λ none. omega (arith, none)) (cases_lt 0 (place_at it 0))
