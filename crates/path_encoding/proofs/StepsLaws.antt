-- The steps of a path that rises.
use Rattle.std.proofs.Common.{◌≡◌, ◌<◌, ◌≤◌, ⊎_elim, inl, inr, ℕ, List, [], ◌∷◌, refl, sym, ◌∙◌, subst, arith}
use Rattle.std.specs.List.{Contains}
use Rattle.flow_graph.specs.declared.edge.Edge.{Edge}
use Rattle.flow_graph.specs.Paths.{HasEdge}
use Rattle.block_order.specs.Walk.{IsChain}
use Rattle.ll_flow.proofs.PlaceLaws.{no_item, cons_cases}
use Rattle.ir_runs.proofs.MemberLaws.{in_here, in_there}
use Rattle.path_encoding.specs.Paths.{Steps}

pub steps_from : (path : List ℕ) (from to : ℕ) → Steps path from to → Contains path from
steps_from [] from to steps = absurd steps
steps_from (at ∷ []) from to steps = absurd steps
steps_from (at ∷ next ∷ rest) from to steps =
    ⊎_elim (λ ends. subst (λ (n : ℕ). Contains (at ∷ next ∷ rest) n) ends.0 (in_here at (next ∷ rest))) (λ later. in_there at from (next ∷ rest) (steps_from (next ∷ rest) from to later)) steps

pub steps_to : (path : List ℕ) (from to : ℕ) → Steps path from to → Contains path to
steps_to [] from to steps = absurd steps
steps_to (at ∷ []) from to steps = absurd steps
steps_to (at ∷ next ∷ rest) from to steps =
    ⊎_elim (λ ends. in_there at to (next ∷ rest) (subst (λ (n : ℕ). Contains (next ∷ rest) n) ends.1 (in_here next rest))) (λ later. in_there at to (next ∷ rest) (steps_to (next ∷ rest) from to later)) steps

-- what isn't the first is stepped to
pub stepped_to : (at : ℕ) (rest : List ℕ) (to : ℕ) → Contains rest to → (from : ℕ) × Steps (at ∷ rest) from to
stepped_to at [] to there = absurd (no_item to there)
stepped_to at (next ∷ rest) to there =
    ⊎_elim (λ same. (at, inl (refl, same))) (λ later. let found = stepped_to next rest to later in (found.0, inr found.1)) (cons_cases next rest to there)

module _ (edges : List Edge) (forward : (from to : ℕ) → HasEdge edges from to → from < to) where
  above : (at : ℕ) (rest : List ℕ) → IsChain edges at rest → (other : ℕ) → Contains rest other → at < other
  above at [] chain other there = absurd (no_item other there)
  above at (next ∷ rest) chain other there =
      let here = forward at next chain.0 in
      ⊎_elim (λ same. omega (arith, same, here)) (λ later. omega (arith, here, above next rest chain.1 other later)) (cons_cases next rest other there)

  low : (at : ℕ) (rest : List ℕ) → IsChain edges at rest → (other : ℕ) → Contains (at ∷ rest) other → at ≤ other
  low at rest chain other there = ⊎_elim (λ same. omega (arith, same)) (λ later. omega (arith, above at rest chain other later)) (cons_cases at rest other there)

  -- what is stepped to isn't the first
  to_above : (at : ℕ) (rest : List ℕ) → IsChain edges at rest → (from to : ℕ) → Steps (at ∷ rest) from to → at < to
  to_above at [] chain from to steps = absurd steps
  to_above at (next ∷ rest) chain from to steps =
      let here = forward at next chain.0 in
      ⊎_elim (λ ends. omega (arith, here, ends.1)) (λ later. omega (arith, here, to_above next rest chain.1 from to later)) steps

  pub step_has : (at : ℕ) (rest : List ℕ) → IsChain edges at rest → (from to : ℕ) → Steps (at ∷ rest) from to → HasEdge edges from to
  step_has at [] chain from to steps = absurd steps
  step_has at (next ∷ rest) chain from to steps =
      ⊎_elim (λ ends. subst (λ (n : ℕ). HasEdge edges n to) ends.0 (subst (λ (n : ℕ). HasEdge edges at n) ends.1 chain.0)) (λ later. step_has next rest chain.1 from to later) steps

  pub one_from : (at : ℕ) (rest : List ℕ) → IsChain edges at rest → (from other to : ℕ) → Steps (at ∷ rest) from to → Steps (at ∷ rest) other to → from ≡ other
  one_from at [] chain from other to steps too = absurd steps
  one_from at (next ∷ rest) chain from other to steps too =
      ⊎_elim
      (λ ends. ⊎_elim (λ both. sym ends.0 ∙ both.0) (λ later. absurd (omega (arith, ends.1, to_above next rest chain.1 other to later))) too)
      (λ later. ⊎_elim (λ ends. absurd (omega (arith, ends.1, to_above next rest chain.1 from to later))) (λ both. one_from next rest chain.1 from other to later both) too)
      steps

  pub one_to : (at : ℕ) (rest : List ℕ) → IsChain edges at rest → (from to other : ℕ) → Steps (at ∷ rest) from to → Steps (at ∷ rest) from other → to ≡ other
  one_to at [] chain from to other steps too = absurd steps
  one_to at (next ∷ rest) chain from to other steps too =
      let here = forward at next chain.0 in
      ⊎_elim
      (λ ends. ⊎_elim (λ both. sym ends.1 ∙ both.1) (λ later. absurd (omega (arith, here, ends.0, low next rest chain.1 from (steps_from (next ∷ rest) from other later)))) too)
      (λ later. ⊎_elim (λ ends. absurd (omega (arith, here, ends.0, low next rest chain.1 from (steps_from (next ∷ rest) from to later)))) (λ both. one_to next rest chain.1 from to other later both) too)
      steps
