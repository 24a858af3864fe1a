-- What a path costs that goes on by one block.
use Rattle.std.proofs.Common.{◌≡◌, ◌+◌, ℕ, List, [], ◌∷◌, ◌++◌, drop, refl, ◌∙◌, ap, arith}
use Rattle.std.specs.Prelude.{zip, sum_by}
use Rattle.std.proofs.lemmas.List.Sums.{sum_by_push}
use Rattle.ir_runs.specs.Costs.{LabelCosts, path_cost}

abbrev pairs : List (List ℕ) → List (List ℕ × List ℕ)
pairs path = zip path (drop 1 path)

pairs_push : (front : List (List ℕ)) (last next : List ℕ) → pairs ((front ++ last ∷ []) ++ next ∷ []) ≡ pairs (front ++ last ∷ []) ++ (last, next) ∷ []
pairs_push [] last next = refl
pairs_push (first ∷ []) last next = refl
pairs_push (first ∷ second ∷ front) last next = ap (λ (rest : List (List ℕ × List ℕ)). (first, second) ∷ rest) (pairs_push (second ∷ front) last next)

pub cost_push : (costs : LabelCosts) (front : List (List ℕ)) (last next : List ℕ) → path_cost costs ((front ++ last ∷ []) ++ next ∷ []) ≡ path_cost costs (front ++ last ∷ []) + (costs.edge last next + costs.block next)
cost_push costs front last next =
    let blocks = sum_by_push costs.block (front ++ last ∷ []) next in
    let along : List ℕ × List ℕ → ℕ = λ ends. costs.edge ends.0 ends.1 in
    let edges : sum_by along (pairs ((front ++ last ∷ []) ++ next ∷ [])) ≡ sum_by along (pairs (front ++ last ∷ [])) + costs.edge last next =
    ap (sum_by along) (pairs_push front last next) ∙ sum_by_push along (pairs (front ++ last ∷ [])) (last, next) in
    omega (arith, blocks, edges)

pub cost_one : (costs : LabelCosts) (label : List ℕ) → path_cost costs (label ∷ []) ≡ costs.block label
cost_one costs label = omega arith
