-- Parts that are put one by one: which variables they name, and how great their coefficients are.
use Rattle.std.proofs.Common.{◌≡◌, ◌<◌, ◌+◌, ◌++◌, ℕ, Bool, cond, pos, List, [], ◌∷◌, length, get_or, drop, ap, ◌∙◌, arith}
use Rattle.std.specs.Prelude.{unsigned_abs}
use Rattle.std.specs.List.{All}
use Rattle.std.proofs.lemmas.List.{drop_more}
use Rattle.std.proofs.lemmas.List.Elements.{All-append, All-cons}
use Rattle.flow_graph.specs.declared.edge.Edge.{Edge}
use Rattle.mix_system.specs.declared.row.Part.{Part}
use Rattle.wrap_rows.specs.Layout.{times}
use Rattle.wrap_rows.specs.Normal.{sizes}
use Rattle.portion_cuts.specs.Paths.{PositionCosts}
use Rattle.cost_rows.specs.Rows.{block_row, edge_row}

abbrev pub AreKnown : ℕ → List Part → Type 0
AreKnown count parts = All (λ (part : Part). part.var < count) parts

pub none_known : (count : ℕ) → AreKnown count []
none_known count = λ k d low. absurd (omega (arith, low))

pub known_more : (count : ℕ) (parts : List Part) (part : Part) → AreKnown count parts → part.var < count → AreKnown count (parts ++ part ∷ [])
known_more count parts part known low = All-append (λ (part : Part). part.var < count) parts (part ∷ []) known (All-cons (λ (part : Part). part.var < count) part [] low (none_known count))

pub sizes_more : (parts : List Part) (part : Part) → sizes (parts ++ part ∷ []) ≡ sizes parts + unsigned_abs part.coeff
sizes_more [] part = omega arith
sizes_more (first ∷ parts) part = omega (arith, sizes_more parts part)

module _ (costs : PositionCosts) (inside : ℕ → Bool) where
  pub next_block : (vars : List ℕ) (at : ℕ) → at < length vars → block_row costs inside at (drop at vars) ≡ times (pos (cond (inside at) (costs.block at) 0)) (get_or vars at 0) ∷ block_row costs inside (at + 1) (drop (at + 1) vars)
  next_block vars at low = ap (block_row costs inside at) (drop_more vars at 0 low)

  pub next_edge : (edges : List Edge) (vars : List ℕ) (k : ℕ) (edge : Edge) → k < length vars → k < length edges → get_or edges k edge ≡ edge
      → edge_row costs inside (drop k edges) (drop k vars) ≡ times (pos (cond (inside edge.from) (costs.edge edge.from edge.to) 0)) (get_or vars k 0) ∷ edge_row costs inside (drop (k + 1) edges) (drop (k + 1) vars)
  next_edge edges vars k edge low there is =
      ap (λ (list : List Edge). edge_row costs inside list (drop k vars)) (drop_more edges k edge there ∙ ap (λ (e : Edge). e ∷ drop (k + 1) edges) is)
      ∙ ap (edge_row costs inside (edge ∷ drop (k + 1) edges)) (drop_more vars k 0 low)
