-- A sound function has so few blocks and edges that a row of their costs keeps a system compact.
use Rattle.std.proofs.Common.{◌≡◌, ◌<◌, ◌≤◌, ◌+◌, ◌*◌, ◌^◌, ◌++◌, ⊎_elim, ℕ, suc, List, [], ◌∷◌, length, append-nil, sym, ◌∙◌, ap, arith}
use Rattle.std.specs.List.{All, Contains}
use Rattle.std.proofs.lemmas.List.Elements.{All-weaker, All-contains_itself}
use Rattle.flow_graph.specs.declared.edge.Edge.{Edge}
use Rattle.flow_graph.specs.Sorted.{ComesBefore, AreSorted}
use Rattle.mix_system.specs.declared.literal.Lit.{Lit}
use Rattle.mix_system.specs.declared.row.Part.{Part}
use Rattle.mix_system.specs.System.{System}
use Rattle.ll_verifier.specs.Sound.{SoundFunc, IsSound}
use Rattle.wrap_rows.specs.Normal.{row_of}
use Rattle.wrap_rows.specs.Layout.{Layout}
use Rattle.wrap_rows.specs.Small.{IsCompact}
use Rattle.wrap_rows.proofs.SmallLaws.{IsLight, small-from}
use Rattle.wrap_rows.proofs.CompactLaws.{compact-laid}

-- ---- edges between at most 256 blocks

abbrev IsLow : Edge → Type 0
IsLow edge = (edge.from < 256) × (edge.to < 256)

-- the place of an edge among all pairs of blocks
abbrev cell : Edge → ℕ
cell edge = edge.from * 256 + edge.to

cell_rises : (edge next : Edge) → edge.to < 256 → ComesBefore edge next → cell edge < cell next
cell_rises edge next low before = ⊎_elim (λ less. omega (arith, less, low)) (λ same. omega (arith, same.0, same.1)) before

few_from : (first : Edge) (edges : List Edge) → AreSorted (first ∷ edges) → All IsLow (first ∷ edges) → cell first + length (first ∷ edges) ≤ 256 * 256
few_from first [] sorted low = let here : IsLow first = low 0 first (omega arith) in omega (arith, here.0, here.1)
few_from first (next ∷ edges) sorted low =
    let here : IsLow first = low 0 first (omega arith) in
    let rises : cell first < cell next = cell_rises first next here.1 (sorted 0 1 first (omega arith) (omega arith)) in
    let rest = few_from next edges (λ i j d below within. sorted (suc i) (suc j) d (omega (arith, below)) (omega (arith, within))) (λ k d within. low (suc k) d (omega (arith, within))) in
    omega (arith, rises, rest)

-- each pair stands once at most
few_sorted : (edges : List Edge) → AreSorted edges → All IsLow edges → length edges ≤ 2 ^ 16
few_sorted [] sorted low = omega arith
few_sorted (first ∷ edges) sorted low = omega (arith, few_from first edges sorted low)

module _ (it : SoundFunc) (sound : IsSound it) where
  pub few_blocks : length it.flow.order ≤ 2 ^ 8
  few_blocks = omega (arith, sound.flow.flow.size, sound.rules.limits.blocks)

  pub few_edges : length it.flow.edges ≤ 2 ^ 16
  few_edges =
      let low : All IsLow it.flow.edges =
      All-weaker (Contains it.flow.edges) IsLow
      (λ edge there. let ends = (sound.flow.flow.edges.same edge.from edge.to).0 there in (omega (arith, ends.0, few_blocks), omega (arith, ends.1, few_blocks)))
      it.flow.edges (All-contains_itself it.flow.edges) in
      few_sorted it.flow.edges sound.flow.flow.edges.sorted low

-- ---- one row more

-- whose coefficients are small together
pub compact-row : (old new : System) (parts : List Part) → IsLight parts → new ≡ record old { rows = old.rows ++ row_of parts ∷ [] } → IsCompact old → IsCompact new
compact-row old new parts light is compact =
    let layout : Layout = record { rows = parts ∷ []; clauses = [] } in
    let same = ap (λ (clauses : List (List Lit)). record old { rows = old.rows ++ row_of parts ∷ []; clauses = clauses }) (sym (append-nil old.clauses)) in
    compact-laid layout old new compact (small-from layout (light, tt) tt) (is ∙ same)
