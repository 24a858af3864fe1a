-- A path by steps back.
use Rattle.std.proofs.Common.{◌≡◌, ◌≢◌, ◌<◌, ◌⊎◌, inl, inr, ℕ, Bool, true, false, List, [], ◌∷◌, length, get_or, refl, sym, subst, arith}
use Rattle.std.specs.List.{AllWithin}
use Rattle.std.proofs.lemmas.List.Elements.{All-contains}
use Rattle.flow_graph.specs.Paths.{IsForward, HasEdge, Leads, IsReached, AreMarks}
use Rattle.flow_graph.specs.declared.edge.Edge.{Edge}

-- a block before this one on a path around a block
abbrev pub IsBefore : List Edge → ℕ → ℕ → ℕ → ℕ → Type 0
IsBefore edges without entry at from = HasEdge edges from at × (from ≢ without) × IsReached edges entry without from

-- a path is at its entry, or has a block before its last
last_edge : (edges : List Edge) (without entry : ℕ) (rest : List ℕ) (at : ℕ) → Leads edges without entry rest at → (entry ≡ at) ⊎ ((from : ℕ) × IsBefore edges without entry at from)
last_edge edges without entry [] at path = inl path
last_edge edges without entry (next ∷ rest) at path =
    elim (last_edge edges without next rest at path.2) [
      | inl same ↦ inr (entry, (subst (λ (block : ℕ). HasEdge edges entry block) same path.1, path.0, ([], refl)))
      | inr found ↦ inr (found.0, (found.1.0, found.1.1, (next ∷ found.1.2.0, (path.0, path.1, found.1.2.1))))
    ]

-- a marked block that isn't the entry has a marked block before it
pub marked_before : (edges : List Edge) (without entry at : ℕ) (marks : List Bool) → IsForward (length marks) edges → AreMarks edges entry without marks → at < length marks → get_or marks at false ≡ true → at ≢ entry
    → (from : ℕ) × HasEdge edges from at × (from ≢ without) × (get_or marks from false ≡ true)
marked_before edges without entry at marks forward are_marks within is_marked other =
    let path = (are_marks at within).0 is_marked in
    elim (last_edge edges without entry path.0 at path.1) [
      | inl same ↦ absurd (other (sym same))
      | inr found ↦
          let falls : found.0 < at = All-contains (λ (edge : Edge). edge.from < edge.to) edges (record { from = found.0; to = at }) forward.later found.1.0 in
          (found.0, found.1.0, found.1.1, (are_marks found.0 (omega (arith, falls, within))).1 found.1.2)
    ]

-- an edge leads to a later block
pub edge_rises : (edges : List Edge) (blocks from to : ℕ) → IsForward blocks edges → HasEdge edges from to → from < to
edge_rises edges blocks from to forward edge =
    All-contains (λ (e : Edge). e.from < e.to) edges (record { from = from; to = to }) forward.later edge

-- no edge among the first is the one that is looked for
abbrev pub IsOther : ℕ → ℕ → List Bool → Edge → Type 0
IsOther without at marks edge = edge.to ≡ at → edge.from ≢ without → get_or marks edge.from false ≡ true → ⊥

pub none_found : (edges : List Edge) (without at : ℕ) (marks : List Bool) → AllWithin (IsOther without at marks) edges 0 (length edges) → (from : ℕ) × HasEdge edges from at × (from ≢ without) × (get_or marks from false ≡ true) → ⊥
none_found edges without at marks none some =
    let place = some.1 in
    let other : IsOther without at marks (record { from = some.0; to = at }) = subst (λ (e : Edge). IsOther without at marks e) place.2 (none place.0 (record { from = some.0; to = at }) (omega arith) place.1) in
    other refl some.2 some.3
