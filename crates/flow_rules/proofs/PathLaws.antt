-- Paths by positions and by places.
use Rattle.std.proofs.Common.{◌≡◌, ◌<◌, ◌⊎◌, inl, inr, ⊎_elim, ℕ, List, [], ◌∷◌, length, get_or, map, refl, sym, ◌∙◌, ap, arith, subst}
use Rattle.std.proofs.lemmas.List.Elements.{All-contains}
use Rattle.std.proofs.lemmas.Bool.{true≢false, cases_eq, cases_Bool}
use Rattle.flow_graph.specs.declared.edge.Edge.{Edge}
use Rattle.flow_graph.specs.Paths.{HasEdge, Leads, IsPath}
use Rattle.flow_rules.specs.declared.usage.Use.{Use}
use Rattle.flow_rules.specs.Paths.{GoesOn, IsReached, IsDefinedOn, IsOwn, IsDefined, LeavesOut}
use Rattle.flow_rules.specs.Flow.{Flow, IsFlow}
use Rattle.flow_rules.specs.Stored.{ArePositions}
use Rattle.flow_rules.proofs.OrderLaws.{EndsWithin, position_of}

-- a definition stands on a path, or it doesn't
decided : (it : Use) (first : ℕ) (rest : List ℕ) → IsDefinedOn it (first ∷ rest) ⊎ ¬ IsDefinedOn it (first ∷ rest)
decided it first [] =
    ⊎_elim (λ same. ⊎_elim (λ yes. inl (same, yes)) (λ no. inr (λ both. true≢false (sym both.1 ∙ no))) (cases_Bool it.comes_first)) (λ other. inr (λ both. other both.0)) (cases_eq first it.definition)
decided it first (next ∷ rest) =
    ⊎_elim (λ same. inl (inl same)) (λ other. ⊎_elim (λ later. inl (inr later)) (λ never. inr (λ some. ⊎_elim other never some)) (decided it next rest)) (cases_eq first it.definition)

-- it stands on each path that ends in its block behind it
ends_in : (edges : List Edge) (it : Use) → IsOwn it → (first : ℕ) (rest : List ℕ) → GoesOn edges first rest it.block → IsDefinedOn it (first ∷ rest)
ends_in edges it own first [] is = (is ∙ own.0, own.1)
ends_in edges it own first (next ∷ rest) path = inr (ends_in edges it own next rest path.1)

pub own_is_defined : (edges : List Edge) (it : Use) → IsOwn it → IsDefined edges it
own_is_defined edges it own [] path = absurd path
own_is_defined edges it own (first ∷ rest) path = ends_in edges it own first rest path.1

module _ (blocks : ℕ) (flow : Flow) (positions : List ℕ) (is : IsFlow blocks flow) (placed : ArePositions flow.order positions) where
  abbrev place : ℕ → ℕ
  place position = get_or flow.order position 0

  abbrev position : ℕ → ℕ
  position block = get_or positions block 0

  at : (block : ℕ) → block < blocks → (position block < length flow.order) × (place (position block) ≡ block)
  at block within = position_of blocks flow.graph flow.order positions is.kept placed block within

  ends : (from to : ℕ) → HasEdge flow.graph from to → (from < blocks) × (to < blocks)
  ends from to edge = All-contains (EndsWithin blocks) flow.graph (record { from = from; to = to }) is.within edge

  -- an edge by positions
  moved : (from to : ℕ) → HasEdge flow.graph from to → HasEdge flow.edges (position from) (position to)
  moved from to edge =
      let from_at = at from (ends from to edge).0 in
      let to_at = at to (ends from to edge).1 in
      (is.edges.same (position from) (position to)).1 (from_at.0, to_at.0, rw (from_at.1, to_at.1) edge)

  -- a path by places
  pub to_places : (without from : ℕ) (rest : List ℕ) (to : ℕ) → Leads flow.edges without from rest to → GoesOn flow.graph (place from) (map place rest) (place to)
  to_places without from [] to same = ap place same
  to_places without from (next ∷ rest) to path = (((is.edges.same from next).0 path.1).2, to_places without next rest to path.2)

  -- a definition doesn't stand on a path around it
  left_out : (it : Use) → it.definition < blocks → (from : ℕ) (rest : List ℕ) (to : ℕ) → place to ≡ it.block → ¬ IsOwn it → Leads flow.edges (position it.definition) from rest to → ¬ IsDefinedOn it (place from ∷ map place rest)
  left_out it within from [] to last other same both = other (sym last ∙ ap place (sym same) ∙ both.0, both.1)
  left_out it within from (next ∷ rest) to last other path some =
      ⊎_elim
      (λ here. path.0 (sym (placed.there from ((is.edges.same from next).0 path.1).0) ∙ ap position here))
      (left_out it within next rest to last other path.2)
      some

  -- a path by positions, around a definition that doesn't stand on it
  to_positions : (it : Use) → it.definition < blocks → (from : ℕ) (rest : List ℕ) (to : ℕ) → GoesOn flow.graph from rest to → ¬ IsDefinedOn it (from ∷ rest) → Leads flow.edges (position it.definition) (position from) (map position rest) (position to)
  to_positions it within from [] to same never = ap position same
  to_positions it within from (next ∷ rest) to path never = (
    λ same. never (inl (sym (at from (ends from next path.0).0).1 ∙ ap place same ∙ (at it.definition within).1)),
    moved from next path.0,
    to_positions it within next rest to path.1 (λ later. never (inr later)),
  )

  -- a path by positions, around no block
  around_none : (from : ℕ) (rest : List ℕ) (to : ℕ) → GoesOn flow.graph from rest to → Leads flow.edges (length flow.order) (position from) (map position rest) (position to)
  around_none from [] to same = ap position same
  around_none from (next ∷ rest) to path = (
    (let low = (at from (ends from next path.0).0).0 in λ same. omega (arith, low, same)),
    moved from next path.0,
    around_none next rest to path.1,
  )

  abbrev pub ReachedAround : ℕ → ℕ → Type 0
  ReachedAround without block = (rest : List ℕ) × Leads flow.edges without (position 0) rest (position block)

  -- reached at all
  pub reached_by_positions : (block : ℕ) → IsReached flow.graph block → ReachedAround (length flow.order) block
  reached_by_positions block ([], path) = absurd path
  reached_by_positions block ((first ∷ rest), path) =
      (map position rest, subst (λ (from : ℕ). Leads flow.edges (length flow.order) (position from) (map position rest) (position block)) path.0 (around_none first rest block path.1))

  pub reached_by_places : 0 < blocks → (block without : ℕ) → block < blocks → ReachedAround without block → IsReached flow.graph block
  reached_by_places entry block without within (rest, path) =
      let goes = to_places without (position 0) rest (position block) path in
      (0 ∷ map place rest, (refl, subst (λ (last : ℕ). GoesOn flow.graph 0 (map place rest) last) (at block within).1 (subst (λ (first : ℕ). GoesOn flow.graph first (map place rest) (place (position block))) (at 0 entry).1 goes)))

  -- a path around the definition leaves it out
  pub path_leaves_out : 0 < blocks → (it : Use) → it.definition < blocks → it.block < blocks → ¬ IsOwn it → (path : List ℕ) → IsPath flow.edges (position it.definition) (position 0) path (position it.block) → LeavesOut flow.graph it (map place path)
  path_leaves_out entry it given used other [] path = absurd path
  path_leaves_out entry it given used other (first ∷ rest) (is_first, path) =
      let goes = to_places (position it.definition) first rest (position it.block) path in
      let begins : place first ≡ 0 = ap place is_first ∙ (at 0 entry).1 in (
        (begins, subst (λ (last : ℕ). GoesOn flow.graph (place first) (map place rest) last) (at it.block used).1 goes),
        left_out it given first rest (position it.block) (at it.block used).1 other path,
      )

  -- where no path leads around the definition, it stands on all
  pub defined_from_none : (it : Use) → it.definition < blocks → ¬ ReachedAround (position it.definition) it.block → IsDefined flow.graph it
  defined_from_none it given none [] path = absurd path
  defined_from_none it given none (first ∷ rest) path =
      ⊎_elim
      (λ defined. defined)
      (λ never. absurd (none (map position rest, subst (λ (from : ℕ). Leads flow.edges (position it.definition) (position from) (map position rest) (position it.block)) path.0 (to_positions it given first rest it.block path.1 never))))
      (decided it first rest)

  pub undefined_from_some : 0 < blocks → (it : Use) → it.definition < blocks → it.block < blocks → ¬ IsOwn it → ReachedAround (position it.definition) it.block → ¬ IsDefined flow.graph it
  undefined_from_some entry it given used other (rest, path) defined =
      let leaves = path_leaves_out entry it given used other (position 0 ∷ rest) (refl, path) in
      leaves.1 (defined (map place (position 0 ∷ rest)) leaves.0)
