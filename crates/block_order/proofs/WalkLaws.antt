-- Steps back until a block comes again.
use Rattle.std.proofs.Common.{◌≡◌, ◌<◌, ⊎_elim, ℕ, Bool, true, false, List, [], ◌∷◌, ◌++◌, length, get_or, set, replicate, reverse, refl, sym, ◌∙◌, arith, subst, get_or-set_other, length-set}
use Rattle.std.specs.List.{All, AllWithin, Contains}
use Rattle.std.proofs.lemmas.List.{length-replicate, get_or-replicate, get_or_past, reverse-append}
use Rattle.std.proofs.lemmas.List.Elements.{All-contains, Contains-append_left, Contains-push}
use Rattle.std.proofs.lemmas.Bool.{false≢true, cases_eq, cases_lt}
use Rattle.flow_graph.specs.declared.edge.Edge.{Edge}
use Rattle.flow_graph.specs.Paths.{HasEdge}
use Rattle.block_order.specs.Walk.{IsChain}
use Rattle.block_order.proofs.TakingLaws.{IsWithin}

pub record Walked (edges : List Edge) (taken seen : List Bool) (walk : List ℕ) (at : ℕ) : Type 0 where
  pub size : length seen ≡ length taken
  pub within : at < length taken
  pub left : get_or taken at false ≡ false
  pub steps : IsChain edges at (reverse walk)
  pub kept : (block : ℕ) → get_or seen block false ≡ true → Contains walk block

none_marked : (n block : ℕ) → get_or (replicate n false) block false ≡ false
none_marked n block =
    ⊎_elim (λ within. get_or-replicate n block false false within) (λ past. get_or_past (replicate n false) block false (rw (length-replicate n false) past)) (cases_lt block n)

pub walked_first : (edges : List Edge) (taken seen : List Bool) (walk : List ℕ) (at n : ℕ) → seen ≡ replicate n false → n ≡ length taken → walk ≡ [] → at < length taken → get_or taken at false ≡ false → Walked edges taken seen walk at
walked_first edges taken seen walk at n is_seen is_n is_walk within is_left = rw (is_seen, is_walk) (record {
  size = length-replicate n false ∙ is_n;
  within = within;
  left = is_left;
  steps = tt;
  kept = λ block is_marked. absurd (false≢true (sym (none_marked n block) ∙ is_marked));
})

pub walked_more : (edges : List Edge) (taken seen : List Bool) (walk : List ℕ) (at before : ℕ) → All (IsWithin (length taken)) edges → Walked edges taken seen walk at → HasEdge edges before at → get_or taken before false ≡ false → Walked edges taken (set seen at true) (walk ++ at ∷ []) before
walked_more edges taken seen walk at before within old edge is_left = record {
  size = length-set seen at true ∙ old.size;
  within = (All-contains (IsWithin (length taken)) edges (record { from = before; to = at }) within edge).0;
  left = is_left;
  steps = rw (reverse-append walk (at ∷ [])) (edge, old.steps);
  kept = λ block is_marked.
      ⊎_elim
      (λ same. subst (λ (b : ℕ). Contains (walk ++ at ∷ []) b) (sym same) (Contains-push walk at))
      (λ apart. Contains-append_left walk (at ∷ []) block (old.kept block (sym (get_or-set_other seen at block true false apart) ∙ is_marked)))
      (cases_eq block at);
}

-- no edge among the first is the one that is looked for
abbrev pub IsOther : ℕ → List Bool → Edge → Type 0
IsOther at taken edge = edge.to ≡ at → get_or taken edge.from false ≡ false → ⊥

pub none_found : (edges : List Edge) (at : ℕ) (taken : List Bool) → AllWithin (IsOther at taken) edges 0 (length edges) → (from : ℕ) × HasEdge edges from at × (get_or taken from false ≡ false) → ⊥
none_found edges at taken none some =
    let place = some.1 in
    let other : IsOther at taken (record { from = some.0; to = at }) = subst (λ (e : Edge). IsOther at taken e) place.2 (none place.0 (record { from = some.0; to = at }) (omega arith) place.1) in
    other refl some.2
