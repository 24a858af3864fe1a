-- Marking blocked blocks, an edge at a time, and what is neither taken nor blocked.
use Rattle.std.proofs.Common.{◌≡◌, ◌<◌, ◌+◌, ⊎_elim, ℕ, Bool, true, false, List, length, get_or, set, replicate, sym, ◌∙◌, arith, subst, get_or-set_same, get_or-set_other, Option, Some, None, MatchOption}
use Rattle.std.specs.List.{AllWithin}
use Rattle.std.proofs.lemmas.List.{get_or_default, get_or_past, get_or-replicate, length-replicate}
use Rattle.std.proofs.lemmas.Bool.{false≢true, true≢false, cases_eq, cases_lt, cases_Bool}
use Rattle.std.proofs.lemmas.List.Elements.{at_read, AllWithin-more}
use Rattle.flow_graph.specs.declared.edge.Edge.{Edge}
use Rattle.flow_graph.specs.Paths.{HasEdge}
use Rattle.block_order.specs.Marks.{IsFree, IsFirstFree, IsStuck, AreBlocked, IsTakeable, IsFirstOpen}

abbrev pub no_edge : Edge
no_edge = record { from = 0; to = 0 }

abbrev pub Blocks : List Bool → List Bool → Edge → Type 0
Blocks taken blocked edge = get_or taken edge.from false ≡ false → get_or blocked edge.to false ≡ true

-- the marks after the first edges
pub record Blocked (edges : List Edge) (taken : List Bool) (done : ℕ) (blocked : List Bool) : Type 0 where
  pub found : (block : ℕ) → get_or blocked block false ≡ true → (from : ℕ) × HasEdge edges from block × (get_or taken from false ≡ false)
  pub each : AllWithin (Blocks taken blocked) edges 0 done

-- no mark is set at first
none_marked : (n block : ℕ) → get_or (replicate n false) block false ≡ false
none_marked n block =
    ⊎_elim (λ within. get_or-replicate n block false false within) (λ past. get_or_past (replicate n false) block false (rw (length-replicate n false) past)) (cases_lt block n)

pub blocked_first : (edges : List Edge) (taken blocked : List Bool) (n : ℕ) → blocked ≡ replicate n false → Blocked edges taken 0 blocked
blocked_first edges taken blocked n is_blocked = record {
  found = λ block is_marked. absurd (false≢true (sym (none_marked n block) ∙ subst (λ (marks : List Bool). get_or marks block false ≡ true) is_blocked is_marked));
  each = λ k d low high. absurd (omega (arith, high));
}

mark_stays : (marks : List Bool) (at block : ℕ) → at < length marks → get_or marks block false ≡ true → get_or (set marks at true) block false ≡ true
mark_stays marks at block within is_marked =
    ⊎_elim (λ same. rw same (get_or-set_same marks at true false within)) (λ other. get_or-set_other marks at block true false other ∙ is_marked) (cases_eq block at)

module _ (edges : List Edge) (taken : List Bool) (done : ℕ) (blocked after : List Bool) (edge : Edge) (more : done < length edges) (is_edge : edge ≡ get_or edges done no_edge) (before : Blocked edges taken done blocked) where
  pub blocked_past : after ≡ blocked → get_or taken edge.from false ≡ true → Blocked edges taken (done + 1) after
  blocked_past same is_taken = rw same (record {
    found = before.found;
    each = AllWithin-more (Blocks taken blocked) edges 0 done before.each (at_read edges (Blocks taken blocked) done edge more (is_edge ∙ get_or_default edges done no_edge edge more) (λ is_left. absurd (true≢false (sym is_taken ∙ is_left))));
  })

  pub blocked_on : edge.to < length blocked → after ≡ set blocked edge.to true → get_or taken edge.from false ≡ false → Blocked edges taken (done + 1) after
  blocked_on within written is_left =
      let here : get_or edges done (record { from = edge.from; to = edge.to }) ≡ edge = get_or_default edges done edge no_edge more ∙ sym is_edge in
      rw written (record {
        found = λ block is_marked.
            ⊎_elim
            (λ same. (edge.from, subst (λ (b : ℕ). HasEdge edges edge.from b) (sym same) (done, more, here), is_left))
            (λ other. before.found block (sym (get_or-set_other blocked edge.to block true false other) ∙ is_marked))
            (cases_eq block edge.to);
        each = AllWithin-more (Blocks taken (set blocked edge.to true)) edges 0 done (λ k d low high from_left. mark_stays blocked edge.to (get_or edges k d).to within (before.each k d low high from_left))
            (at_read edges (Blocks taken (set blocked edge.to true)) done edge more (is_edge ∙ get_or_default edges done no_edge edge more) (λ from_left. get_or-set_same blocked edge.to true false within));
      })

pub blocked_all : (edges : List Edge) (taken blocked : List Bool) → Blocked edges taken (length edges) blocked → AreBlocked edges taken blocked
blocked_all edges taken blocked done block within = (
  done.found block,
  λ some.
      let place = some.1 in
      let blocks : Blocks taken blocked (record { from = some.0; to = block }) = subst (λ (e : Edge). Blocks taken blocked e) place.2 (done.each place.0 (record { from = some.0; to = block }) (omega arith) place.1) in
      blocks some.2,
)

-- what is open is free, and the other way round
module _ (edges : List Edge) (taken blocked : List Bool) (size : length blocked ≡ length taken) (marks : AreBlocked edges taken blocked) where
  free_from_open : (block : ℕ) → block < length taken → IsTakeable taken blocked block → IsFree edges taken block
  free_from_open block within is_open =
      (is_open.0, λ from edge. ⊎_elim (λ is_taken. is_taken) (λ is_left. absurd (false≢true (sym is_open.1 ∙ (marks block (omega (arith, within, size))).1 (from, edge, is_left)))) (cases_Bool (get_or taken from false)))

  open_from_free : (block : ℕ) → block < length taken → IsFree edges taken block → IsTakeable taken blocked block
  open_from_free block within is_free =
      (is_free.0, ⊎_elim (λ is_blocked. absurd (let some = (marks block (omega (arith, within, size))).0 is_blocked in true≢false (sym (is_free.1 some.0 some.1) ∙ some.2))) (λ not_blocked. not_blocked) (cases_Bool (get_or blocked block false)))

  pub next_from_open : (found : Option ℕ) → MatchOption found ((block : ℕ) → block < length taken → IsTakeable taken blocked block → ⊥) (IsFirstOpen taken blocked) → MatchOption found (IsStuck edges taken) (IsFirstFree edges taken)
  next_from_open None none = λ block within is_left.
      ⊎_elim (λ is_blocked. (marks block (omega (arith, within, size))).0 is_blocked) (λ not_blocked. absurd (none block within (is_left, not_blocked))) (cases_Bool (get_or blocked block false))
  next_from_open (Some block) first = record {
    within = first.within;
    free = free_from_open block first.within first.open_here;
    least = λ other before is_free. first.least other before (open_from_free other (omega (arith, before, first.within)) is_free);
  }
