-- Marking what is reached, an edge at a time.
use Rattle.std.proofs.Common.{◌≡◌, ◌≢◌, ◌<◌, ◌≤◌, ◌+◌, ⊎_elim, ℕ, Bool, true, false, List, [], ◌∷◌, ◌++◌, length, get_or, set, replicate, refl, sym, ◌∙◌, arith, subst, get_or-set_same, get_or-set_other, length-set}
use Rattle.std.proofs.lemmas.List.{length-replicate, get_or-replicate, get_or_default}
use Rattle.std.specs.List.{AllWithin}
use Rattle.std.proofs.lemmas.Bool.{false≢true, cases_eq}
use Rattle.std.proofs.lemmas.List.Elements.{at_read, AllWithin-more, AllWithin-none}
use Rattle.flow_graph.specs.Paths.{IsForward, HasEdge, Leads, IsReached}
use Rattle.flow_graph.specs.declared.edge.Edge.{Edge}

-- a path goes on along an edge
pub leads_on : (edges : List Edge) (without from : ℕ) (rest : List ℕ) (at next : ℕ) → Leads edges without from rest at → at ≢ without → HasEdge edges at next → Leads edges without from (rest ++ next ∷ []) next
leads_on edges without from [] at next is_at around edge =
    (λ same. around (sym is_at ∙ same), subst (λ (block : ℕ). HasEdge edges block next) (sym is_at) edge, refl)
leads_on edges without from (block ∷ rest) at next path around edge =
    (path.0, path.1, leads_on edges without block rest at next path.2 around edge)

-- along the edge a mark is handed on
abbrev pub IsClosed : ℕ → List Bool → Edge → Type 0
IsClosed without marks edge = get_or marks edge.from false ≡ true → edge.from ≢ without → get_or marks edge.to false ≡ true

-- what is marked is reached, and the marks are closed along the first edges
pub record Marked (edges : List Edge) (entry without blocks done : ℕ) (marks : List Bool) : Type 0 where
  pub size : length marks ≡ blocks
  pub entry_marked : get_or marks entry false ≡ true
  pub reached : (block : ℕ) → block < blocks → get_or marks block false ≡ true → IsReached edges entry without block
  pub closed : AllWithin (IsClosed without marks) edges 0 done

-- a mark stays where another is set
mark_stays : (marks : List Bool) (at block : ℕ) → at < length marks → get_or marks block false ≡ true → get_or (set marks at true) block false ≡ true
mark_stays marks at block within is_marked =
    ⊎_elim (λ same. rw same (get_or-set_same marks at true false within)) (λ other. get_or-set_other marks at block true false other ∙ is_marked) (cases_eq block at)

-- the entry alone is marked
pub marked_first : (edges : List Edge) (entry without blocks : ℕ) (marks : List Bool) → entry < blocks → marks ≡ set (replicate blocks false) entry true → Marked edges entry without blocks 0 marks
marked_first edges entry without blocks marks within is_marks = rw is_marks (record {
  size = length-set (replicate blocks false) entry true ∙ length-replicate blocks false;
  entry_marked = get_or-set_same (replicate blocks false) entry true false (rw (length-replicate blocks false) within);
  reached = λ block in_graph is_marked.
      ⊎_elim (λ same. ([], sym same)) (λ other. absurd (false≢true (sym (get_or-replicate blocks block false false in_graph) ∙ sym (get_or-set_other (replicate blocks false) entry block true false other) ∙ is_marked))) (cases_eq block entry);
  closed = AllWithin-none (IsClosed without (set (replicate blocks false) entry true)) edges 0;
})

module _ (edges : List Edge) (entry without blocks done : ℕ) (marks : List Bool) (edge : Edge) (more : done < length edges) (is_edge : edge ≡ get_or edges done edge) (before : Marked edges entry without blocks done marks) where
  -- an edge that hands on no mark
  pub marked_past : (get_or marks edge.from false ≡ true → edge.from ≢ without → ⊥) → Marked edges entry without blocks (done + 1) marks
  marked_past idle = record {
    size = before.size;
    entry_marked = before.entry_marked;
    reached = before.reached;
    closed = AllWithin-more (IsClosed without marks) edges 0 done before.closed (at_read edges (IsClosed without marks) done edge more is_edge (λ from_marked around. absurd (idle from_marked around)));
  }

  -- an edge that hands on a mark
  pub marked_on : IsForward blocks edges → get_or marks edge.from false ≡ true → edge.from ≢ without → Marked edges entry without blocks (done + 1) (set marks edge.to true)
  marked_on forward from_marked around =
      let here : (d : Edge) → get_or edges done d ≡ edge = at_read edges (λ e. e ≡ edge) done edge more is_edge refl in
      let later : edge.from < edge.to = subst (λ (e : Edge). e.from < e.to) (here edge) (forward.later done edge more) in
      let to_within : edge.to < blocks = subst (λ (e : Edge). e.to < blocks) (here edge) (forward.within done edge more) in
      let to_marked : edge.to < length marks = omega (arith, before.size, to_within) in
      let here_edge : HasEdge edges edge.from edge.to = (done, more, here edge) in
      let earlier : AllWithin (IsClosed without (set marks edge.to true)) edges 0 done =
      λ k d low high marked_from around_from.
      let order : (get_or edges k d).from ≤ edge.from = subst (λ (e : Edge). (get_or edges k d).from ≤ e.from) (here d) (forward.sorted k done d high more) in
      let apart : (get_or edges k d).from ≢ edge.to = omega (arith, order, later) in
      mark_stays marks edge.to (get_or edges k d).to to_marked (before.closed k d low high (sym (get_or-set_other marks edge.to (get_or edges k d).from true false apart) ∙ marked_from) around_from) in
      record {
        size = length-set marks edge.to true ∙ before.size;
        entry_marked = mark_stays marks edge.to entry to_marked before.entry_marked;
        reached = λ block in_graph is_marked.
            ⊎_elim
            (λ same. let old = before.reached edge.from (omega (arith, later, to_within)) from_marked in
            (old.0 ++ edge.to ∷ [], subst (λ (b : ℕ). Leads edges without entry (old.0 ++ edge.to ∷ []) b) (sym same) (leads_on edges without entry old.0 edge.from edge.to old.1 around here_edge)))
            (λ other. before.reached block in_graph (sym (get_or-set_other marks edge.to block true false other) ∙ is_marked))
            (cases_eq block edge.to);
        closed = AllWithin-more (IsClosed without (set marks edge.to true)) edges 0 done earlier (at_read edges (IsClosed without (set marks edge.to true)) done edge more is_edge (λ marked_from around_from. get_or-set_same marks edge.to true false to_marked));
      }

-- all that a path reaches is marked
all_marked : (edges : List Edge) (without : ℕ) (marks : List Bool) → AllWithin (IsClosed without marks) edges 0 (length edges) → (from : ℕ) (rest : List ℕ) (to : ℕ) → get_or marks from false ≡ true → Leads edges without from rest to → get_or marks to false ≡ true
all_marked edges without marks closed from [] to is_marked path = subst (λ (b : ℕ). get_or marks b false ≡ true) path is_marked
all_marked edges without marks closed from (next ∷ rest) to is_marked path =
    let at = path.1 in
    let on : IsClosed without marks (record { from = from; to = next }) = subst (λ (e : Edge). IsClosed without marks e) at.2 (closed at.0 (record { from = from; to = next }) (omega arith) at.1) in
    all_marked edges without marks closed next rest to (on is_marked path.0) path.2

-- after all edges the marks are what is reached
pub marked_all : (edges : List Edge) (entry without blocks : ℕ) (marks : List Bool) → Marked edges entry without blocks (length edges) marks → (block : ℕ) → block < blocks → (get_or marks block false ≡ true → IsReached edges entry without block) × (IsReached edges entry without block → get_or marks block false ≡ true)
marked_all edges entry without blocks marks done block in_graph =
    (done.reached block in_graph, λ path. all_marked edges without marks done.closed entry path.0 block done.entry_marked path.1)

abbrev pub no_edge : Edge
no_edge = record { from = 0; to = 0 }

-- the edge at a place, as a loop reads it
edge_read : (edges : List Edge) (at : ℕ) (edge : Edge) → at < length edges → edge ≡ get_or edges at no_edge → edge ≡ get_or edges at edge
edge_read edges at edge within is = is ∙ get_or_default edges at no_edge edge within

module _ (edges : List Edge) (entry without done : ℕ) (marks after : List Bool) (edge : Edge) (more : done < length edges) (is_edge : edge ≡ get_or edges done no_edge) (before : Marked edges entry without (length marks) done marks) where
  pub step_past : after ≡ marks → (get_or marks edge.from false ≡ true → edge.from ≢ without → ⊥) → Marked edges entry without (length after) (done + 1) after
  step_past same idle = rw same (marked_past edges entry without (length marks) done marks edge more (edge_read edges done edge more is_edge) before idle)

  pub step_on : (blocks : ℕ) → IsForward blocks edges → blocks ≡ length marks → after ≡ set marks edge.to true → get_or marks edge.from false ≡ true → edge.from ≢ without → Marked edges entry without (length after) (done + 1) after
  step_on blocks forward size written from_marked around =
      let marked = marked_on edges entry without (length marks) done marks edge more (edge_read edges done edge more is_edge) before (subst (λ (n : ℕ). IsForward n edges) size forward) from_marked around in
      rw (written, length-set marks edge.to true) marked
