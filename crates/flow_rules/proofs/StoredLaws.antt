-- What a flow keeps, and what its marks say.
use Rattle.std.proofs.Common.{◌≡◌, ◌<◌, ◌≤◌, ◌^◌, ⊎_elim, ℕ, Bool, true, false, not, IsTrue, List, [], ◌∷◌, length, get_or, map, refl, sym, ◌∙◌, arith, subst}
use Rattle.std.specs.List.{All}
use Rattle.std.proofs.lemmas.Bool.{true≢false, false≢true, cases_Bool}
use Rattle.std.proofs.lemmas.List.Elements.{All-nil, All-cons}
use Rattle.flow_graph.specs.declared.edge.Edge.{Edge}
use Rattle.flow_graph.specs.Paths.{Leads, IsPath, IsForward}
use Rattle.flow_graph.specs.Sorted.{AreSorted, AreSame}
use Rattle.block_order.specs.Order.{IsKeptOrder}
use Rattle.flow_rules.specs.declared.flow.Flow.TheInside.{Inside}
use Rattle.flow_rules.specs.declared.usage.Use.{Use}
use Rattle.flow_rules.specs.Flow.{IsFlow, IsWithin}
use Rattle.flow_rules.specs.Paths.{IsReached, IsOwn, IsDefined, LeavesOut}
use Rattle.flow_rules.specs.Stored.{ArePositions, renumbered, AreRows, row_at, flow_of, IsSound}
use Rattle.flow_rules.proofs.OrderLaws.{EndsWithin, position_of, edges_laid, flow_forward}
use Rattle.flow_rules.proofs.PathLaws.{reached_by_positions, reached_by_places, path_leaves_out, own_is_defined, defined_from_none, undefined_from_some}

pub sound_of : (it : Inside) (blocks : ℕ) → length it.order ≡ blocks → 0 < blocks → blocks < 2 ^ 32 → IsFlow blocks (flow_of it) → ArePositions it.order it.positions → AreRows it.edges (get_or it.positions 0 0) blocks it.rows → IsSound it
sound_of it blocks size entry few flow placed rows = record {
  flow = subst (λ (n : ℕ). IsFlow n (flow_of it)) (sym size) flow;
  entry = omega (arith, size, entry);
  few = omega (arith, size, few);
  positions = placed;
  rows = subst (λ (n : ℕ). AreRows it.edges (get_or it.positions 0 0) n it.rows) (sym size) rows;
}

-- the edges of an order are those of the graph
pub flow_in : (blocks : ℕ) (graph : List Edge) (order positions : List ℕ) (edges given : List Edge) (listed placed : List ℕ) → listed ≡ order → given ≡ graph → placed ≡ positions → All (EndsWithin blocks) graph → IsKeptOrder blocks graph order → length order ≡ blocks → ArePositions listed positions → AreSorted edges → AreSame (map (renumbered placed) given) edges → IsFlow blocks (record { graph = graph; order = order; edges = edges })
flow_in blocks graph order positions edges given listed placed is_listed is_given is_placed within kept size are sorted same = record {
  within = within;
  kept = kept;
  size = size;
  edges = edges_laid blocks graph order positions edges within kept (rw is_listed at are) (rw (is_placed, is_given) at same) sorted;
}

module _ (it : Inside) (sound : IsSound it) where
  abbrev size : ℕ
  size = length it.order

  -- a place has its position
  pub position_found : (block : ℕ) → block < size → (get_or it.positions block 0 < size) × (get_or it.order (get_or it.positions block 0) 0 ≡ block)
  position_found block within = position_of size it.graph it.order it.positions sound.flow.kept sound.positions block within

  pub position_is : (block position : ℕ) → position < size → get_or it.order position 0 ≡ block → get_or it.positions block 0 ≡ position
  position_is block position low there = subst (λ (b : ℕ). get_or it.positions b 0 ≡ position) there (sound.positions.there position low)

  pub edges_forward : IsForward size it.edges
  edges_forward = flow_forward size (flow_of it) sound.flow

  pub reached_mark : (block position : ℕ) (row : List Bool) → block < size → position < size → get_or it.order position 0 ≡ block → row ≡ row_at it.rows size
      → (IsTrue (get_or row position false) → IsReached it.graph block) × (IsReached it.graph block → IsTrue (get_or row position false))
  reached_mark block position row within low there is_row =
      let is : get_or it.positions block 0 ≡ position = position_is block position low there in
      let last : size ≤ size = omega arith in
      let in_row : position < length (row_at it.rows size) = omega (arith, low, sound.rows.sizes size last) in
      let marks = sound.rows.marks size last position in_row in
      rw is_row (
        (λ marked. reached_by_places size (flow_of it) it.positions sound.flow sound.positions sound.entry block size within (rw is (marks.0 marked))),
        λ reached. marks.1 (rw is at (reached_by_positions size (flow_of it) it.positions sound.flow sound.positions block reached)),
      )

  module _ (usage : Use) (definition position : ℕ) (row : List Bool) (within : IsWithin (flow_of it) usage) (low_definition : definition < size) (definition_is : get_or it.order definition 0 ≡ usage.definition) (low : position < size) (there : get_or it.order position 0 ≡ usage.block) (is_row : row ≡ row_at it.rows definition) where
    given : get_or it.positions usage.definition 0 ≡ definition
    given = position_is usage.definition definition low_definition definition_is

    used : get_or it.positions usage.block 0 ≡ position
    used = position_is usage.block position low there

    in_row : position < length (row_at it.rows definition)
    in_row = omega (arith, low, sound.rows.sizes definition (omega (arith, low_definition)))

    marked_is_undefined : ¬ IsOwn usage → get_or row position false ≡ true → ¬ IsDefined it.graph usage
    marked_is_undefined other marked =
        undefined_from_some size (flow_of it) it.positions sound.flow sound.positions sound.entry usage within.definition within.block other
        (rw (given, used) ((sound.rows.marks definition (omega (arith, low_definition)) position in_row).0 (rw is_row at marked)))

    unmarked_is_defined : get_or row position false ≡ false → IsDefined it.graph usage
    unmarked_is_defined unmarked =
        defined_from_none size (flow_of it) it.positions sound.flow sound.positions usage within.definition
        (λ around. true≢false (sym ((sound.rows.marks definition (omega (arith, low_definition)) position in_row).1 (rw (given, used) at around)) ∙ (rw is_row at unmarked)))

    pub defined_mark : ¬ IsOwn usage → (IsTrue (not (get_or row position false)) → IsDefined it.graph usage) × (IsDefined it.graph usage → IsTrue (not (get_or row position false)))
    defined_mark other =
        ⊎_elim
        (λ marked. rw marked ((λ none. absurd (false≢true none)), λ defined. absurd (marked_is_undefined other marked defined)))
        (λ unmarked. let is_defined = unmarked_is_defined unmarked in rw unmarked ((λ some. is_defined), λ defined. refl))
        (cases_Bool (get_or row position false))

    -- where it isn't defined, its block is reached around the definition
    pub undefined_mark : ¬ IsDefined it.graph usage → IsTrue (get_or row position false)
    undefined_mark undefined =
        ⊎_elim (λ marked. marked) (λ unmarked. absurd (undefined (unmarked_is_defined unmarked))) (cases_Bool (get_or row position false))

    pub undefined_path : (entry : ℕ) → entry ≡ get_or it.positions 0 0 → ¬ IsDefined it.graph usage → (path : List ℕ) → IsPath it.edges definition entry path position → LeavesOut it.graph usage (map (λ at. get_or it.order at 0) path)
    undefined_path entry entry_is undefined path is_path =
        path_leaves_out size (flow_of it) it.positions sound.flow sound.positions sound.entry usage within.definition within.block (λ own. undefined (own_is_defined it.graph usage own)) path
        (rw (given, used, ← entry_is) is_path)

  -- a path has positions alone
  leads_within : (without from : ℕ) (rest : List ℕ) (to : ℕ) → to < size → Leads it.edges without from rest to → All (λ at. at < size) (from ∷ rest)
  leads_within without from [] to low same = All-cons (λ (at : ℕ). at < size) from [] (omega (arith, low, same)) (All-nil (λ (at : ℕ). at < size))
  leads_within without from (next ∷ rest) to low path =
      All-cons (λ (at : ℕ). at < size) from (next ∷ rest) ((sound.flow.edges.same from next).0 path.1).0 (leads_within without next rest to low path.2)

  pub path_within : (without entry : ℕ) (path : List ℕ) (to : ℕ) → to < size → IsPath it.edges without entry path to → All (λ at. at < size) path
  path_within without entry [] to low path = absurd path
  path_within without entry (first ∷ rest) to low path = leads_within without first rest to low path.1
