-- Lines that were taken, and the table at their end.
use Rattle.std.proofs.Common.{◌≡◌, ◌<◌, ◌+◌, inl, inr, ℕ, List, [], ◌∷◌, ◌++◌, length, get_or, map, Option, Some, None, refl, sym, ◌∙◌, ap, arith, subst, append_assoc, length-append}
use Rattle.std.specs.List.{Contains}
use Rattle.std.proofs.lemmas.List.{append-nil, length_push, length-map, get_or-map}
use Rattle.flow_graph.specs.declared.edge.Edge.{Edge}
use Rattle.cost_table.specs.declared.entry.Entry.{Entry}
use Rattle.cost_table.specs.declared.entry.Entry.TheVariants as entry
use Rattle.cost_table.specs.declared.entry.Flaw.{Flaw}
use Rattle.cost_table.specs.declared.entry.Flaw.TheVariants as flaw
use Rattle.cost_table.specs.declared.costs.CostFault.{CostFault}
use Rattle.cost_table.specs.declared.costs.CostFault.TheVariants as fault
use Rattle.cost_table.specs.Entries.{label_at, Gives, IsFlaw, Goes, FlawAt, IsKept, AreKept, Keeps, Adds, cost_or_zero}
use Rattle.cost_table.specs.Table.{CostLists, IsHeading, IsEdgeCost, AreEntries, Table, HasNoHeading, Lacks, IsCause, IsLineFault, fault_at, lines_in}
use Rattle.cost_table.proofs.KeptLaws.{goes_on}

-- the lines before those that are left gave entries, which are kept
pub record Taken (version : ℕ) (labels : List (List ℕ)) (edges : List Edge) (all left : List (List ℕ)) (number : ℕ) (block_costs edge_costs : List (Option ℕ)) : Type 0 where
  pub before : List (List ℕ)
  pub entries : List Entry
  pub all_is : all ≡ before ++ left
  pub given : Goes version labels edges [] before entries
  pub keeps : Keeps entries block_costs edge_costs
  pub number_is : number ≡ length before + 2

module _ (version : ℕ) (labels : List (List ℕ)) (edges : List Edge) (all : List (List ℕ)) where
  pub taken_first : (block_costs edge_costs : List (Option ℕ)) → Keeps [] block_costs edge_costs → Taken version labels edges all all 2 block_costs edge_costs
  taken_first block_costs edge_costs keeps = record { before = []; entries = []; all_is = refl; given = tt; keeps = keeps; number_is = omega arith }

  module _ (line : List ℕ) (left : List (List ℕ)) (number : ℕ) (block_costs edge_costs : List (Option ℕ)) (taken : Taken version labels edges all (line ∷ left) number block_costs edge_costs) where
    pub taken_more : (new_blocks new_edges : List (Option ℕ)) → (given : Entry) × Gives version labels edges line given × Adds taken.entries given new_blocks new_edges → Taken version labels edges all left (number + 1) new_blocks new_edges
    taken_more new_blocks new_edges (given, gives, adds) = record {
      before = taken.before ++ line ∷ [];
      entries = taken.entries ++ given ∷ [];
      all_is = taken.all_is ∙ sym (append_assoc taken.before (line ∷ []) left);
      given = goes_on version labels edges [] taken.before taken.entries line given taken.given gives adds.0;
      keeps = adds.1;
      number_is = omega (arith, taken.number_is, length_push taken.before line);
    }

    pub flawed : (kind : Flaw) → IsFlaw version labels edges taken.entries line kind → FlawAt version labels edges all number kind
    flawed kind is_flaw = record { before = taken.before; line = line; after = left; entries = taken.entries; lines_are = taken.all_is; given = taken.given; is_flaw = is_flaw; number_is = taken.number_is }

    pub line_fault : (kind : Flaw) → IsFlaw version labels edges taken.entries line kind → IsLineFault version labels edges all (fault_at kind number)
    line_fault flaw.Form is_flaw = flawed flaw.Form is_flaw
    line_fault flaw.Block is_flaw = flawed flaw.Block is_flaw
    line_fault flaw.Edge is_flaw = flawed flaw.Edge is_flaw
    line_fault flaw.Twice is_flaw = flawed flaw.Twice is_flaw

    -- how many lines there are
    pub taken_few : number < length all + 2
    taken_few = omega (arith, taken.number_is, ap length taken.all_is, length-append taken.before (line ∷ left))

  pub taken_all : (number : ℕ) (block_costs edge_costs : List (Option ℕ)) → Taken version labels edges all [] number block_costs edge_costs → (entries : List Entry) × Goes version labels edges [] all entries × Keeps entries block_costs edge_costs
  taken_all number block_costs edge_costs taken =
      let whole : taken.before ≡ all = sym (taken.all_is ∙ append-nil taken.before) in
      (taken.entries, subst (λ (lines : List (List ℕ)). Goes version labels edges [] lines taken.entries) whole taken.given, taken.keeps)

-- the fault of a line behind a heading
pub cause_of : (text : List ℕ) (labels : List (List ℕ)) (edges : List Edge) (version : ℕ) (first : List ℕ) (rest : List (List ℕ)) (found : CostFault) → lines_in text ≡ first ∷ rest → IsHeading version first → IsLineFault version labels edges rest found → IsCause text labels edges found
cause_of text labels edges version first rest (fault.BadLine line) lines headed flawed = inr (record { version = version; first = first; rest = rest; lines = lines; headed = headed; flawed = flawed })
cause_of text labels edges version first rest (fault.UnknownBlock line) lines headed flawed = record { version = version; first = first; rest = rest; lines = lines; headed = headed; flawed = flawed }
cause_of text labels edges version first rest (fault.UnknownEdge line) lines headed flawed = record { version = version; first = first; rest = rest; lines = lines; headed = headed; flawed = flawed }
cause_of text labels edges version first rest (fault.CostTwice line) lines headed flawed = record { version = version; first = first; rest = rest; lines = lines; headed = headed; flawed = flawed }
cause_of text labels edges version first rest (fault.Missing block) lines headed flawed = absurd flawed
cause_of text labels edges version first rest fault.NoMemory lines headed flawed = tt

-- the costs that are kept
pub block_cost : (entries : List Entry) (costs : List (Option ℕ)) (block : ℕ) → AreKept entry.Block entries costs → block < length costs → (cost : ℕ) × (get_or costs block None ≡ Some cost) → Contains entries (entry.Block block (get_or (map cost_or_zero costs) block 0))
block_cost entries costs block kept low some =
    let read : get_or (map cost_or_zero costs) block 0 ≡ some.0 = get_or-map cost_or_zero costs block None 0 low ∙ ap cost_or_zero some.1 in
    let contains : Contains entries (entry.Block block some.0) = subst (λ (o : Option ℕ). IsKept (entry.Block block) entries o) some.1 (kept block low) in
    rw read contains

edge_cost_of : (entries : List Entry) (edge : ℕ) (kept : Option ℕ) → IsKept (entry.Edge edge) entries kept → IsEdgeCost entries edge (cost_or_zero kept)
edge_cost_of entries edge None none = inr (refl, none)
edge_cost_of entries edge (Some cost) some = inl some

pub edge_cost : (entries : List Entry) (costs : List (Option ℕ)) (edge : ℕ) → AreKept entry.Edge entries costs → edge < length costs → IsEdgeCost entries edge (get_or (map cost_or_zero costs) edge 0)
edge_cost entries costs edge kept low = subst (λ (n : ℕ). IsEdgeCost entries edge n) (sym (get_or-map cost_or_zero costs edge None 0 low)) (edge_cost_of entries edge (get_or costs edge None) (kept edge low))

-- no line, and a first line that is no heading
pub no_line : (text : List ℕ) → lines_in text ≡ [] → HasNoHeading text
no_line text none version first rest is headed = let both : [] ≡ first ∷ rest = sym none ∙ is in absurd (cc both)

pub no_heading : (text first : List ℕ) (rest : List (List ℕ)) → lines_in text ≡ first ∷ rest → ((version : ℕ) → IsHeading version first → ⊥) → HasNoHeading text
no_heading text first rest lines none version other others is headed =
    let both : first ∷ rest ≡ other ∷ others = sym lines ∙ is in
    let same : first ≡ other = cc both in
    none version (subst (λ (line : List ℕ). IsHeading version line) (sym same) headed)

module _ (text : List ℕ) (labels : List (List ℕ)) (edges : List Edge) (version : ℕ) (first : List ℕ) (rest : List (List ℕ)) (lines : lines_in text ≡ first ∷ rest) (headed : IsHeading version first) (block_costs edge_costs : List (Option ℕ)) (found : (entries : List Entry) × Goes version labels edges [] rest entries × Keeps entries block_costs edge_costs) (blocks : length block_costs ≡ length labels) where
  entries_of : AreEntries text labels edges found.0
  entries_of = record { version = version; first = first; rest = rest; lines = lines; headed = headed; given = found.1 }

  -- a block without a cost
  pub lacks_of : (block : ℕ) (label : List ℕ) → (block < length block_costs) × (get_or block_costs block None ≡ None) × ((other : ℕ) → other < block → (cost : ℕ) × (get_or block_costs other None ≡ Some cost)) → label_at labels block ≡ label → Lacks text labels edges label
  lacks_of block label missing named = record {
    entries = found.0;
    lines = entries_of;
    block = block;
    within = omega (arith, missing.0, blocks);
    named = named;
    none = subst (λ (o : Option ℕ). IsKept (entry.Block block) found.0 o) missing.1 (found.2.of_blocks block missing.0);
    earlier = λ other before.
        let some = missing.2 other before in
        let low : other < length block_costs = omega (arith, before, missing.0) in
        (some.0, subst (λ (o : Option ℕ). IsKept (entry.Block other) found.0 o) some.1 (found.2.of_blocks other low));
  }

  pub table_of : (costs : CostLists) → length edge_costs ≡ length edges → ((at : ℕ) → at < length block_costs → (cost : ℕ) × (get_or block_costs at None ≡ Some cost)) → costs.blocks ≡ map cost_or_zero block_costs → costs.edges ≡ map cost_or_zero edge_costs → Table text labels edges costs
  table_of costs sizes each block_lists edge_lists =
      let block_size : length costs.blocks ≡ length labels = ap length block_lists ∙ length-map block_costs cost_or_zero ∙ blocks in
      let edge_size : length costs.edges ≡ length edges = ap length edge_lists ∙ length-map edge_costs cost_or_zero ∙ sizes in
      record {
        entries = found.0;
        lines = entries_of;
        one_each = (block_size, edge_size);
        of_blocks = λ block within.
            let low : block < length block_costs = omega (arith, within, blocks) in
            subst (λ (list : List ℕ). Contains found.0 (entry.Block block (get_or list block 0))) (sym block_lists) (block_cost found.0 block_costs block found.2.of_blocks low (each block low));
        of_edges = λ edge within.
            let low : edge < length edge_costs = omega (arith, within, sizes) in
            subst (λ (list : List ℕ). IsEdgeCost found.0 edge (get_or list edge 0)) (sym edge_lists) (edge_cost found.0 edge_costs edge found.2.of_edges low);
      }
