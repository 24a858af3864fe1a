-- A text is a table of one list of costs at most, or has one fault.
use Rattle.std.proofs.Common.{◌≡◌, ◌≢◌, ◌<◌, ◌⊎◌, ⊎_elim, inl, inr, ℕ, List, [], ◌∷◌, ◌++◌, Result, Ok, Err, IfOk, length, get_or, refl, sym, ◌∙◌, ap, arith, subst, append_assoc}
use Rattle.std.specs.Prelude.{codes}
use Rattle.std.specs.Result.{IfErr, MatchResult}
use Rattle.std.specs.List.{All, AllPairs, Contains}
use Rattle.std.proofs.lemmas.Bool.{cases_order}
use Rattle.std.proofs.lemmas.List.{append-nil, ext_get_or}
use Rattle.flow_graph.specs.declared.edge.Edge.{Edge}
use Rattle.flow_graph.specs.Sorted.{AreSorted}
use Rattle.cost_table.specs.declared.costs.CostFault.{CostFault}
use Rattle.cost_table.specs.declared.costs.CostFault.TheVariants as fault
use Rattle.cost_table.specs.declared.entry.Entry.{Entry}
use Rattle.cost_table.specs.declared.entry.Entry.TheVariants as entry
use Rattle.cost_table.specs.declared.entry.Flaw.{Flaw}
use Rattle.cost_table.specs.declared.entry.Flaw.TheVariants as flaw
use Rattle.cost_table.specs.Entries.{label_at, Gives, IsFlaw, Goes, FlawAt}
use Rattle.cost_table.specs.Table.{CostLists, lines_in, IsHeading, IsEdgeCost, AreEntries, Table, HasNoHeading, StopsAt, Lacks, IsCause, fault_at}
use Rattle.cost_table.proofs.OneEntryLaws.{gives_one, goes_one, goes_past, no_entry, one_flaw, once}

-- the two headings differ in their last byte
two_headings : (line : List ℕ) → line ≡ codes "wcet costs 1" → line ≡ codes "wcet costs 2" → ⊥
two_headings line one two =
    let differ : 49 ≡ 50 = ap (λ (bytes : List ℕ). get_or bytes 11 0) (sym one ∙ two) in
    absurd (omega (arith, differ))

one_version : (version other : ℕ) (line : List ℕ) → IsHeading version line → IsHeading other line → version ≡ other
one_version version other line (inl one) (inl also) = one.0 ∙ sym also.0
one_version version other line (inl one) (inr two) = absurd (two_headings line one.1 two.1)
one_version version other line (inr two) (inl one) = absurd (two_headings line one.1 two.1)
one_version version other line (inr two) (inr also) = two.0 ∙ sym also.0

-- the costs of a text, by their entries
edge_cost_one : (version : ℕ) (labels : List (List ℕ)) (edges : List Edge) (rest : List (List ℕ)) (entries : List Entry) (edge cost other : ℕ) → Goes version labels edges [] rest entries → IsEdgeCost entries edge cost → IsEdgeCost entries edge other → cost ≡ other
edge_cost_one version labels edges rest entries edge cost other goes (inl some) (inl also) =
    once version labels edges entry.Edge edge (λ earlier a b known. (b, known)) (λ a b same. cc same) [] rest entries cost other goes some also
edge_cost_one version labels edges rest entries edge cost other goes (inl some) (inr none) = absurd (none.1 cost some)
edge_cost_one version labels edges rest entries edge cost other goes (inr none) (inl some) = absurd (none.1 other some)
edge_cost_one version labels edges rest entries edge cost other goes (inr none) (inr also) = none.0 ∙ sym also.0

module _ (text : List ℕ) (labels : List (List ℕ)) (edges : List Edge) (different : AllPairs (λ label other. label ≢ other) labels) (within : All (λ edge. (edge.from < length labels) × (edge.to < length labels)) edges) (sorted : AreSorted edges) where
  -- two readings of one text start with the same heading
  same_start : (version other : ℕ) (first also_first : List ℕ) (rest also_rest : List (List ℕ)) → lines_in text ≡ first ∷ rest → lines_in text ≡ also_first ∷ also_rest → IsHeading version first → IsHeading other also_first → (version ≡ other) × (rest ≡ also_rest)
  same_start version other first also_first rest also_rest lines also_lines headed also_headed =
      let both : first ∷ rest ≡ also_first ∷ also_rest = sym lines ∙ also_lines in
      let same_first : first ≡ also_first = cc both in
      (one_version version other also_first (subst (λ (line : List ℕ). IsHeading version line) same_first headed) also_headed, cc both)

  -- the entries of the second reading are such of the first
  moved : (version other : ℕ) (rest also_rest : List (List ℕ)) (entries : List Entry) → (version ≡ other) × (rest ≡ also_rest) → Goes other labels edges [] also_rest entries → Goes version labels edges [] rest entries
  moved version other rest also_rest entries same goes =
      subst (λ (v : ℕ). Goes v labels edges [] rest entries) (sym same.0) (subst (λ (lines : List (List ℕ)). Goes other labels edges [] lines entries) (sym same.1) goes)

  entries_one : (entries others : List Entry) → AreEntries text labels edges entries → AreEntries text labels edges others → entries ≡ others
  entries_one entries others are also =
      let same = same_start are.version also.version are.first also.first are.rest also.rest are.lines also.lines are.headed also.headed in
      goes_one are.version labels edges different within sorted [] are.rest entries others are.given (moved are.version also.version are.rest also.rest others same also.given)

  pub one_table : (costs others : CostLists) → Table text labels edges costs → Table text labels edges others → costs ≡ others
  one_table costs others table also =
      let same : also.entries ≡ table.entries = entries_one also.entries table.entries also.lines table.lines in
      let goes = table.lines.given in
      let version = table.lines.version in
      let rest = table.lines.rest in
      let blocks : costs.blocks ≡ others.blocks = ext_get_or 0 costs.blocks others.blocks (table.one_each.0 ∙ sym also.one_each.0)
      (λ block low.
      let few : block < length labels = omega (arith, low, table.one_each.0) in
      let other = subst (λ (entries : List Entry). Contains entries (entry.Block block (get_or others.blocks block 0))) same (also.of_blocks block few) in
      once version labels edges entry.Block block (λ earlier a b known. (b, known)) (λ a b is. cc is) [] rest table.entries (get_or costs.blocks block 0) (get_or others.blocks block 0) goes (table.of_blocks block few) other) in
      let of_edges : costs.edges ≡ others.edges = ext_get_or 0 costs.edges others.edges (table.one_each.1 ∙ sym also.one_each.1)
      (λ edge low.
      let few : edge < length edges = omega (arith, low, table.one_each.1) in
      let other = subst (λ (entries : List Entry). IsEdgeCost entries edge (get_or others.edges edge 0)) same (also.of_edges edge few) in
      edge_cost_one version labels edges rest table.entries edge (get_or costs.edges edge 0) (get_or others.edges edge 0) goes (table.of_edges edge few) other) in
      λ i. record { blocks = blocks i; edges = of_edges i }

  -- a line with a flaw leaves no list of entries
  no_entries : (number : ℕ) (kind : Flaw) (entries : List Entry) → StopsAt text labels edges number kind → AreEntries text labels edges entries → ⊥
  no_entries number kind entries stops are =
      let same = same_start stops.version are.version stops.first are.first stops.rest are.rest stops.lines are.lines stops.headed are.headed in
      let at = stops.flawed in
      let whole = subst (λ (lines : List (List ℕ)). Goes stops.version labels edges [] lines entries) at.lines_are (moved stops.version are.version stops.rest are.rest entries same are.given) in
      let next = goes_past stops.version labels edges different within sorted [] at.before at.line at.after at.entries entries at.given whole in
      no_entry stops.version labels edges different within sorted at.entries at.line kind next.0 at.is_flaw next.1 next.2

  no_heading : (entries : List Entry) → HasNoHeading text → AreEntries text labels edges entries → ⊥
  no_heading entries none are = none are.version are.first are.rest are.lines are.headed

  no_table : (entries : List Entry) (label : List ℕ) (costs : CostLists) → Lacks text labels edges label → Table text labels edges costs → ⊥
  no_table entries label costs lacks table =
      let same : table.entries ≡ lacks.entries = entries_one table.entries lacks.entries table.lines lacks.lines in
      lacks.none (get_or costs.blocks lacks.block 0) (subst (λ (list : List Entry). Contains list (entry.Block lacks.block (get_or costs.blocks lacks.block 0))) same (table.of_blocks lacks.block lacks.within))

  -- a text with a fault is no table
  pub not_both : (costs : CostLists) (found : CostFault) → Table text labels edges costs → IsCause text labels edges found → found ≡ fault.NoMemory
  not_both costs (fault.BadLine line) table (inl none) = absurd (no_heading table.entries none.0 table.lines)
  not_both costs (fault.BadLine line) table (inr stops) = absurd (no_entries line flaw.Form table.entries stops table.lines)
  not_both costs (fault.UnknownBlock line) table stops = absurd (no_entries line flaw.Block table.entries stops table.lines)
  not_both costs (fault.UnknownEdge line) table stops = absurd (no_entries line flaw.Edge table.entries stops table.lines)
  not_both costs (fault.CostTwice line) table stops = absurd (no_entries line flaw.Twice table.entries stops table.lines)
  not_both costs (fault.Missing block) table lacks = absurd (no_table table.entries block costs lacks table)
  not_both costs fault.NoMemory table cause = refl

  module _ (version : ℕ) where
    -- the first line with a flaw
    first_flaw : (earlier : List Entry) (before : List (List ℕ)) (line : List ℕ) (after : List (List ℕ)) (entries : List Entry) (kind : Flaw) (also_before : List (List ℕ)) (also_line : List ℕ) (also_after : List (List ℕ)) (also_entries : List Entry) (also_kind : Flaw)
        → before ++ line ∷ after ≡ also_before ++ also_line ∷ also_after → Goes version labels edges earlier before entries → Goes version labels edges earlier also_before also_entries → IsFlaw version labels edges (earlier ++ entries) line kind → IsFlaw version labels edges (earlier ++ also_entries) also_line also_kind → (length before ≡ length also_before) × (kind ≡ also_kind)
    first_flaw earlier [] line after (given ∷ entries) kind also_before also_line also_after also_entries also_kind same goes also_goes is also_is = absurd goes
    first_flaw earlier (next ∷ before) line after [] kind also_before also_line also_after also_entries also_kind same goes also_goes is also_is = absurd goes
    first_flaw earlier [] line after [] kind [] also_line also_after (given ∷ also_entries) also_kind same goes also_goes is also_is = absurd also_goes
    first_flaw earlier [] line after [] kind [] also_line also_after [] also_kind same goes also_goes is also_is =
        let same_line : line ≡ also_line = cc same in
        (refl, one_flaw version labels edges different within sorted (earlier ++ []) also_line kind also_kind (subst (λ (bytes : List ℕ). IsFlaw version labels edges (earlier ++ []) bytes kind) same_line is) also_is)
    first_flaw earlier [] line after [] kind (other ∷ also_before) also_line also_after [] also_kind same goes also_goes is also_is = absurd also_goes
    first_flaw earlier [] line after [] kind (other ∷ also_before) also_line also_after (given ∷ also_entries) also_kind same goes also_goes is also_is =
        let same_line : line ≡ other = cc same in
        let flawed = subst (λ (bytes : List ℕ). IsFlaw version labels edges earlier bytes kind) same_line (subst (λ (list : List Entry). IsFlaw version labels edges list line kind) (append-nil earlier) is) in
        absurd (no_entry version labels edges different within sorted earlier other kind given flawed also_goes.0 also_goes.1)
    first_flaw earlier (next ∷ before) line after (given ∷ entries) kind [] also_line also_after (other ∷ also_entries) also_kind same goes also_goes is also_is = absurd also_goes
    first_flaw earlier (next ∷ before) line after (given ∷ entries) kind [] also_line also_after [] also_kind same goes also_goes is also_is =
        let same_line : also_line ≡ next = cc same in
        let flawed = subst (λ (bytes : List ℕ). IsFlaw version labels edges earlier bytes also_kind) same_line (subst (λ (list : List Entry). IsFlaw version labels edges list also_line also_kind) (append-nil earlier) also_is) in
        absurd (no_entry version labels edges different within sorted earlier next also_kind given flawed goes.0 goes.1)
    first_flaw earlier (next ∷ before) line after (given ∷ entries) kind (other_next ∷ also_before) also_line also_after [] also_kind same goes also_goes is also_is = absurd also_goes
    first_flaw earlier (next ∷ before) line after (given ∷ entries) kind (other_next ∷ also_before) also_line also_after (other ∷ also_entries) also_kind same goes also_goes is also_is =
        let same_next : next ≡ other_next = cc same in
        let same_rest : before ++ line ∷ after ≡ also_before ++ also_line ∷ also_after = cc same in
        let same_given : given ≡ other = gives_one version labels edges different within sorted other_next given other (subst (λ (bytes : List ℕ). Gives version labels edges bytes given) same_next goes.0) also_goes.0 in
        let later = subst (λ (e : Entry). Goes version labels edges (earlier ++ e ∷ []) also_before also_entries) (sym same_given) also_goes.2 in
        let flawed = subst (λ (list : List Entry). IsFlaw version labels edges list line kind) (sym (append_assoc earlier (given ∷ []) entries)) is in
        let also_flawed = subst (λ (e : Entry). IsFlaw version labels edges ((earlier ++ e ∷ []) ++ also_entries) also_line also_kind) (sym same_given) (subst (λ (list : List Entry). IsFlaw version labels edges list also_line also_kind) (sym (append_assoc earlier (other ∷ []) also_entries)) also_is) in
        let found = first_flaw (earlier ++ given ∷ []) before line after entries kind also_before also_line also_after also_entries also_kind same_rest goes.2 later flawed also_flawed in
        (omega (arith, found.0), found.1)

    one_flaw_at : (lines : List (List ℕ)) (number other : ℕ) (kind also_kind : Flaw) → FlawAt version labels edges lines number kind → FlawAt version labels edges lines other also_kind → (number ≡ other) × (kind ≡ also_kind)
    one_flaw_at lines number other kind also_kind at also =
        let found = first_flaw [] at.before at.line at.after at.entries kind also.before also.line also.after also.entries also_kind (sym at.lines_are ∙ also.lines_are) at.given also.given at.is_flaw also.is_flaw in
        (omega (arith, found.0, at.number_is, also.number_is), found.1)

  one_stop : (number other : ℕ) (kind also_kind : Flaw) → StopsAt text labels edges number kind → StopsAt text labels edges other also_kind → fault_at kind number ≡ fault_at also_kind other
  one_stop number other kind also_kind stops also =
      let same = same_start stops.version also.version stops.first also.first stops.rest also.rest stops.lines also.lines stops.headed also.headed in
      let at = subst (λ (v : ℕ). FlawAt v labels edges stops.rest other also_kind) (sym same.0) (subst (λ (lines : List (List ℕ)). FlawAt also.version labels edges lines other also_kind) (sym same.1) also.flawed) in
      let found = one_flaw_at stops.version stops.rest number other kind also_kind stops.flawed at in
      λ i. fault_at (found.1 i) (found.0 i)

  one_lack : (label other : List ℕ) → Lacks text labels edges label → Lacks text labels edges other → label ≡ other
  one_lack label other lacks also =
      let same : also.entries ≡ lacks.entries = entries_one also.entries lacks.entries also.lines lacks.lines in
      let block : lacks.block ≡ also.block =
      ⊎_elim
      (λ is. is)
      (λ apart. ⊎_elim
      (λ before. let some = also.earlier lacks.block before in absurd (lacks.none some.0 (subst (λ (list : List Entry). Contains list (entry.Block lacks.block some.0)) same some.1)))
      (λ behind. let some = lacks.earlier also.block behind in absurd (also.none some.0 (subst (λ (list : List Entry). Contains list (entry.Block also.block some.0)) (sym same) some.1)))
      apart)
      (cases_order lacks.block also.block) in
      sym lacks.named ∙ ap (λ (at : ℕ). label_at labels at) block ∙ also.named

  -- at which stage a fault is found
  abbrev Stage : CostFault → Type 0
  Stage found =
      ((found ≡ fault.BadLine 1) × HasNoHeading text)
      ⊎ (((number : ℕ) × (kind : Flaw) × (found ≡ fault_at kind number) × StopsAt text labels edges number kind)
      ⊎ ((label : List ℕ) × (found ≡ fault.Missing label) × Lacks text labels edges label))

  stage_of : (found : CostFault) → IsCause text labels edges found → found ≢ fault.NoMemory → Stage found
  stage_of (fault.BadLine line) (inl none) some = inl (ap fault.BadLine none.1, none.0)
  stage_of (fault.BadLine line) (inr stops) some = inr (inl (line, flaw.Form, refl, stops))
  stage_of (fault.UnknownBlock line) stops some = inr (inl (line, flaw.Block, refl, stops))
  stage_of (fault.UnknownEdge line) stops some = inr (inl (line, flaw.Edge, refl, stops))
  stage_of (fault.CostTwice line) stops some = inr (inl (line, flaw.Twice, refl, stops))
  stage_of (fault.Missing block) lacks some = inr (inr (block, refl, lacks))
  stage_of fault.NoMemory cause some = absurd (some refl)

  same_stage : (found other : CostFault) → Stage found → Stage other → found ≡ other
  same_stage found other (inl one) (inl also) = one.0 ∙ sym also.0
  same_stage found other (inl one) (inr (inl stops)) = absurd (one.1 stops.3.version stops.3.first stops.3.rest stops.3.lines stops.3.headed)
  same_stage found other (inl one) (inr (inr lacks)) = absurd (no_heading lacks.2.entries one.1 lacks.2.lines)
  same_stage found other (inr (inl stops)) (inl one) = absurd (one.1 stops.3.version stops.3.first stops.3.rest stops.3.lines stops.3.headed)
  same_stage found other (inr (inl stops)) (inr (inl also)) = stops.2 ∙ one_stop stops.0 also.0 stops.1 also.1 stops.3 also.3 ∙ sym also.2
  same_stage found other (inr (inl stops)) (inr (inr lacks)) = absurd (no_entries stops.0 stops.1 lacks.2.entries stops.3 lacks.2.lines)
  same_stage found other (inr (inr lacks)) (inl one) = absurd (no_heading lacks.2.entries one.1 lacks.2.lines)
  same_stage found other (inr (inr lacks)) (inr (inl stops)) = absurd (no_entries stops.0 stops.1 lacks.2.entries stops.3 lacks.2.lines)
  same_stage found other (inr (inr lacks)) (inr (inr also)) = lacks.1 ∙ ap fault.Missing (one_lack lacks.0 also.0 lacks.2 also.2) ∙ sym also.1

  -- a text has one fault
  pub one_fault : (found other : CostFault) → IsCause text labels edges found → IsCause text labels edges other → found ≢ fault.NoMemory → other ≢ fault.NoMemory → found ≡ other
  one_fault found other cause also some also_some = same_stage found other (stage_of found cause some) (stage_of other also also_some)

  -- what is so is answered
  pub only_costs : (result : Result CostLists CostFault) → IfOk result (Table text labels edges) → IfErr result (IsCause text labels edges) → (costs : CostLists) → Table text labels edges costs → MatchResult result (λ read. read ≡ costs) (λ found. found ≡ fault.NoMemory)
  only_costs (Ok read) table cause costs also = one_table read costs table also
  only_costs (Err found) table cause costs also = not_both costs found also cause

  same_or_no_memory : (found other : CostFault) → (found ≢ fault.NoMemory → found ≡ other) → (found ≡ other) ⊎ (found ≡ fault.NoMemory)
  same_or_no_memory (fault.BadLine line) other same = inl (same (λ is. absurd (cc is)))
  same_or_no_memory (fault.UnknownBlock line) other same = inl (same (λ is. absurd (cc is)))
  same_or_no_memory (fault.UnknownEdge line) other same = inl (same (λ is. absurd (cc is)))
  same_or_no_memory (fault.CostTwice line) other same = inl (same (λ is. absurd (cc is)))
  same_or_no_memory (fault.Missing block) other same = inl (same (λ is. absurd (cc is)))
  same_or_no_memory fault.NoMemory other same = inr refl

  pub only_fault : (result : Result CostLists CostFault) → IfOk result (Table text labels edges) → IfErr result (IsCause text labels edges) → (cause : CostFault) → cause ≢ fault.NoMemory → IsCause text labels edges cause → MatchResult result (λ read. ⊥) (λ found. (found ≡ cause) ⊎ (found ≡ fault.NoMemory))
  only_fault (Ok read) table found cause some is = some (not_both read cause table is)
  only_fault (Err found) table found_is cause some is = same_or_no_memory found cause (λ also. one_fault found cause found_is is also some)
