-- The path of values that return makes the path layout hold.
use Rattle.std.proofs.Common.{◌≡◌, ◌<◌, ◌≤◌, ◌+◌, ◌-◌, ⊎_elim, inl, inr, ◌⊎◌, ℕ, ℤ, pos, ◌≤ℤ◌, eqb, Bool, true, false, cond, List, [], ◌∷◌, ◌++◌, length, get_or, drop, map, Some, refl, sym, ◌∙◌, ap, subst, arith}
use Rattle.std.specs.Prelude.{◌↔◌, zip, flat_map}
use Rattle.std.specs.List.{Contains, filter, list_all, range_with_len}
use Rattle.std.proofs.lemmas.Bool.{true≢false}
use Rattle.std.proofs.lemmas.Bool.Decides.{Decides-eqb}
use Rattle.std.proofs.lemmas.Int.{ints}
use Rattle.std.proofs.lemmas.List.Elements.{All-contains, Contains-get_or, Contains-append_cases}
use Rattle.std.proofs.lemmas.List.FromFn.{length-range_with_len, get_or-range_with_len}
use Rattle.mix_system.specs.declared.literal.Lit.{Lit}
use Rattle.mix_system.specs.declared.row.Part.{Part}
use Rattle.mix_system.specs.Fits.{IsTrueAt}
use Rattle.mix_system.specs.Row.{number_at, row_value}
use Rattle.mix_system.specs.Sum.{int_sum_by}
use Rattle.flow_graph.specs.Paths.{HasEdge}
use Rattle.ll_tree.specs.declared.block.Block.{Block}
use Rattle.ll_tree.specs.declared.block.Instr.{Instr}
use Rattle.ll_rules.specs.Items.{targets_of}
use Rattle.ll_flow.proofs.PlaceLaws.{no_item, cons_cases}
use Rattle.ll_verifier.specs.declared.order.PositionEdge.{PositionEdge}
use Rattle.ll_verifier.specs.Order.{position_edge}
use Rattle.ll_verifier.specs.Sound.{SoundFunc, IsSound}
use Rattle.ir_runs.specs.Values.{Vals}
use Rattle.ir_runs.specs.Walk.{Step, Goes, Returns, Fails, LeadOn, EndsWith, end_step, is_assumed, has_poison_argument, step_of}
use Rattle.ir_runs.specs.declared.ret_val.RetVal.{RetVal}
use Rattle.ir_runs.specs.declared.undefined.UndefinedCause.TheVariants as cause
use Rattle.ir_runs.proofs.MemberLaws.{in_here, in_there, map_in}
use Rattle.portion_cuts.specs.Paths.{place_at}
use Rattle.wrap_rows.specs.Blocks.{equals}
use Rattle.wrap_rows.specs.Layout.{Holds}
use Rattle.wrap_rows.proofs.CaseLaws.{Each, Each-from_All}
use Rattle.wrap_rows.proofs.BlockLaws.{all-true, Clause_here, Each-append, equals-true, mark_cases}
use Rattle.path_encoding.specs.declared.spots.PathSpots.{PathSpots}
use Rattle.path_encoding.specs.Spots.{no_block, block_at, block_var, edge_vars, edge_to, place_with, case_vars, cases_before, AreSpotsOf}
use Rattle.path_encoding.specs.FlowRows.{enters, leaves, flow_row, in_row, out_row, in_rows, out_rows, flow_rows}
use Rattle.path_encoding.specs.Ends.{assumes_at, end_clauses, block_clauses}
use Rattle.path_encoding.specs.PathLayout.{start_clauses, flow_clauses, visit_clauses, path_layout}
use Rattle.path_encoding.specs.Paths.{Steps, EndsThere, IsTaken, AreMarks}
use Rattle.path_encoding.specs.Agree.{AgreesOn, IsGiven, AgreesWith, IsCaseSaid, AreCasesSaid, asked_var, blocks_on, ReturnsOn}
use Rattle.path_encoding.proofs.CaseDiffer.{none_repeated}
use Rattle.path_encoding.proofs.CountLaws.{cases_few}
use Rattle.path_encoding.proofs.FillLaws.{assumes_off, end_off, assumes_true, goes_true, returns_true, strict_true}
use Rattle.path_encoding.proofs.GraphLaws.{apart_pairs, apart_kept, edges_apart, edge_of, var_of, leads_on, single}
use Rattle.path_encoding.proofs.MarkSums.{AreMarked, AreApart, sum_none, sum_only}
use Rattle.path_encoding.proofs.MemberLaws.{kept, passes_of, member_of}
use Rattle.path_encoding.proofs.StepsLaws.{steps_from, steps_to, stepped_to, step_has, one_from, one_to}
use Rattle.path_encoding.proofs.TakenLaws.{flow_value, visits, takes, goes, visit_marks, take_marks}
use Rattle.path_encoding.proofs.TargetLaws.{place_low, target, one_block}

-- what holds for each member of a list holds of all that they make
pub each_in : {X Y : Type 0} (P : Y → Type 0) (f : X → List Y) (xs : List X) → ((x : X) → Contains xs x → Each P (f x)) → Each P (flat_map f xs)
each_in P f [] each = tt
each_in P f (x ∷ xs) each = Each-append P (f x) (flat_map f xs) (each x (in_here x xs)) (each_in P f xs (λ y there. each y (in_there x y xs there)))

count_low : (first count number : ℕ) → Contains (range_with_len first count) number → (first ≤ number) × (number < first + count)
count_low first count number (k, low, is) =
    let within : k < count = omega (arith, low, length-range_with_len first count) in
    let same : first + k ≡ number = sym (get_or-range_with_len first count k number within) ∙ is in
    (omega (arith, same), omega (arith, same, within))

-- where a block of the path leads: to the next, or to the end
pub record LeadsBy (it : SoundFunc) (args : List ℕ) (vals : Vals) (path : List ℕ) (at : ℕ) : Type 0 where
  pub step : Step
  pub is : step_of it.func args vals (block_at it at) ≡ Some step
  pub goal : ((next : ℕ) × Steps path at next × (step ≡ Goes (block_at it next).label)) ⊎ ((result : RetVal) × (step ≡ Returns result))

module _ (it : SoundFunc) (args : List ℕ) (vals : Vals) where
  leads_by : (first : ℕ) (rest : List ℕ) (result : RetVal) → LeadOn it.func args vals (blocks_on it (first ∷ rest)) → EndsWith it.func args vals (blocks_on it (first ∷ rest)) (Returns result) → (at : ℕ) → Contains (first ∷ rest) at → LeadsBy it args vals (first ∷ rest) at
  leads_by first [] result follow ends at there =
      ⊎_elim (λ same. record { step = Returns result; is = ap (λ (n : ℕ). step_of it.func args vals (block_at it n)) (sym same) ∙ ends; goal = inr (result, refl) }) (λ none. absurd (no_item at none)) (cons_cases first [] at there)
  leads_by first (next ∷ rest) result follow ends at there =
      ⊎_elim
      (λ same. record { step = Goes (block_at it next).label; is = ap (λ (n : ℕ). step_of it.func args vals (block_at it n)) (sym same) ∙ follow.0; goal = inl (next, inl (same, refl), refl) })
      (λ later.
      let found = leads_by next rest result follow.1 ends at later in
      record { step = found.step; is = found.is; goal = ⊎_elim (λ goes_there. inl (goes_there.0, inr goes_there.1, goes_there.2)) (λ stops. inr stops) found.goal })
      (cons_cases first (next ∷ rest) at there)

-- a step that isn't undefined comes of the terminator, with all assumes true and no argument barred
pub record IsClean (it : SoundFunc) (args : List ℕ) (vals : Vals) (block : Block) (step : Step) : Type 0 where
  pub barred : has_poison_argument it.func args ≡ false
  pub assumes : list_all (λ instr. is_assumed vals instr.op) block.body ≡ true
  pub ends : end_step it.func vals block.end ≡ Some step

clean_of : (it : SoundFunc) (args : List ℕ) (vals : Vals) (block : Block) (step : Step) → step_of it.func args vals block ≡ Some step → (Fails cause.PoisonArgument ≡ step → ⊥) → (Fails cause.FalseAssume ≡ step → ⊥) → IsClean it args vals block step
clean_of it args vals block step is never_barred never_false = by_barred (has_poison_argument it.func args) refl is
  where
    by_assumes : has_poison_argument it.func args ≡ false → (all : Bool) → list_all (λ (instr : Instr). is_assumed vals instr.op) block.body ≡ all → cond all (end_step it.func vals block.end) (Some (Fails cause.FalseAssume)) ≡ Some step → IsClean it args vals block step
    by_assumes free true all there = record { barred = free; assumes = all; ends = there }
    by_assumes free false some there = absurd (never_false (cc there))

    by_barred : (barred : Bool) → has_poison_argument it.func args ≡ barred → cond barred (Some (Fails cause.PoisonArgument)) (cond (list_all (λ (instr : Instr). is_assumed vals instr.op) block.body) (end_step it.func vals block.end) (Some (Fails cause.FalseAssume))) ≡ Some step → IsClean it args vals block step
    by_barred true some there = absurd (never_barred (cc there))
    by_barred false free there = by_assumes free (list_all (λ (instr : Instr). is_assumed vals instr.op) block.body) refl there

goes_clean : (it : SoundFunc) (args : List ℕ) (vals : Vals) (block : Block) (label : List ℕ) → step_of it.func args vals block ≡ Some (Goes label) → IsClean it args vals block (Goes label)
goes_clean it args vals block label is = clean_of it args vals block (Goes label) is (λ same. cc same) (λ same. cc same)

returns_clean : (it : SoundFunc) (args : List ℕ) (vals : Vals) (block : Block) (result : RetVal) → step_of it.func args vals block ≡ Some (Returns result) → IsClean it args vals block (Returns result)
returns_clean it args vals block result is = clean_of it args vals block (Returns result) is (λ same. cc same) (λ same. cc same)

module _ (it : SoundFunc) (sound : IsSound it) (spots : PathSpots) (are : AreSpotsOf it spots) (point : List ℤ) (marks : AreMarks spots point) (rest : List ℕ) (is : IsTaken it spots point (0 ∷ rest)) where
  abbrev rows : List (List Part)
  rows = flow_rows it spots

  abbrev Clause : List Lit → Type 0
  Clause = Clause_here (flow_rows it spots) point

  abbrev path : List ℕ
  path = 0 ∷ rest

  abbrev visit : ℕ → ℤ
  visit = visits it sound spots are point marks

  abbrev take_ : PositionEdge × ℕ → ℤ
  take_ = takes it sound spots are point marks

  forward : (from to : ℕ) → HasEdge it.flow.edges from to → from < to
  forward from to there = (leads_on it sound spots are from to there).0

  taken_is : (edge : PositionEdge × ℕ) → Contains (edge_vars it spots) edge → (take_ edge ≡ pos 1) ↔ Steps path edge.0.from.0 edge.0.to.0
  taken_is edge there = All-contains (λ (edge : PositionEdge × ℕ). (take_ edge ≡ pos 1) ↔ Steps path edge.0.from.0 edge.0.to.0) (edge_vars it spots) edge is.taken there

  edge_low : (edge : PositionEdge × ℕ) → Contains (edge_vars it spots) edge → (edge.0.from.0 < length it.flow.order) × (edge.0.to.0 < length it.flow.order)
  edge_low edge there = let ends = leads_on it sound spots are edge.0.from.0 edge.0.to.0 (edge_of it sound spots are edge there) in (omega (arith, ends.0, ends.1), ends.1)

  -- the edge of a step, with its variable, is 1
  step_edge : (from to : ℕ) → Steps path from to → (edge : PositionEdge × ℕ) × Contains (edge_vars it spots) edge × (edge.0.from.0 ≡ from) × (edge.0.to.0 ≡ to) × (take_ edge ≡ pos 1)
  step_edge from to steps =
      let has = step_has it.flow.edges forward 0 rest is.is_path.1 from to steps in
      let (var, there) = var_of it sound spots are from to has in
      let edge : PositionEdge × ℕ = (record { from = record { 0 = from }; to = record { 0 = to } }, var) in
      (edge, there, refl, refl, (taken_is edge there).1 steps)

  same_edge : (edge other : PositionEdge × ℕ) → Contains (edge_vars it spots) edge → Contains (edge_vars it spots) other → edge.0.from.0 ≡ other.0.from.0 → edge.0.to.0 ≡ other.0.to.0 → edge ≡ other
  same_edge edge other there other_there from to =
      let ends : edge.0 ≡ other.0 = λ i. record { from = record { 0 = from i }; to = record { 0 = to i } } in
      single it sound spots are edge other there other_there ends

  marked : (p : PositionEdge × ℕ → Bool) → AreMarked take_ (filter p (edge_vars it spots))
  marked p edge there = take_marks it sound spots are point marks edge (member_of p (edge_vars it spots) edge there)

  apart : (p : PositionEdge × ℕ → Bool) → AreApart (filter p (edge_vars it spots))
  apart p = apart_kept p (edge_vars it spots) (apart_pairs (map position_edge it.flow.edges) spots.edges.items (edges_apart it sound spots are))

  same_number : (a b : ℕ) → eqb a b ≡ true → a ≡ b
  same_number a b = (Decides-eqb a b).0

  -- none is taken into a block that isn't visited, or out of it
  in_none : (at : ℕ) → at < length it.flow.order → visit at ≡ pos 0 → int_sum_by take_ (filter (enters at) (edge_vars it spots)) ≡ pos 0
  in_none at low off =
      sum_none take_ (filter (enters at) (edge_vars it spots))
      (λ edge there.
      let among = member_of (enters at) (edge_vars it spots) edge there in
      let to = same_number edge.0.to.0 at (passes_of (enters at) (edge_vars it spots) edge there) in
      ⊎_elim (λ none. none)
      (λ one.
      let on = (is.visited at low).1 (subst (λ (n : ℕ). Contains path n) to (steps_to path edge.0.from.0 edge.0.to.0 ((taken_is edge among).0 one))) in
      absurd (omega (arith, ints, on, off)))
      (mark_cases (take_ edge) (marked (enters at) edge there)))

  out_none : (at : ℕ) → at < length it.flow.order → visit at ≡ pos 0 → int_sum_by take_ (filter (leaves at) (edge_vars it spots)) ≡ pos 0
  out_none at low off =
      sum_none take_ (filter (leaves at) (edge_vars it spots))
      (λ edge there.
      let among = member_of (leaves at) (edge_vars it spots) edge there in
      let from = same_number edge.0.from.0 at (passes_of (leaves at) (edge_vars it spots) edge there) in
      ⊎_elim (λ none. none)
      (λ one.
      let on = (is.visited at low).1 (subst (λ (n : ℕ). Contains path n) from (steps_from path edge.0.from.0 edge.0.to.0 ((taken_is edge among).0 one))) in
      absurd (omega (arith, ints, on, off)))
      (mark_cases (take_ edge) (marked (leaves at) edge there)))

  -- one is taken into a block that is visited
  in_one : (from at : ℕ) → Steps path from at → int_sum_by take_ (filter (enters at) (edge_vars it spots)) ≡ pos 1
  in_one from at steps =
      let (edge, there, from_is, to_is, one) = step_edge from at steps in
      sum_only take_ (filter (enters at) (edge_vars it spots)) edge (apart (enters at)) (marked (enters at))
      (record {
        there = kept (enters at) (edge_vars it spots) edge there ((Decides-eqb edge.0.to.0 at).1 to_is);
        one = one;
        only = λ other other_there other_one.
            let among = member_of (enters at) (edge_vars it spots) other other_there in
            let to = same_number other.0.to.0 at (passes_of (enters at) (edge_vars it spots) other other_there) in
            let other_steps : Steps path other.0.from.0 at = subst (λ (n : ℕ). Steps path other.0.from.0 n) to ((taken_is other among).0 other_one) in
            same_edge other edge among there (one_from it.flow.edges forward 0 rest is.is_path.1 other.0.from.0 from at other_steps steps ∙ sym from_is) (to ∙ sym to_is);
      })

  out_one : (at to : ℕ) → Steps path at to → int_sum_by take_ (filter (leaves at) (edge_vars it spots)) ≡ pos 1
  out_one at to steps =
      let (edge, there, from_is, to_is, one) = step_edge at to steps in
      sum_only take_ (filter (leaves at) (edge_vars it spots)) edge (apart (leaves at)) (marked (leaves at))
      (record {
        there = kept (leaves at) (edge_vars it spots) edge there ((Decides-eqb edge.0.from.0 at).1 from_is);
        one = one;
        only = λ other other_there other_one.
            let among = member_of (leaves at) (edge_vars it spots) other other_there in
            let from = same_number other.0.from.0 at (passes_of (leaves at) (edge_vars it spots) other other_there) in
            let other_steps : Steps path at other.0.to.0 = subst (λ (n : ℕ). Steps path n other.0.to.0) from ((taken_is other among).0 other_one) in
            same_edge other edge among there (from ∙ sym from_is) (one_to it.flow.edges forward 0 rest is.is_path.1 at other.0.to.0 to other_steps steps ∙ sym to_is);
      })

  -- a block of the path that is left by an edge isn't the last
  goes_further : (first : ℕ) (others : List ℕ) → EndsThere it (first ∷ others) → (at : ℕ) → Contains (first ∷ others) at → goes it sound spots are point marks at ≡ true → (to : ℕ) × Steps (first ∷ others) at to
  goes_further first [] ends at there on = ⊎_elim (λ same. absurd (true≢false (sym on ∙ ap (goes it sound spots are point marks) (sym same) ∙ ends))) (λ none. absurd (no_item at none)) (cons_cases first [] at there)
  goes_further first (next ∷ others) ends at there on =
      ⊎_elim (λ same. (next, inl (same, refl))) (λ later. let found = goes_further next others ends at later on in (found.0, inr found.1)) (cons_cases first (next ∷ others) at there)

  -- ---- the flow rows are 0

  row_zero : (at : ℕ) (edges : List (PositionEdge × ℕ)) → int_sum_by take_ edges ≡ visit at → row_value (flow_row (block_var spots at) edges) point ≡ pos 0
  row_zero at edges same = omega (arith, ints, flow_value point (block_var spots at) edges, same)

  in_zero : (at : ℕ) → 0 < at → at < length it.flow.order → row_value (in_row it spots at) point ≡ pos 0
  in_zero at high low =
      row_zero at (filter (enters at) (edge_vars it spots))
      (⊎_elim (λ off. in_none at low off ∙ sym off)
      (λ on.
      let there = (is.visited at low).0 on in
      let behind : Contains rest at = ⊎_elim (λ same. absurd (omega (arith, high, same))) (λ later. later) (cons_cases 0 rest at there) in
      let came = stepped_to 0 rest at behind in
      in_one came.0 at came.1 ∙ sym on)
      (mark_cases (visit at) (visit_marks it sound spots are point marks at low)))

  out_zero : (at : ℕ) → at < length it.flow.order → goes it sound spots are point marks at ≡ true → row_value (out_row it spots at) point ≡ pos 0
  out_zero at low on =
      row_zero at (filter (leaves at) (edge_vars it spots))
      (⊎_elim (λ off. out_none at low off ∙ sym off)
      (λ one.
      let further = goes_further 0 rest is.ends at ((is.visited at low).0 one) on in
      out_one at further.0 further.1 ∙ sym one)
      (mark_cases (visit at) (visit_marks it sound spots are point marks at low)))

  each_zero : (row : List Part) → Contains (flow_rows it spots) row → row_value row point ≡ pos 0
  each_zero row there =
      ⊎_elim
      (λ into.
      let (at, counted_in, same) = map_in (in_row it spots) (range_with_len 1 (length it.flow.order - 1)) row into in
      let low = count_low 1 (length it.flow.order - 1) at counted_in in
      subst (λ (parts : List Part). row_value parts point ≡ pos 0) same (in_zero at (omega (arith, low.0)) (omega (arith, low.0, low.1))))
      (λ out.
      let (at, kept_in, same) = map_in (out_row it spots) (filter (goes it sound spots are point marks) (range_with_len 0 (length it.flow.order))) row out in
      let low = count_low 0 (length it.flow.order) at (member_of (goes it sound spots are point marks) (range_with_len 0 (length it.flow.order)) at kept_in) in
      let on = passes_of (goes it sound spots are point marks) (range_with_len 0 (length it.flow.order)) at kept_in in
      subst (λ (parts : List Part). row_value parts point ≡ pos 0) same (out_zero at (omega (arith, low.1)) on))
      (Contains-append_cases (in_rows it spots) (out_rows it spots) row there)

  flows_hold : Each Clause (flow_clauses (length (flow_rows it spots)))
  flows_hold =
      each_in Clause (λ (row : ℕ). equals row (pos 0)) (range_with_len 0 (length (flow_rows it spots)))
      (λ row there.
      let low = count_low 0 (length (flow_rows it spots)) row there in
      let within : row < length (flow_rows it spots) = omega (arith, low.1) in
      equals-true (flow_rows it spots) point row (pos 0) (each_zero (get_or (flow_rows it spots) row []) (Contains-get_or (flow_rows it spots) row [] within)))

  -- ---- blocks

  module _ (said : AreCasesSaid it spots point) (vals : Vals) (agree : AgreesOn it spots point vals (0 ∷ rest)) (args : List ℕ) (given : AgreesWith it spots point args) (returns : ReturnsOn it args vals (0 ∷ rest)) where
    abbrev case_list : ℕ → List ℕ
    case_list at = drop (cases_before it at) spots.cases.items

    cases_said : (at : ℕ) → at < length it.flow.order → Each (IsCaseSaid point (asked_var it spots (block_at it at).end)) (case_vars it spots at)
    cases_said at low = Each-from_All (IsCaseSaid point (asked_var it spots (block_at it at).end)) (case_vars it spots at) (said at low)

    by : (at : ℕ) → Contains path at → LeadsBy it args vals path at
    by = leads_by it args vals 0 rest returns.result returns.follow returns.ends

    -- the edge to the next block of the path is 1
    on_edge : (at next : ℕ) → at < length it.flow.order → Steps path at next → (label : List ℕ) → Contains (targets_of (block_at it at).end) label → label ≡ (block_at it next).label → pos 1 ≤ℤ number_at point (edge_to it spots at (place_with it.func label))
    on_edge at next low steps label named same =
        let found = target it sound spots are at low label named in
        let (edge, there, from_is, to_is, one) = step_edge at next steps in
        let next_low : next < length it.flow.order = omega (arith, (edge_low edge there).1, to_is) in
        let to : found.edge.0.to.0 ≡ next = one_block it sound found.edge.0.to.0 next (edge_low found.edge found.there).1 next_low (sym found.block ∙ same) in
        let same_one = same_edge found.edge edge found.there there (found.from ∙ sym from_is) (to ∙ sym to_is) in
        let taken_one : take_ found.edge ≡ pos 1 = ap take_ same_one ∙ one in
        subst (λ (var : ℕ). pos 1 ≤ℤ number_at point var) (sym found.var) (omega (arith, ints, taken_one))

    block_there : (at : ℕ) → at < length it.flow.order → Contains it.func.blocks (block_at it at)
    block_there at low = Contains-get_or it.func.blocks (place_at it at) no_block (place_low it sound at low)

    visited_holds : (at : ℕ) → at < length it.flow.order → Contains path at → Each Clause (block_clauses it spots at)
    visited_holds at low there =
        let block = block_at it at in
        let mine = agree at there in
        let leads = by at there in
        let both : (step : Step) → IsClean it args vals block step → Each Clause (end_clauses it spots at (case_vars it spots at) block.end) → Each Clause (block_clauses it spots at) = λ step clean ends.
        Each-append Clause (assumes_at it spots at block.body) (end_clauses it spots at (case_vars it spots at) block.end) (assumes_true it spots (flow_rows it spots) point vals (block_var spots at) block.body mine.assumes clean.assumes) ends in
        ⊎_elim
        (λ goes_there.
        let (next, steps, step) = goes_there in
        let clean = goes_clean it args vals block (block_at it next).label (leads.is ∙ ap Some step) in
        both (Goes (block_at it next).label) clean
        (goes_true it spots (flow_rows it spots) point vals at (block_at it next).label block.end (case_list at) mine.ends (cases_few it spots are at low) (none_repeated it.func sound.rules block (block_there at low)) (cases_said at low) clean.ends (on_edge at next low steps)))
        (λ stops.
        let clean = returns_clean it args vals block stops.0 (leads.is ∙ ap Some stops.1) in
        both (Returns stops.0) clean (returns_true it spots (flow_rows it spots) point vals at block.end (case_vars it spots at) stops.0 mine.ends clean.ends))
        leads.goal

    block_holds : (at : ℕ) → at < length it.flow.order → Each Clause (block_clauses it spots at)
    block_holds at low =
        ⊎_elim
        (λ zero.
        let off : number_at point (block_var spots at) ≤ℤ pos 0 = omega (arith, ints, zero) in
        Each-append Clause (assumes_at it spots at (block_at it at).body) (end_clauses it spots at (case_vars it spots at) (block_at it at).end)
        (assumes_off it spots (flow_rows it spots) point at off (block_at it at).body) (end_off it spots (flow_rows it spots) point at off (block_at it at).end (case_vars it spots at) (cases_said at low)))
        (λ one. visited_holds at low ((is.visited at low).0 one))
        (mark_cases (visit at) (visit_marks it sound spots are point marks at low))

    visits_hold : Each Clause (visit_clauses it spots)
    visits_hold = each_in Clause (block_clauses it spots) (range_with_len 0 (length it.flow.order)) (λ at there. block_holds at (omega (arith, (count_low 0 (length it.flow.order) at there).1)))

    free : has_poison_argument it.func args ≡ false
    free =
        let leads = by 0 (in_here 0 rest) in
        ⊎_elim (λ goes_there. (goes_clean it args vals (block_at it 0) (block_at it goes_there.0).label (leads.is ∙ ap Some goes_there.2)).barred) (λ stops. (returns_clean it args vals (block_at it 0) stops.0 (leads.is ∙ ap Some stops.1)).barred) leads.goal

    start_holds : Each Clause (start_clauses it spots)
    start_holds =
        let low : 0 < length it.flow.order = omega (arith, sound.flow.entry, sound.flow.flow.size) in
        let one = (is.visited 0 low).1 (in_here 0 rest) in
        ((inl (omega (arith, ints, one))), strict_true it spots (flow_rows it spots) point it.func.params args spots.values.items given.one_each (Each-from_All (IsGiven point) (zip (zip it.func.params args) spots.values.items) given.given) free)

    pub holds : Holds (path_layout it spots) point
    holds =
        all-true (IsTrueAt (flow_rows it spots) point) (path_layout it spots).clauses
        (Each-append Clause (start_clauses it spots) (flow_clauses (length (flow_rows it spots)) ++ visit_clauses it spots) start_holds
        (Each-append Clause (flow_clauses (length (flow_rows it spots))) (visit_clauses it spots) flows_hold visits_hold))

pub path_holds : (it : SoundFunc) → IsSound it → (spots : PathSpots) → AreSpotsOf it spots → (point : List ℤ) → AreMarks spots point → (path : List ℕ) → IsTaken it spots point path → AreCasesSaid it spots point → (args : List ℕ) (vals : Vals) → AgreesWith it spots point args → AgreesOn it spots point vals path → ReturnsOn it args vals path → Holds (path_layout it spots) point
path_holds it sound spots are point marks [] is said args vals given agree returns = absurd is.is_path
path_holds it sound spots are point marks (first ∷ rest) is said args vals given agree returns =
    let starts : first ≡ 0 = is.is_path.0 in
    let same : first ∷ rest ≡ 0 ∷ rest = ap (λ (n : ℕ). n ∷ rest) starts in
    holds it sound spots are point marks rest (subst (IsTaken it spots point) same is) said vals (subst (AgreesOn it spots point vals) same agree) args given (subst (ReturnsOn it args vals) same returns)
