-- Values lead along the path that a point takes, block by block.
use Rattle.std.proofs.Common.{◌≡◌, ◌<◌, ◌≤◌, ℕ, ℤ, pos, ◌≤ℤ◌, true, false, cond, List, [], ◌∷◌, length, drop, Some, sym, ◌∙◌, ap, subst, arith}
use Rattle.std.specs.Prelude.{zip}
use Rattle.std.specs.List.{Contains, range_with_len}
use Rattle.std.proofs.lemmas.Int.{ints}
use Rattle.mix_system.specs.Row.{number_at}
use Rattle.ll_tree.specs.declared.block.Block.{Block}
use Rattle.ll_rules.specs.Items.{targets_of}
use Rattle.ll_verifier.specs.declared.order.PositionEdge.{PositionEdge}
use Rattle.ll_verifier.specs.Sound.{SoundFunc, IsSound}
use Rattle.ir_runs.specs.Values.{Vals}
use Rattle.ir_runs.specs.Walk.{Goes as GoesTo, Returns, Fails, LeadOn, EndsWith, end_step, has_poison_argument, step_of}
use Rattle.ir_runs.specs.declared.ret_val.RetVal.{RetVal}
use Rattle.ir_runs.specs.declared.undefined.UndefinedCause.TheVariants as cause
use Rattle.ir_runs.proofs.MemberLaws.{in_here, in_there}
use Rattle.wrap_rows.specs.Layout.{Holds}
use Rattle.wrap_rows.proofs.CaseLaws.{Each, Each-from_All}
use Rattle.wrap_rows.proofs.BlockLaws.{Each-left, Each-right}
use Rattle.path_encoding.specs.declared.spots.PathSpots.{PathSpots}
use Rattle.path_encoding.specs.Spots.{block_at, block_var, edge_vars, case_vars, cases_before, AreSpotsOf}
use Rattle.path_encoding.specs.FlowRows.{flow_rows}
use Rattle.path_encoding.specs.Ends.{assumes_at, end_clauses, block_clauses}
use Rattle.path_encoding.specs.PathLayout.{path_layout}
use Rattle.path_encoding.specs.Paths.{IsTaken, AreMarks}
use Rattle.path_encoding.specs.Agree.{AgreesIn, AgreesOn, IsGiven, AgreesWith, blocks_on, ReturnsOn}
use Rattle.path_encoding.proofs.CountLaws.{cases_few}
use Rattle.path_encoding.proofs.GraphLaws.{counted}
use Rattle.path_encoding.proofs.LeadLaws.{IsNext, assumes_hold, leads_to, returns_there, none_barred}
use Rattle.path_encoding.proofs.OnePathLaws.{Takes, same_way, visits_to}
use Rattle.path_encoding.proofs.TakenLaws.{each_of, visits, takes, goes, take_marks, start_true, visits_true, Clause, flows, Goes, all_follow}
use Rattle.path_encoding.proofs.TargetLaws.{target, one_target, led_to}

module _ (it : SoundFunc) (sound : IsSound it) (spots : PathSpots) (are : AreSpotsOf it spots) (point : List ℤ) (marks : AreMarks spots point) (holds : Holds (path_layout it spots) point) where
  abbrev Mine : ℕ → List ℕ → Type 0
  Mine = Goes it sound spots are point marks holds

  abbrev Taken : PositionEdge × ℕ → Type 0
  Taken = Takes (edge_vars it spots) (length it.flow.order) (visits it sound spots are point marks) (takes it sound spots are point marks) (goes it sound spots are point marks) (flows it sound spots are point marks holds)

  clauses_at : (at : ℕ) → at < length it.flow.order → Each (Clause it sound spots are point marks holds) (block_clauses it spots at)
  clauses_at at low =
      each_of (Clause it sound spots are point marks holds) (block_clauses it spots) (range_with_len 0 (length it.flow.order)) (visits_true it sound spots are point marks holds) at (counted 0 (length it.flow.order) at (omega arith) (omega (arith, low)))

  -- the edge that is taken leads to the only target whose edge is 1
  next_is : (at : ℕ) → at < length it.flow.order → (on : pos 1 ≤ℤ number_at point (block_var spots at)) → (vals : Vals) → (edge : PositionEdge × ℕ) → Taken edge → edge.0.from.0 ≡ at → IsNext it spots (flow_rows it spots) point vals at on (targets_of (block_at it at).end) (block_at it edge.0.to.0).label
  next_is at low on vals edge taken from = record {
    named = subst (λ (n : ℕ). Contains (targets_of (block_at it n).end) (block_at it edge.0.to.0).label) from (led_to it sound spots are edge taken.0);
    only_one = λ label named high.
        let found = target it sound spots are at low label named in
        let above : pos 1 ≤ℤ number_at point found.edge.1 = subst (λ (var : ℕ). pos 1 ≤ℤ number_at point var) found.var high in
        let one : number_at point found.edge.1 ≡ pos 1 = omega (arith, ints, above, (take_marks it sound spots are point marks found.edge found.there).1) in
        let same = same_way (edge_vars it spots) (length it.flow.order) (visits it sound spots are point marks) (takes it sound spots are point marks) (goes it sound spots are point marks) (flows it sound spots are point marks holds) at found.edge edge (found.there, one) found.from taken from in
        found.block ∙ ap (λ (e : PositionEdge × ℕ). (block_at it e.0.to.0).label) same;
    one_place = one_target it sound spots are at low;
  }

  module _ (args : List ℕ) (vals : Vals) (given : AgreesWith it spots point args) where
    value_count : length it.func.params ≤ length spots.values.items
    value_count =
        are.params

    not_barred : has_poison_argument it.func args ≡ false
    not_barred =
        none_barred it spots (flow_rows it spots) point vals it.func.params args spots.values.items given.one_each value_count
        (start_true it sound spots are point marks holds).1 (Each-from_All (IsGiven point) (zip (zip it.func.params args) spots.values.items) given.given)

    step_is : (at : ℕ) → at < length it.flow.order → pos 1 ≤ℤ number_at point (block_var spots at) → AgreesIn it spots point vals (block_at it at) → step_of it.func args vals (block_at it at) ≡ end_step it.func vals (block_at it at).end
    step_is at low on agree =
        let block = block_at it at in
        let assumes = assumes_hold it spots (flow_rows it spots) point vals (block_var spots at) block.body on agree.assumes (Each-left (Clause it sound spots are point marks holds) (assumes_at it spots at block.body) (end_clauses it spots at (case_vars it spots at) block.end) (clauses_at at low)) in
        λ i. cond (not_barred i) (Some (Fails cause.PoisonArgument)) (cond (assumes i) (end_step it.func vals block.end) (Some (Fails cause.FalseAssume)))

    ends_at : (at : ℕ) → at < length it.flow.order → Each (Clause it sound spots are point marks holds) (end_clauses it spots at (case_vars it spots at) (block_at it at).end)
    ends_at at low = Each-right (Clause it sound spots are point marks holds) (assumes_at it spots at (block_at it at).body) (end_clauses it spots at (case_vars it spots at) (block_at it at).end) (clauses_at at low)

    leads_at : (at : ℕ) (edge : PositionEdge × ℕ) → at < length it.flow.order → visits it sound spots are point marks at ≡ pos 1 → AgreesIn it spots point vals (block_at it at) → Taken edge → edge.0.from.0 ≡ at
        → step_of it.func args vals (block_at it at) ≡ Some (GoesTo (block_at it edge.0.to.0).label)
    leads_at at edge low one agree taken from =
        let on : pos 1 ≤ℤ number_at point (block_var spots at) = omega (arith, ints, one) in
        let forward = (flows it sound spots are point marks holds).forward edge taken.0 in
        let goes_there : goes it sound spots are point marks at ≡ true = subst (λ (n : ℕ). goes it sound spots are point marks n ≡ true) from forward.2 in
        step_is at low on agree
        ∙ leads_to it spots (flow_rows it spots) point vals at on (block_at it at).end (block_at it edge.0.to.0).label (case_list at) goes_there (next_is at low on vals edge taken from) agree.ends (cases_few it spots are at low) (ends_at at low)
      where
        case_list : ℕ → List ℕ
        case_list at = drop (cases_before it at) spots.cases.items

    abbrev Ends : List Block → Type 0
    Ends blocks = (result : RetVal) × EndsWith it.func args vals blocks (Returns result)

    along : (at : ℕ) (rest : List ℕ) → Mine at rest → at < length it.flow.order → visits it sound spots are point marks at ≡ pos 1 → ((other : ℕ) → Contains (at ∷ rest) other → AgreesIn it spots point vals (block_at it other))
        → LeadOn it.func args vals (blocks_on it (at ∷ rest)) × Ends (blocks_on it (at ∷ rest))
    along at [] stays low one agree =
        let on : pos 1 ≤ℤ number_at point (block_var spots at) = omega (arith, ints, one) in
        let here = agree at (in_here at []) in
        let found = returns_there it spots (flow_rows it spots) point vals at on (block_at it at).end (case_vars it spots at) stays here.ends (ends_at at low) in
        (tt, (found.0, step_is at low on here ∙ found.1))
    along at (next ∷ rest) ((edge, taken, from, to), later) low one agree =
        let ends = (flows it sound spots are point marks holds).forward edge taken.0 in
        let next_low : next < length it.flow.order = omega (arith, ends.1, to) in
        let next_one : visits it sound spots are point marks next ≡ pos 1 = subst (λ (n : ℕ). visits it sound spots are point marks n ≡ pos 1) to (visits_to (edge_vars it spots) (length it.flow.order) (visits it sound spots are point marks) (takes it sound spots are point marks) (goes it sound spots are point marks) (flows it sound spots are point marks holds) edge taken) in
        let behind = along next rest later next_low next_one (λ other there. agree other (in_there at other (next ∷ rest) there)) in
        let here = leads_at at edge low one (agree at (in_here at (next ∷ rest))) taken from in
        ((here ∙ ap (λ (n : ℕ). Some (GoesTo (block_at it n).label)) to, behind.0), behind.1)

    pub returns_on : (path : List ℕ) → IsTaken it spots point path → AgreesOn it spots point vals path → ReturnsOn it args vals path
    returns_on path is agree =
        let (rest, follows, same) = all_follow it sound spots are point marks holds path is in
        let flows_there = flows it sound spots are point marks holds in
        let found = along 0 rest follows flows_there.some flows_there.entry (λ other there. agree other (subst (λ (list : List ℕ). Contains list other) (sym same) there)) in
        subst (ReturnsOn it args vals) (sym same) (record { follow = found.0; result = found.1.0; ends = found.1.1 })
