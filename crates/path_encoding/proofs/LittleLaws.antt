-- What paths lay is little, and its numbers are small.
use Rattle.std.proofs.Common.{◌≡◌, ◌<◌, ◌≤◌, ◌+◌, ◌-◌, ◌*◌, ◌^◌, ℕ, pos, eqb, ltb, Bool, true, false, List, [], ◌∷◌, ◌++◌, length, length-append, drop, map, Option, Some, None, refl, sym, subst, arith}
use Rattle.std.specs.Prelude.{flat_map, zip, sum_by}
use Rattle.std.specs.List.{All, Contains, filter, range_with_len}
use Rattle.std.proofs.lemmas.Bool.{cond_both}
use Rattle.std.proofs.lemmas.List.{length-map}
use Rattle.std.proofs.lemmas.List.Elements.{All-contains, All-nil}
use Rattle.std.proofs.lemmas.List.FromFn.{length-range_with_len}
use Rattle.std.proofs.lemmas.List.Sums.{sum_by-cons}
use Rattle.std.proofs.lemmas.Slice.Zip.{length-zip}
use Rattle.mix_system.specs.declared.literal.Side.TheVariants.{Le, Ge}
use Rattle.mix_system.specs.declared.literal.Lit.{Lit}
use Rattle.mix_system.specs.declared.row.Part.{Part}
use Rattle.ll_tree.specs.declared.func.Param.{Param}
use Rattle.ll_tree.specs.declared.func.Range.{Range}
use Rattle.ll_tree.specs.declared.func.Ret.{Ret}
use Rattle.ll_tree.specs.declared.func.Ret.TheVariants.{Void, Int}
use Rattle.ll_tree.specs.declared.block.Block.{Block}
use Rattle.ll_tree.specs.declared.block.Case.{Case}
use Rattle.ll_tree.specs.declared.block.Instr.{Instr}
use Rattle.ll_tree.specs.declared.block.End.{End}
use Rattle.ll_tree.specs.declared.block.End.TheVariants as end
use Rattle.ll_tree.specs.declared.op.Op.{Op}
use Rattle.ll_tree.specs.declared.op.Op.TheVariants.{Bin, Cmp, Cast, Select, Abs, Assume}
use Rattle.ll_tree.specs.Formed.{IsFormedRet, IsFormedCase, IsFormedEnd, IsFormedPhi, IsFormedInstr, IsFormedBlock}
use Rattle.ll_rules.specs.Limits.{count_values, count_cases, end_cases}
use Rattle.ll_flow.proofs.PlaceLaws.{no_item}
use Rattle.ll_verifier.specs.declared.order.PositionEdge.{PositionEdge}
use Rattle.ll_verifier.specs.Order.{position_edge}
use Rattle.ll_verifier.specs.Sound.{SoundFunc, IsSound}
use Rattle.portion_cuts.specs.Paths.{place_at}
use Rattle.wrap_rows.specs.declared.vars.ValueVars.{ValueVars}
use Rattle.wrap_rows.specs.Small.{IsShort, IsSmall}
use Rattle.wrap_rows.specs.Blocks.{equals}
use Rattle.wrap_rows.proofs.CaseLaws.{Each, Each-from_All}
use Rattle.wrap_rows.proofs.BlockLaws.{Each-append}
use Rattle.wrap_rows.proofs.SmallLaws.{IsLight, small-from, equation-short, negated_size, power_small}
use Rattle.path_encoding.specs.declared.spots.PathSpots.{PathSpots}
use Rattle.path_encoding.specs.Spots.{no_block, block_at, operand_vars, block_var, edge_vars, case_vars, cases_of, cases_before, place_with, edge_to}
use Rattle.path_encoding.specs.FlowRows.{enters, leaves, flow_row, in_row, out_row, goes_on, in_rows, out_rows, flow_rows}
use Rattle.path_encoding.specs.Ends.{assume_clauses, assumes_at, ranged_clauses, return_clauses, branch_clauses, each_case, default_clause, switch_clauses, end_clauses, block_clauses}
use Rattle.path_encoding.specs.PathLayout.{strict_clauses, start_clauses, flow_clauses, visit_clauses, path_layout}
use Rattle.path_encoding.proofs.FlowLaws.{flow_sizes, filter_few, in_count, kept_count, flow_count}
use Rattle.path_encoding.proofs.KnownLaws.{get_or_holds}
use Rattle.path_encoding.proofs.LitLaws.{AreSaid, HasLits, each_flat, start_each, visits_each}
use Rattle.path_encoding.proofs.OrderSums.{blocks_sum}

-- ---- rows

each_map : {X Y : Type 0} (P : Y → Type 0) (f : X → Y) (xs : List X) → ((x : X) → P (f x)) → Each P (map f xs)
each_map P f [] each = tt
each_map P f (x ∷ xs) each = (each x, each_map P f xs each)

module _ (it : SoundFunc) (spots : PathSpots) where
  row_light : (block : ℕ) (p : PositionEdge × ℕ → Bool) → IsLight (flow_row block (filter p (edge_vars it spots)))
  row_light block p =
      let some = filter p (edge_vars it spots) in
      omega (arith, flow_sizes block some, flow_length block some, filter_few p (edge_vars it spots), length-zip (map position_edge it.flow.edges) spots.edges.items, spots.edges.ok.0)
    where
      flow_length : (block : ℕ) (edges : List (PositionEdge × ℕ)) → length (flow_row block edges) ≡ length edges + 1
      flow_length block [] = refl
      flow_length block (edge ∷ edges) = omega (arith, flow_length block edges)

  rows_light : Each IsLight (flow_rows it spots)
  rows_light =
      Each-append IsLight (in_rows it spots) (out_rows it spots)
      (each_map IsLight (in_row it spots) (range_with_len 1 (length it.flow.order - 1)) (λ at. row_light (block_var spots at) (enters at)))
      (each_map IsLight (out_row it spots) (filter (λ at. goes_on (block_at it at).end) (range_with_len 0 (length it.flow.order))) (λ at. row_light (block_var spots at) (leaves at)))

  pub few_rows : length (flow_rows it spots) ≤ 2 * length it.flow.order
  few_rows = omega (arith, length-append (in_rows it spots) (out_rows it spots), in_count it spots, kept_count (λ at. goes_on (block_at it at).end) (out_row it spots) (length it.flow.order))

-- ---- bounds

-- a number of 32 bits
abbrev Fits : ℕ → Type 0
Fits n = n < 2 ^ 32

lits_short : HasLits Fits IsShort
lits_short = record {
  off = λ var. omega arith;
  on = λ var. omega arith;
  up_to = λ var n said. omega (arith, said);
  from_on = λ var n said. omega (arith, said);
  below = λ var n said. omega (arith, said, negated_size Ge (pos n));
  above = λ var n said. omega (arith, said, negated_size Le (pos n));
}

range_fits : (ret : Ret) (range : Range) → IsFormedRet ret (Some range) → Fits range.lo × Fits range.hi
range_fits Void range formed = absurd (cc formed)
range_fits (Int width) range formed =
    let most = power_small width formed.0.1 in
    (omega (arith, most, formed.1.0), omega (arith, most, formed.1.1))

value_fits : (terminator : End) → IsFormedEnd terminator → (case : Case) → Contains (cases_of terminator) case → Fits case.value
value_fits end.RetVoid formed case there = absurd (no_item case there)
value_fits (end.Ret width value) formed case there = absurd (no_item case there)
value_fits (end.Br to) formed case there = absurd (no_item case there)
value_fits (end.CondBr condition when_set when_clear) formed case there = absurd (no_item case there)
value_fits (end.Switch width value default cases) formed case there =
    let is = All-contains IsFormedCase cases case formed.2 there in
    omega (arith, power_small case.width is.0.1, is.1)
value_fits end.Unreachable formed case there = absurd (no_item case there)

no_block_formed : IsFormedBlock no_block
no_block_formed = record { phis = All-nil IsFormedPhi; body = All-nil IsFormedInstr; ends = tt }

all_fit : (it : SoundFunc) → IsSound it → AreSaid it Fits
all_fit it sound = record {
  ranges = λ range is. range_fits it.func.ret range (subst (IsFormedRet it.func.ret) is sound.rules.formed.ret);
  values = λ at case there.
      let formed = get_or_holds IsFormedBlock it.func.blocks (place_at it at) no_block (Each-from_All IsFormedBlock it.func.blocks sound.rules.formed.blocks) no_block_formed in
      value_fits (block_at it at).end formed.ends case there;
}

pub layout_small : (it : SoundFunc) → IsSound it → (spots : PathSpots) → IsSmall (path_layout it spots)
layout_small it sound spots =
    let flows = flow_clauses (length (flow_rows it spots)) in
    let visits = visit_clauses it spots in
    small-from (path_layout it spots) (rows_light it spots)
    (Each-append (Each IsShort) (start_clauses it spots) (flows ++ visits) (start_each it spots Fits IsShort lits_short)
    (Each-append (Each IsShort) flows visits (each_flat (Each IsShort) (λ row. equals row (pos 0)) (range_with_len 0 (length (flow_rows it spots))) (λ row there. equation-short row)) (visits_each it spots Fits IsShort lits_short (all_fit it sound))))

-- ---- how many clauses

strict_count : (given : List (Param × ValueVars)) → length (flat_map strict_clauses given) ≤ length given
strict_count [] = omega arith
strict_count (first ∷ given) =
    let here : length (strict_clauses first) ≤ 1 = cond_both first.0.strict _ [] (λ (clauses : List (List Lit)). length clauses ≤ 1) (λ _. omega arith) (λ _. omega arith) in
    omega (arith, here, strict_count given, length-append (strict_clauses first) (flat_map strict_clauses given))

same_cases : (terminator : End) → length (cases_of terminator) ≡ end_cases terminator
same_cases end.RetVoid = refl
same_cases (end.Ret width value) = refl
same_cases (end.Br to) = refl
same_cases (end.CondBr condition when_set when_clear) = refl
same_cases (end.Switch width value default cases) = refl
same_cases end.Unreachable = refl

-- the cases by positions are those of the function
pub few_cases : (it : SoundFunc) → IsSound it → cases_before it (length it.flow.order) ≤ count_cases it.func
few_cases it sound =
    let some = blocks_sum (λ (block : Block). length (cases_of block.end)) refl it sound in
    let same : sum_by (λ (block : Block). length (cases_of block.end)) it.func.blocks ≡ count_cases it.func = λ i. sum_by (λ (block : Block). same_cases block.end i) it.func.blocks in
    omega (arith, some, same)

module _ (it : SoundFunc) (spots : PathSpots) where
  start_count : length (start_clauses it spots) ≤ 1 + length it.func.params
  start_count = omega (arith, strict_count (zip it.func.params spots.values.items), length-zip it.func.params spots.values.items)

  assume_count : (block : ℕ) (op : Op) → length (assume_clauses it spots block op) ≤ 2
  assume_count block (Bin kind flags width left right) = omega arith
  assume_count block (Cmp pred flags width left right) = omega arith
  assume_count block (Cast kind flags from arg to) = omega arith
  assume_count block (Select width cond first second) = omega arith
  assume_count block (Abs width arg strict) = omega arith
  assume_count block (Assume cond) = omega arith

  assumes_count : (at : ℕ) (body : List Instr) → length (assumes_at it spots at body) ≤ 2 * length body
  assumes_count at [] = omega arith
  assumes_count at (instr ∷ body) =
      omega (arith, assume_count (block_var spots at) instr.op, assumes_count at body, length-append (assume_clauses it spots (block_var spots at) instr.op) (assumes_at it spots at body))

  ranged_count : (block : ℕ) (value : ValueVars) (range : Option Range) → length (ranged_clauses block value range) ≤ 2
  ranged_count block value None = omega arith
  ranged_count block value (Some range) = cond_both (ltb range.hi range.lo) _ _ (λ (clauses : List (List Lit)). length clauses ≤ 2) (λ _. omega arith) (λ _. omega arith)

  return_count : (noundef : Bool) (range : Option Range) (block : ℕ) (value : ValueVars) → length (return_clauses noundef range block value) ≤ 3
  return_count true range block value = omega (arith, ranged_count block value range)
  return_count false range block value = omega arith

  branch_count : (same : Bool) (block number when_set when_clear : ℕ) → length (branch_clauses same block number when_set when_clear) ≤ 2
  branch_count true block number when_set when_clear = omega arith
  branch_count false block number when_set when_clear = omega arith

  cases_count : (at number : ℕ) (cases : List (Case × ℕ)) → length (flat_map (each_case it spots at number) cases) ≡ 4 * length cases
  cases_count at number [] = refl
  cases_count at number (case ∷ cases) = omega (arith, cases_count at number cases)

  end_count : (at : ℕ) (cases : List (Case × ℕ)) (terminator : End) → length (end_clauses it spots at cases terminator) ≤ 3 + 4 * length cases
  end_count at cases end.RetVoid = omega arith
  end_count at cases (end.Ret width value) = omega (arith, return_count it.func.ret_noundef it.func.ret_range (block_var spots at) (operand_vars it spots value))
  end_count at cases (end.Br to) = omega arith
  end_count at cases (end.CondBr condition when_set when_clear) =
      omega (
        arith,
        branch_count (eqb (place_with it.func when_set) (place_with it.func when_clear)) (block_var spots at) (operand_vars it spots condition).number (edge_to it spots at (place_with it.func when_set)) (edge_to it spots at (place_with it.func when_clear)),
      )
  end_count at cases (end.Switch width value default written) =
      let laid = flat_map (each_case it spots at (operand_vars it spots value).number) cases in
      omega (arith, cases_count at (operand_vars it spots value).number cases, length-append laid (default_clause (block_var spots at) cases (edge_to it spots at (place_with it.func default)) ∷ []))
  end_count at cases end.Unreachable = omega arith

  -- phis and instructions of a block, and its cases
  abbrev items_in : Block → ℕ
  items_in block = length block.phis + length block.body

  abbrev cases_in : Block → ℕ
  cases_in block = end_cases block.end

  block_count : (at : ℕ) → length (block_clauses it spots at) ≤ 3 + 2 * items_in (block_at it at) + 4 * cases_in (block_at it at)
  block_count at =
      let block = block_at it at in
      let cases = case_vars it spots at in
      omega (
        arith,
        length-append (assumes_at it spots at block.body) (end_clauses it spots at cases block.end),
        assumes_count at block.body,
        end_count at cases block.end,
        length-zip (cases_of block.end) (drop (cases_before it at) spots.cases.items),
        same_cases block.end,
      )

  visits_count : (positions : List ℕ) → length (flat_map (block_clauses it spots) positions) ≤ 3 * length positions + 2 * sum_by (λ at. items_in (block_at it at)) positions + 4 * sum_by (λ at. cases_in (block_at it at)) positions
  visits_count [] = omega arith
  visits_count (at ∷ positions) =
      omega (
        arith,
        block_count at,
        visits_count positions,
        length-append (block_clauses it spots at) (flat_map (block_clauses it spots) positions),
        sum_by-cons (λ at. items_in (block_at it at)) at positions,
        sum_by-cons (λ at. cases_in (block_at it at)) at positions,
      )

  pub few_clauses : IsSound it → length (path_layout it spots).clauses ≤ 1 + length it.func.params + 7 * length it.func.blocks + 2 * count_values it.func + 4 * count_cases it.func
  few_clauses sound =
      let flows = flow_clauses (length (flow_rows it spots)) in
      let visits = visit_clauses it spots in
      omega (
        arith,
        length-append (start_clauses it spots) (flows ++ visits),
        length-append flows visits,
        start_count,
        flow_count (length (flow_rows it spots)),
        few_rows it spots,
        visits_count (range_with_len 0 (length it.flow.order)),
        length-range_with_len 0 (length it.flow.order),
        blocks_sum items_in refl it sound,
        blocks_sum cases_in refl it sound,
        sound.flow.flow.size,
      )
