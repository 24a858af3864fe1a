-- What each literal has of the clauses of the start and of blocks.
use Rattle.std.proofs.Common.{◌≡◌, ◌<◌, ◌≤◌, ◌+◌, ℕ, pos, ◌+ℤ◌, ◌-ℤ◌, eqb, ltb, Bool, true, false, List, [], ◌∷◌, ◌++◌, length, map, Option, Some, None, refl}
use Rattle.std.specs.Prelude.{flat_map, zip}
use Rattle.std.specs.List.{Contains, range_with_len}
use Rattle.std.proofs.lemmas.Bool.{cond_both}
use Rattle.mix_system.specs.declared.literal.Term.TheVariants.{Var}
use Rattle.mix_system.specs.declared.literal.Lit.{Lit}
use Rattle.ll_tree.specs.declared.func.Param.{Param}
use Rattle.ll_tree.specs.declared.func.Range.{Range}
use Rattle.ll_tree.specs.declared.block.Case.{Case}
use Rattle.ll_tree.specs.declared.block.Instr.{Instr}
use Rattle.ll_tree.specs.declared.block.End.{End}
use Rattle.ll_tree.specs.declared.block.End.TheVariants as end
use Rattle.ll_tree.specs.declared.op.Op.{Op}
use Rattle.ll_tree.specs.declared.op.Op.TheVariants.{Bin, Cmp, Cast, Select, Abs, Assume}
use Rattle.ll_verifier.specs.Sound.{SoundFunc}
use Rattle.ir_runs.proofs.MemberLaws.{in_here, in_there}
use Rattle.wrap_rows.specs.declared.vars.ValueVars.{ValueVars}
use Rattle.wrap_rows.specs.Layout.{at_most, at_least}
use Rattle.wrap_rows.proofs.CaseLaws.{Each}
use Rattle.wrap_rows.proofs.BlockLaws.{Each-append}
use Rattle.path_encoding.specs.declared.spots.PathSpots.{PathSpots}
use Rattle.path_encoding.specs.Spots.{operand_vars, block_at, block_var, place_with, edge_to, cases_of, case_vars}
use Rattle.path_encoding.specs.Ends.{is_off, is_on, assume_clauses, assumes_at, ranged_clauses, return_clauses, branch_clauses, each_case, default_clause, switch_clauses, end_clauses, block_clauses}
use Rattle.path_encoding.specs.PathLayout.{strict_clauses, start_clauses, visit_clauses}
use Rattle.path_encoding.proofs.MemberLaws.{first_in}

pub each_flat : {X Y : Type 0} (P : Y → Type 0) (f : X → List Y) (xs : List X) → ((x : X) → Contains xs x → Each P (f x)) → Each P (flat_map f xs)
each_flat P f [] each = tt
each_flat P f (x ∷ xs) each = Each-append P (f x) (flat_map f xs) (each x (in_here x xs)) (each_flat P f xs (λ y there. each y (in_there x y xs there)))

-- The bounds of ranged results and the numbers of cases are such.
pub record AreSaid (it : SoundFunc) (Said : ℕ → Type 0) : Type 0 where
  pub ranges : (range : Range) → it.func.ret_range ≡ Some range → Said range.lo × Said range.hi
  pub values : (at : ℕ) (case : Case) → Contains (cases_of (block_at it at).end) case → Said case.value

-- each literal has it whose bound is 0, 1, or such a number or one beside it
pub record HasLits (Said : ℕ → Type 0) (P : Lit → Type 0) : Type 0 where
  pub off : (var : ℕ) → P (is_off var)
  pub on : (var : ℕ) → P (is_on var)
  pub up_to : (var n : ℕ) → Said n → P (at_most (Var var) (pos n))
  pub from_on : (var n : ℕ) → Said n → P (at_least (Var var) (pos n))
  pub below : (var n : ℕ) → Said n → P (at_most (Var var) (pos n -ℤ pos 1))
  pub above : (var n : ℕ) → Said n → P (at_least (Var var) (pos n +ℤ pos 1))

module _ (it : SoundFunc) (spots : PathSpots) (Said : ℕ → Type 0) (P : Lit → Type 0) (has : HasLits Said P) where
  abbrev All_ : List (List Lit) → Type 0
  All_ clauses = Each (Each P) clauses

  strict_each : (given : Param × ValueVars) → All_ (strict_clauses given)
  strict_each given = cond_both given.0.strict _ [] All_ (λ _. ((has.off given.1.mark, tt), tt)) (λ _. tt)

  pub start_each : All_ (start_clauses it spots)
  start_each = ((has.on (block_var spots 0), tt), each_flat (Each P) strict_clauses (zip it.func.params spots.values.items) (λ given there. strict_each given))

  poison_each : (block : ℕ) (value : ValueVars) → Each P (is_off block ∷ is_off value.mark ∷ [])
  poison_each block value = (has.off block, (has.off value.mark, tt))

  assume_each : (block : ℕ) (op : Op) → All_ (assume_clauses it spots block op)
  assume_each block (Bin kind flags width left right) = tt
  assume_each block (Cmp pred flags width left right) = tt
  assume_each block (Cast kind flags from arg to) = tt
  assume_each block (Select width cond first second) = tt
  assume_each block (Abs width arg strict) = tt
  assume_each block (Assume cond) = (poison_each block (operand_vars it spots cond), ((has.off block, (has.on (operand_vars it spots cond).number, tt)), tt))

  branch_each : (same : Bool) (block number when_set when_clear : ℕ) → All_ (branch_clauses same block number when_set when_clear)
  branch_each true block number when_set when_clear = tt
  branch_each false block number when_set when_clear = ((has.off block, (has.off number, (has.on when_set, tt))), ((has.off block, (has.on number, (has.on when_clear, tt))), tt))

  case_each : (at number : ℕ) (case : Case × ℕ) → Said case.0.value → All_ (each_case it spots at number case)
  case_each at number case said =
      let edge = edge_to it spots at (place_with it.func case.0.to) in (
        (has.off case.1, (has.up_to number case.0.value said, tt)),
        ((has.off case.1, (has.from_on number case.0.value said, tt)), ((has.on case.1, (has.below number case.0.value said, (has.above number case.0.value said, tt))), ((has.off (block_var spots at), (has.off case.1, (has.on edge, tt))), tt))),
      )

  ons_each : (cases : List (Case × ℕ)) (edge : ℕ) → Each P (map (λ (case : Case × ℕ). is_on case.1) cases ++ is_on edge ∷ [])
  ons_each [] edge = (has.on edge, tt)
  ons_each (case ∷ cases) edge = (has.on case.1, ons_each cases edge)

  switch_each : (at : ℕ) (value : ValueVars) (default : List ℕ) (cases : List (Case × ℕ)) → ((case : Case × ℕ) → Contains cases case → Said case.0.value) → All_ (switch_clauses it spots at value default cases)
  switch_each at value default cases said =
      let last = edge_to it spots at (place_with it.func default) in (
        poison_each (block_var spots at) value,
        Each-append (Each P) (flat_map (each_case it spots at value.number) cases) (default_clause (block_var spots at) cases last ∷ []) (each_flat (Each P) (each_case it spots at value.number) cases (λ case there. case_each at value.number case (said case there)))
            ((has.off (block_var spots at), ons_each cases last), tt),
      )

  module _ (are : AreSaid it Said) where
    ranged_each : (block : ℕ) (value : ValueVars) (range : Option Range) → it.func.ret_range ≡ range → All_ (ranged_clauses block value range)
    ranged_each block value None is = tt
    ranged_each block value (Some range) is =
        let said = are.ranges range is in
        let low = has.from_on value.number range.lo said.0 in
        let high = has.below value.number range.hi said.1 in
        cond_both (ltb range.hi range.lo) _ _ All_ (λ _. ((has.off block, (low, (high, tt))), tt)) (λ _. ((has.off block, (low, tt)), ((has.off block, (high, tt)), tt)))

    return_each : (noundef : Bool) (block : ℕ) (value : ValueVars) → All_ (return_clauses noundef it.func.ret_range block value)
    return_each true block value = (poison_each block value, ranged_each block value it.func.ret_range refl)
    return_each false block value = tt

    end_each : (at : ℕ) (cases : List (Case × ℕ)) (terminator : End) → ((case : Case × ℕ) → Contains cases case → Said case.0.value) → All_ (end_clauses it spots at cases terminator)
    end_each at cases end.RetVoid said = tt
    end_each at cases (end.Ret width value) said = return_each it.func.ret_noundef (block_var spots at) (operand_vars it spots value)
    end_each at cases (end.Br to) said = tt
    end_each at cases (end.CondBr condition when_set when_clear) said =
        let value = operand_vars it spots condition in (
          poison_each (block_var spots at) value,
          branch_each (eqb (place_with it.func when_set) (place_with it.func when_clear)) (block_var spots at) value.number (edge_to it spots at (place_with it.func when_set)) (edge_to it spots at (place_with it.func when_clear)),
        )
    end_each at cases (end.Switch width value default written) said = switch_each at (operand_vars it spots value) default cases said
    end_each at cases end.Unreachable said = ((has.off (block_var spots at), tt), tt)

    block_each : (at : ℕ) → All_ (block_clauses it spots at)
    block_each at =
        Each-append (Each P) (assumes_at it spots at (block_at it at).body) (end_clauses it spots at (case_vars it spots at) (block_at it at).end)
        (each_flat (Each P) (λ (instr : Instr). assume_clauses it spots (block_var spots at) instr.op) (block_at it at).body (λ instr there. assume_each (block_var spots at) instr.op))
        (end_each at (case_vars it spots at) (block_at it at).end (λ case there. are.values at case.0 (first_in (cases_of (block_at it at).end) _ case there)))

    pub visits_each : All_ (visit_clauses it spots)
    visits_each = each_flat (Each P) (block_clauses it spots) (range_with_len 0 (length it.flow.order)) (λ at there. block_each at)
