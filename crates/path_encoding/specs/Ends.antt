-- The clauses of a block: where it is visited, its assumes hold and it is left as its terminator says (LLVM Language Reference, "Terminator Instructions").
use Rattle.std.specs.Prelude.{◌==◌, ◌++◌, ℕ, pos, ◌+ℤ◌, ◌-ℤ◌, Bool, true, false, nat_lt, if◌then◌else◌, Option, Some, None, List, [], ◌∷◌, map, flat_map}
use Rattle.mix_system.specs.declared.literal.Term.TheVariants.{Var}
use Rattle.mix_system.specs.declared.literal.Lit.{Lit}
use Rattle.ll_tree.specs.declared.func.Range.{Range}
use Rattle.ll_tree.specs.declared.block.Case.{Case}
use Rattle.ll_tree.specs.declared.block.Instr.{Instr}
use Rattle.ll_tree.specs.declared.block.End.{End}
use Rattle.ll_tree.specs.declared.block.End.TheVariants as end
use Rattle.ll_tree.specs.declared.op.Op.{Op}
use Rattle.ll_tree.specs.declared.op.Op.TheVariants.{Bin, Cmp, Cast, Select, Abs, Assume}
use Rattle.ll_verifier.specs.Sound.{SoundFunc}
use Rattle.wrap_rows.specs.declared.vars.ValueVars.{ValueVars}
use Rattle.wrap_rows.specs.Layout.{at_most, at_least}
use Rattle.path_encoding.specs.declared.spots.PathSpots.{PathSpots}
use Rattle.path_encoding.specs.Spots.{operand_vars, block_at, block_var, place_with, edge_to, case_vars}

-- the variable is 0, and it is 1
abbrev pub is_off : ℕ → Lit
is_off var = at_most (Var var) (pos 0)

abbrev pub is_on : ℕ → Lit
is_on var = at_least (Var var) (pos 1)

-- where the block is visited, the value isn't poison
abbrev pub not_poison : ℕ → ValueVars → List Lit
not_poison block value = is_off block ∷ is_off value.mark ∷ []

-- ---- assumes

abbrev pub assumed : ℕ → ValueVars → List (List Lit)
assumed block value = not_poison block value ∷ (is_off block ∷ is_on value.number ∷ []) ∷ []

abbrev pub assume_clauses : SoundFunc → PathSpots → ℕ → Op → List (List Lit)
assume_clauses it spots block (Bin kind flags width left right) = []
assume_clauses it spots block (Cmp pred flags width left right) = []
assume_clauses it spots block (Cast kind flags from arg to) = []
assume_clauses it spots block (Select width cond first second) = []
assume_clauses it spots block (Abs width arg strict) = []
assume_clauses it spots block (Assume cond) = assumed block (operand_vars it spots cond)

-- ---- returns

-- the number lies in the range of the result
abbrev pub ranged_clauses : ℕ → ValueVars → Option Range → List (List Lit)
ranged_clauses block value None = []
ranged_clauses block value (Some range) =
    if nat_lt range.hi range.lo then ((is_off block ∷ at_least (Var value.number) (pos range.lo) ∷ at_most (Var value.number) (pos range.hi -ℤ pos 1) ∷ []) ∷ [])
    else ((is_off block ∷ at_least (Var value.number) (pos range.lo) ∷ []) ∷ (is_off block ∷ at_most (Var value.number) (pos range.hi -ℤ pos 1) ∷ []) ∷ [])

-- a `noundef` result isn't poison, and so lies in its range
abbrev pub return_clauses : Bool → Option Range → ℕ → ValueVars → List (List Lit)
return_clauses true range block value = not_poison block value ∷ ranged_clauses block value range
return_clauses false range block value = []

-- ---- branches

-- on 1 by the first edge, on 0 by the second; where both targets are one block, nothing is asked of the number
abbrev pub branch_clauses : (same : Bool) → (block number : ℕ) → (when_set when_clear : ℕ) → List (List Lit)
branch_clauses true block number when_set when_clear = []
branch_clauses false block number when_set when_clear = (is_off block ∷ is_off number ∷ is_on when_set ∷ []) ∷ (is_off block ∷ is_on number ∷ is_on when_clear ∷ []) ∷ []

-- of a block that is left for the blocks at these places
abbrev pub fork_clauses : SoundFunc → PathSpots → ℕ → ValueVars → (when_set when_clear : ℕ) → List (List Lit)
fork_clauses it spots at value when_set when_clear =
    not_poison (block_var spots at) value ∷ branch_clauses (when_set == when_clear) (block_var spots at) value.number (edge_to it spots at when_set) (edge_to it spots at when_clear)

-- ---- switches

-- the case's variable is 1 exactly where the number is that of the case, and then the edge is taken to its target
abbrev pub case_clauses : (block number : ℕ) → (value var edge : ℕ) → List (List Lit)
case_clauses block number value var edge =
    (is_off var ∷ at_most (Var number) (pos value) ∷ [])
    ∷ (is_off var ∷ at_least (Var number) (pos value) ∷ [])
    ∷ (is_on var ∷ at_most (Var number) (pos value -ℤ pos 1) ∷ at_least (Var number) (pos value +ℤ pos 1) ∷ [])
    ∷ (is_off block ∷ is_off var ∷ is_on edge ∷ [])
    ∷ []

-- some case is 1, or the edge is taken to the default
abbrev pub default_clause : ℕ → List (Case × ℕ) → ℕ → List Lit
default_clause block cases edge = is_off block ∷ (map (λ case. is_on case.1) cases ++ is_on edge ∷ [])

abbrev pub each_case : SoundFunc → PathSpots → ℕ → ℕ → Case × ℕ → List (List Lit)
each_case it spots at number case = case_clauses (block_var spots at) number case.0.value case.1 (edge_to it spots at (place_with it.func case.0.to))

abbrev pub switch_clauses : SoundFunc → PathSpots → ℕ → ValueVars → List ℕ → List (Case × ℕ) → List (List Lit)
switch_clauses it spots at value default cases =
    not_poison (block_var spots at) value
    ∷ (flat_map (each_case it spots at value.number) cases ++ default_clause (block_var spots at) cases (edge_to it spots at (place_with it.func default)) ∷ [])

-- ---- terminators

abbrev pub end_clauses : SoundFunc → PathSpots → ℕ → List (Case × ℕ) → End → List (List Lit)
end_clauses it spots at cases end.RetVoid = []
end_clauses it spots at cases (end.Ret width value) = return_clauses it.func.ret_noundef it.func.ret_range (block_var spots at) (operand_vars it spots value)
end_clauses it spots at cases (end.Br to) = []
end_clauses it spots at cases (end.CondBr cond when_set when_clear) = fork_clauses it spots at (operand_vars it spots cond) (place_with it.func when_set) (place_with it.func when_clear)
end_clauses it spots at cases (end.Switch width value default written) = switch_clauses it spots at (operand_vars it spots value) default cases
end_clauses it spots at cases end.Unreachable = (is_off (block_var spots at) ∷ []) ∷ []

-- of the block at a position: its assumes in order, then its terminator
abbrev pub assumes_at : SoundFunc → PathSpots → ℕ → List Instr → List (List Lit)
assumes_at it spots at body = flat_map (λ instr. assume_clauses it spots (block_var spots at) instr.op) body

abbrev pub block_clauses : SoundFunc → PathSpots → ℕ → List (List Lit)
block_clauses it spots at = assumes_at it spots at (block_at it at).body ++ end_clauses it spots at (case_vars it spots at) (block_at it at).end
