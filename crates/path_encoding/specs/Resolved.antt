-- The clauses of a block over numbers in place of names, as the code makes them.
use Rattle.std.specs.Prelude.{◌++◌, ℕ, Bool, true, false, List, [], ◌∷◌, map, flat_map, zip, drop, slice_index, slice_index_or}
use Rattle.mix_system.specs.declared.literal.Lit.{Lit}
use Rattle.ll_tree.specs.declared.block.Case.{Case}
use Rattle.ll_tree.specs.declared.block.End.{End}
use Rattle.ll_tree.specs.declared.block.End.TheVariants as end
use Rattle.ll_tree.specs.declared.op.Op.{Op}
use Rattle.ll_tree.specs.declared.op.Op.TheVariants.{Bin, Cmp, Cast, Select, Abs, Assume}
use Rattle.ll_links.specs.declared.link.BlockId.{BlockId}
use Rattle.ll_links.specs.declared.link.Source.{Source}
use Rattle.ll_links.specs.declared.link.Source.TheVariants as source
use Rattle.ll_verifier.specs.Sound.{SoundFunc}
use Rattle.wrap_rows.specs.declared.vars.ValueVars.{ValueVars}
use Rattle.path_encoding.specs.declared.spots.PathSpots.{PathSpots}
use Rattle.path_encoding.specs.Spots.{block_var, edge_to}
use Rattle.path_encoding.specs.Ends.{is_off, not_poison, return_clauses, fork_clauses, case_clauses, default_clause}

abbrev pub is_assume : Op → Bool
is_assume (Bin kind flags width left right) = false
is_assume (Cmp pred flags width left right) = false
is_assume (Cast kind flags from arg to) = false
is_assume (Select width cond first second) = false
is_assume (Abs width arg strict) = false
is_assume (Assume cond) = true

-- the first of some operands
abbrev pub first_of : List Source → Source
first_of sources = slice_index_or sources 0 source.Poison

-- blocks by their places
abbrev pub places : List BlockId → List ℕ
places blocks = map (λ block. block.0) blocks

-- a case, the place of its target, and its variable
abbrev pub case_to : SoundFunc → PathSpots → ℕ → ℕ → (Case × ℕ) × ℕ → List (List Lit)
case_to it spots at number case = case_clauses (block_var spots at) number case.0.0.value case.1 (edge_to it spots at case.0.1)

abbrev pub switch_to : SoundFunc → PathSpots → ℕ → ValueVars → (default : ℕ) → (targets : List ℕ) → List Case → List ℕ → List (List Lit)
switch_to it spots at value default targets cases vars =
    not_poison (block_var spots at) value
    ∷ (flat_map (case_to it spots at value.number) (zip (zip cases targets) vars) ++ default_clause (block_var spots at) (zip cases vars) (edge_to it spots at default) ∷ [])

abbrev pub end_to : SoundFunc → PathSpots → ℕ → ValueVars → (targets vars : List ℕ) → End → List (List Lit)
end_to it spots at value targets vars end.RetVoid = []
end_to it spots at value targets vars (end.Ret width operand) = return_clauses it.func.ret_noundef it.func.ret_range (block_var spots at) value
end_to it spots at value targets vars (end.Br to) = []
end_to it spots at value targets vars (end.CondBr cond when_set when_clear) = fork_clauses it spots at value (slice_index targets 0) (slice_index targets 1)
end_to it spots at value targets vars (end.Switch width operand default cases) = switch_to it spots at value (slice_index targets 0) (drop 1 targets) cases vars
end_to it spots at value targets vars end.Unreachable = (is_off (block_var spots at) ∷ []) ∷ []
