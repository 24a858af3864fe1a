-- The slots where a run begins.
use Rattle.std.specs.Prelude.{◌≡◌, ◌<◌, ◌≤◌, ℕ, List, length, map, zip, slice_index_or}
use Rattle.ll_tree.specs.declared.func.Func.{Func}
use Rattle.ll_tree.specs.declared.func.Param.{Param}
use Rattle.ll_rules.specs.Items.{values_of}
use Rattle.ir_meaning.specs.declared.value.Val.{Val}
use Rattle.ir_meaning.specs.declared.value.Val.TheVariants.{Poison}
use Rattle.ir_runs.specs.Values.{ranged}

-- an argument as its parameter takes it
abbrev pub taken_as : Param × ℕ → Val
taken_as given = ranged given.0.range given.1

abbrev pub taken : List Param → List ℕ → List Val
taken params args = map taken_as (zip params args)

-- the first slots hold the arguments
abbrev pub ArePlaced : List Param → List ℕ → List Val → Type 0
ArePlaced params args slots = (at : ℕ) → at < length params → slice_index_or slots at Poison ≡ slice_index_or (taken params args) at Poison

-- And there is a slot for each value.
pub record HasArguments (func : Func) (args : List ℕ) (slots : List Val) : Type 0 where
  pub room : length (values_of func) ≤ length slots
  pub placed : ArePlaced func.params args slots
