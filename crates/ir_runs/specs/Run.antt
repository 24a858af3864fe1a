-- Runs of a function, arguments on which its behaviour is undefined, and that each list of arguments has one of these.
use Rattle.std.specs.Prelude.{◌≡◌, ◌⊎◌, ℕ, List, Some, None}
use Rattle.std.specs.List.{last_or}
use Rattle.ll_tree.specs.declared.func.Func.{Func}
use Rattle.ir_runs.specs.Values.{Vals}
use Rattle.ir_runs.specs.Walk.{Walk, EndsWith, Returns, Fails}
use Rattle.ir_runs.specs.declared.ret_val.RetVal.{RetVal}
use Rattle.ir_runs.specs.declared.undefined.UndefinedCause.{UndefinedCause}

-- A run is a walk whose last block returns.
pub record Run (func : Func) (args : List ℕ) (path : List (List ℕ)) (vals : Vals) (result : RetVal) : Type 0 where
  pub walk : Walk func args path vals
  pub returns : EndsWith func args vals walk.blocks (Returns result)

-- The arguments are stuck at a block: a walk ends there, as undefined behaviour with this cause.
pub record Stuck (func : Func) (args : List ℕ) (block : List ℕ) (cause : UndefinedCause) : Type 0 where
  pub path : List (List ℕ)
  pub vals : Vals
  pub walk : Walk func args path vals
  pub fails : EndsWith func args vals walk.blocks (Fails cause)
  pub there : last_or None path ≡ Some block

-- Exactly one run, and the arguments aren't stuck.
pub record RunsOnce (func : Func) (args : List ℕ) : Type 0 where
  pub path : List (List ℕ)
  pub vals : Vals
  pub result : RetVal
  pub run : Run func args path vals result
  pub only : (other : List (List ℕ)) (others : Vals) (value : RetVal) → Run func args other others value → (other ≡ path) × (others ≡ vals) × (value ≡ result)
  pub never : (block : List ℕ) (cause : UndefinedCause) → ¬ Stuck func args block cause

-- Stuck at exactly one block with exactly one cause, and no run.
pub record IsStuckOnce (func : Func) (args : List ℕ) : Type 0 where
  pub block : List ℕ
  pub cause : UndefinedCause
  pub stuck : Stuck func args block cause
  pub only : (other : List ℕ) (why : UndefinedCause) → Stuck func args other why → (other ≡ block) × (why ≡ cause)
  pub never : (path : List (List ℕ)) (vals : Vals) (result : RetVal) → ¬ Run func args path vals result

abbrev pub EndsOnce : Func → List ℕ → Type 0
EndsOnce func args = RunsOnce func args ⊎ IsStuckOnce func args
