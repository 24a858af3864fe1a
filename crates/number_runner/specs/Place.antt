-- Arguments that are in the ranges of their parameters.
use Rattle.std.specs.Prelude.{◌≡◌, ℕ, List, false, zip}
use Rattle.std.specs.List.{list_any}
use Rattle.ll_tree.specs.declared.func.Param.{Param}
use Rattle.ir_runs.specs.Walk.{is_barred}

-- no argument is barred
abbrev pub AreAllIn : List Param → List ℕ → Type 0
AreAllIn params args = list_any is_barred (zip params args) ≡ false
