-- That values fit the widths of their names.
use Rattle.std.specs.Prelude.{◌≡◌, ℕ, List, Contains, Some}
use Rattle.ll_tree.specs.declared.func.Func.{Func}
use Rattle.ll_rules.specs.Items.{values_of}
use Rattle.ir_meaning.specs.declared.value.Val.{Val}
use Rattle.ir_meaning.specs.Value.{FitsWidth}
use Rattle.ir_runs.specs.Values.{Vals}

-- each value that the map has is poison or a number of its name's width
abbrev pub AllFit : Func → Vals → Type 0
AllFit func vals = (name : List ℕ) (width : ℕ) (val : Val) → Contains (values_of func) (name, width) → vals name ≡ Some val → FitsWidth width val
