-- The parts of printed lines. A name is written as in the canonical text of a function.
use Rattle.std.specs.Prelude.{ℕ, List, [], ◌∷◌, ◌++◌, codes}
use Rattle.std.specs.Fmt.{decimal}
use Rattle.wx_base.specs.declared.lists.Arg.{Arg}
use Rattle.ll_tree.specs.Naming.{name_text}
use Rattle.ll_tree.specs.Words.{type_word}
use Rattle.ll_verifier.specs.declared.fault.Spot.{Spot}
use Rattle.ir_runs.specs.declared.ret_val.RetVal.{RetVal}
use Rattle.ir_runs.specs.declared.ret_val.RetVal.TheVariants.{Void, Poison, Num}

abbrev pub line : List ℕ → List ℕ
line text = text ++ 10 ∷ []

-- a local name
abbrev pub local : List ℕ → List ℕ
local name = 37 ∷ name_text name

-- a type and a number of it
unfoldable pub typed_number : ℕ → ℕ → List ℕ
typed_number width value = type_word width ++ (codes " " ++ decimal value)

-- ---- each with a blank before it

abbrev pub spaced : List ℕ → List ℕ
spaced word = codes " " ++ word

abbrev pub spaced_arg : Arg → List ℕ
spaced_arg arg = spaced (typed_number arg.width arg.value)

abbrev pub spaced_name : List ℕ → List ℕ
spaced_name name = spaced (local name)

-- the place of an item: the label of its block, and how many items of the block come before it
unfoldable pub spaced_spot : Spot → List ℕ
spaced_spot at = spaced_name at.block ++ spaced (decimal at.item)

unfoldable pub spaced_value : RetVal → List ℕ
spaced_value Void = codes " void"
spaced_value (Poison width) = codes " poison"
spaced_value (Num width value) = spaced (typed_number width value)
