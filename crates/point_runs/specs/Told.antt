-- The values that a point of a function's system tells.
use Rattle.std.specs.Prelude.{ℕ, ℤ, List, map}
use Rattle.ll_tree.specs.declared.block.Operand.TheVariants as operand
use Rattle.ll_verifier.specs.Sound.{SoundFunc}
use Rattle.ir_meaning.specs.declared.value.Val.{Val}
use Rattle.ir_runs.specs.Values.{Vals}
use Rattle.ir_runs.specs.Run.{Run}
use Rattle.ir_runs.specs.declared.ret_val.RetVal.{RetVal}
use Rattle.path_values.specs.Way.{HasValues, told}
use Rattle.portion_cuts.specs.Paths.{label_at}
use Rattle.wrap_rows.specs.Vars.{value_at}
use Rattle.path_encoding.specs.declared.spots.PathSpots.{PathSpots}
use Rattle.path_encoding.specs.Spots.{operand_vars}
use Rattle.path_encoding.specs.Agree.{AgreesOn, blocks_on}

-- of each name the value that its number and mark say
abbrev pub told_at : SoundFunc → PathSpots → List ℤ → List ℕ → Val
told_at it spots point name = value_at (operand_vars it spots (operand.Name name)) point

-- Along a path they are the arguments' and what the items compute, and the operands of assumes and terminators lie in their ranges.
pub record TellsAlong (it : SoundFunc) (spots : PathSpots) (point : List ℤ) (args path : List ℕ) : Type 0 where
  pub has : HasValues it.func args (blocks_on it path) (told (told_at it spots point))
  pub agrees : AgreesOn it spots point (told (told_at it spots point)) path

-- the arguments have a run along the path
pub record RunsAlong (it : SoundFunc) (args path : List ℕ) : Type 0 where
  pub vals : Vals
  pub result : RetVal
  pub run : Run it.func args (map (label_at it) path) vals result
