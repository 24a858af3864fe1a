-- What the edges out of a block cost.
use Rattle.std.specs.Prelude.{◌≡◌, ◌<◌, ℕ, List, [], ◌∷◌, map, length, slice_index_or, All}
use Rattle.ll_tree.specs.declared.func.Func.{Func}
use Rattle.ll_flow.specs.Paths.{label_of}
use Rattle.ir_runs.specs.Costs.{LabelCosts}
use Rattle.ir_runner.specs.declared.code.BlockCode.{BlockCode}
use Rattle.number_runner.specs.declared.code.Fork.{Fork}
use Rattle.number_runner.specs.declared.code.NumberBlock.{NumberBlock}
use Rattle.number_runner.specs.declared.code.NumberExit.{NumberExit}
use Rattle.number_runner.specs.declared.code.NumberExit.TheVariants.{Equal, Differ, Below, AtMost, Above, AtLeast, Branch, Go, Switch, Void, Return, Other}
use Rattle.number_runner.specs.declared.code.NumberJump.{NumberJump}
use Rattle.number_runner.specs.Stands.{StandsFor}

abbrev pub ways : Fork → List NumberJump
ways fork = fork.on_one ∷ fork.on_zero ∷ []

abbrev pub jumps_of : NumberExit → List NumberJump
jumps_of (Equal fork) = ways fork
jumps_of (Differ fork) = ways fork
jumps_of (Below fork) = ways fork
jumps_of (AtMost fork) = ways fork
jumps_of (Above fork) = ways fork
jumps_of (AtLeast fork) = ways fork
jumps_of (Branch cond on_one on_zero) = on_one ∷ on_zero ∷ []
jumps_of (Go jump) = jump ∷ []
jumps_of (Switch id default cases) = default ∷ map (λ case. case.jump) cases
jumps_of Void = []
jumps_of (Return from) = []
jumps_of Other = []

-- an edge out of the block at a place has its own costs
pub record IsPriced (func : Func) (costs : LabelCosts) (from : ℕ) (jump : NumberJump) : Type 0 where
  pub edge : jump.edge ≡ costs.edge (label_of func from) (label_of func jump.to.0)
  pub block : jump.block ≡ costs.block (label_of func jump.to.0)

-- a block over numbers stands for a block, with the costs of its edges
pub record IsBlock (func : Func) (costs : LabelCosts) (from : ℕ) (code : BlockCode) (block : NumberBlock) : Type 0 where
  pub stands : StandsFor code block
  pub priced : All (IsPriced func costs from) (jumps_of block.exit)

-- the first blocks of a function over numbers
abbrev pub AreBlocks : Func → LabelCosts → List BlockCode → List NumberBlock → Type 0
AreBlocks func costs codes blocks = (at : ℕ) (code : BlockCode) (block : NumberBlock) → at < length blocks → slice_index_or codes at code ≡ code → slice_index_or blocks at block ≡ block → IsBlock func costs at code block
