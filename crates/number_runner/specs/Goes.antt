-- Where the edges out of a block lead.
use Rattle.std.specs.Prelude.{◌<◌, ℕ, List, [], ◌∷◌, map, length, All}
use Rattle.ll_tree.specs.declared.func.Func.{Func}
use Rattle.ll_flow.specs.Paths.{label_of, GoesTo}
use Rattle.ir_runner.specs.declared.code.Exit.{Exit}
use Rattle.ir_runner.specs.declared.code.Exit.TheVariants.{RetVoid, Ret, Br, CondBr, Switch, Unreachable}
use Rattle.ir_runner.specs.declared.code.Jump.{Jump}

-- an edge leads out of the block at a place to another block
pub record LeadsOut (func : Func) (from : ℕ) (jump : Jump) : Type 0 where
  pub low : jump.to.0 < length func.blocks
  pub goes : GoesTo func (label_of func from) (label_of func jump.to.0)

abbrev pub edges_of : Exit → List Jump
edges_of RetVoid = []
edges_of (Ret width noundef range value) = []
edges_of (Br jump) = jump ∷ []
edges_of (CondBr cond on_one on_zero) = on_one ∷ on_zero ∷ []
edges_of (Switch value default cases) = default ∷ map (λ case. case.jump) cases
edges_of Unreachable = []

-- all edges do
abbrev pub LeadOut : Func → ℕ → Exit → Type 0
LeadOut func from exit = All (LeadsOut func from) (edges_of exit)
