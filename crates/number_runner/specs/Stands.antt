-- The block for which a block over numbers stands.
use Rattle.std.specs.Prelude.{◌≡◌, ℕ, Bool, List, [], ◌∷◌, ◌++◌, map, None, if◌then◌else◌}
use Rattle.ll_tree.specs.declared.op.Pred.{Pred}
use Rattle.ll_tree.specs.declared.op.Pred.TheVariants.{Eq, Ne, Ugt, Uge, Ult, Ule, Sgt, Sge, Slt, Sle}
use Rattle.ll_links.specs.declared.link.Source.TheVariants as source
use Rattle.ir_runner.specs.declared.code.BlockCode.{BlockCode}
use Rattle.ir_runner.specs.declared.code.CaseCode.{CaseCode}
use Rattle.ir_runner.specs.declared.code.Exit.{Exit}
use Rattle.ir_runner.specs.declared.code.Exit.TheVariants as exit
use Rattle.ir_runner.specs.declared.code.Jump.{Jump}
use Rattle.ir_runner.specs.declared.code.Step.{Step}
use Rattle.ir_runner.specs.declared.code.Step.TheVariants as code
use Rattle.ir_runner.specs.declared.code.StepOp.{StepOp}
use Rattle.ir_runner.specs.declared.code.StepOp.TheVariants.{Cmp}
use Rattle.number_runner.specs.declared.code.Fork.{Fork}
use Rattle.number_runner.specs.declared.code.NumberBlock.{NumberBlock}
use Rattle.number_runner.specs.declared.code.NumberCase.{NumberCase}
use Rattle.number_runner.specs.declared.code.NumberExit.{NumberExit}
use Rattle.number_runner.specs.declared.code.NumberExit.TheVariants.{Equal, Differ, Below, AtMost, Above, AtLeast, Branch, Go, Switch, Void, Return, Other}
use Rattle.number_runner.specs.declared.code.NumberJump.{NumberJump}
use Rattle.number_runner.specs.Steps.{no_flags, value, step_of}

abbrev pub jump_of : NumberJump → Jump
jump_of jump = record { to = jump.to; moves = jump.moves }

abbrev pub case_of : NumberCase → CaseCode
case_of case = record { value = case.value; jump = jump_of case.jump }

-- the comparison of a fork
abbrev pub compared : Pred → Fork → StepOp
compared pred fork = Cmp pred (record { flags = no_flags; width = fork.mask.width; left = value fork.left; right = source.Const fork.number })

abbrev pub compares : Pred → Fork → List Step
compares pred fork = code.Give (compared pred fork) fork.to ∷ []

-- the instructions that an end stands for besides
abbrev pub tail_of : NumberExit → List Step
tail_of (Equal fork) = compares Eq fork
tail_of (Differ fork) = compares Ne fork
tail_of (Below fork) = compares (if fork.signed then Slt else Ult) fork
tail_of (AtMost fork) = compares (if fork.signed then Sle else Ule) fork
tail_of (Above fork) = compares (if fork.signed then Sgt else Ugt) fork
tail_of (AtLeast fork) = compares (if fork.signed then Sge else Uge) fork
tail_of _ = []

abbrev pub forks : Fork → Exit
forks fork = exit.CondBr (value fork.to) (jump_of fork.on_one) (jump_of fork.on_zero)

-- it stands for this end
abbrev pub IsExit : Exit → NumberExit → Type 0
IsExit is (Equal fork) = is ≡ forks fork
IsExit is (Differ fork) = is ≡ forks fork
IsExit is (Below fork) = is ≡ forks fork
IsExit is (AtMost fork) = is ≡ forks fork
IsExit is (Above fork) = is ≡ forks fork
IsExit is (AtLeast fork) = is ≡ forks fork
IsExit is (Branch cond on_one on_zero) = is ≡ exit.CondBr (value cond) (jump_of on_one) (jump_of on_zero)
IsExit is (Go jump) = is ≡ exit.Br (jump_of jump)
IsExit is (Switch id default cases) = is ≡ exit.Switch (value id) (jump_of default) (map case_of cases)
IsExit is Void = is ≡ exit.RetVoid
IsExit is (Return from) = (width : ℕ) × (noundef : Bool) × (is ≡ exit.Ret width noundef None from)
IsExit is Other = Unit {0}

pub record StandsFor (code : BlockCode) (block : NumberBlock) : Type 0 where
  pub steps : code.steps ≡ map step_of block.steps ++ tail_of block.exit
  pub exit : IsExit code.exit block.exit
