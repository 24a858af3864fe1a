-- The instruction for which a step over numbers stands.
use Rattle.std.specs.Prelude.{ℕ, false}
use Rattle.ll_tree.specs.declared.op.Flags.{Flags}
use Rattle.ll_tree.specs.declared.op.BinKind.TheVariants as kind
use Rattle.ll_links.specs.declared.link.Source.{Source}
use Rattle.ll_links.specs.declared.link.Source.TheVariants as source
use Rattle.ir_runner.specs.declared.code.Step.{Step}
use Rattle.ir_runner.specs.declared.code.Step.TheVariants as code
use Rattle.ir_runner.specs.declared.code.StepOp.TheVariants.{Bin}
use Rattle.number_runner.specs.declared.code.NumberStep.{NumberStep}
use Rattle.number_runner.specs.declared.code.NumberStep.TheVariants.{Add, AddConst, Give, Assume}

abbrev pub no_flags : Flags
no_flags = record { nuw = false; nsw = false; exact = false; disjoint = false; nneg = false; samesign = false }

-- the value of a number
abbrev pub value : ℕ → Source
value id = source.Value (record { 0 = id })

abbrev pub step_of : NumberStep → Step
step_of (Add sum) = code.Give (Bin kind.Add (record { flags = no_flags; width = sum.mask.width; left = value sum.left; right = value sum.right })) sum.to
step_of (AddConst sum) = code.Give (Bin kind.Add (record { flags = no_flags; width = sum.mask.width; left = value sum.left; right = source.Const sum.number })) sum.to
step_of (Give op to) = code.Give op to
step_of (Assume cond) = code.Assume cond
