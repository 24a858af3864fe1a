-- Blocks that end with a comparison and the branch on it.
use Rattle.std.specs.Prelude.{◌≡◌, Bool, true, false, ◌++◌, ◌∷◌, []}
use Rattle.ll_tree.specs.declared.op.Pred.{Pred}
use Rattle.ll_tree.specs.declared.op.Pred.TheVariants.{Sgt, Sge, Slt, Sle}
use Rattle.ll_links.specs.declared.link.Source.TheVariants as source
use Rattle.ir_runner.specs.declared.code.BlockCode.{BlockCode}
use Rattle.ir_runner.specs.declared.code.Exit.TheVariants.{CondBr}
use Rattle.ir_runner.specs.declared.code.Step.TheVariants.{Give}
use Rattle.ir_runner.specs.declared.code.StepOp.TheVariants.{Cmp}
use Rattle.number_runner.specs.declared.fuse.Comparison.{Comparison}
use Rattle.number_runner.specs.Steps.{no_flags, value}

abbrev pub is_signed : Pred → Bool
is_signed Sgt = true
is_signed Sge = true
is_signed Slt = true
is_signed Sle = true
is_signed _ = false

pub record IsComparison (code : BlockCode) (it : Comparison) : Type 0 where
  pub steps : code.steps ≡ it.front.now ++ Give (Cmp it.pred (record { flags = no_flags; width = it.mask.width; left = value it.left; right = source.Const it.number })) it.to ∷ []
  pub exit : code.exit ≡ CondBr (value it.to) it.on_one.now it.on_zero.now
