use Rattle.std.proofs.Common.{◌≡◌, length}
use Rattle.ir_runner.specs.Code.{code_of}
use Rattle.number_runner.specs.Costs.{AreBlocks}
use Rattle.number_runner.proofs.lower.number_code.Given as goal

abbrev pub invariant-loop-at : goal.invariant-loop-at
invariant-loop-at g l = record {
  count : length l.blocks ≡ l.at;
  are : AreBlocks l.sound.func (g.C.PathCosts.costs l.costs) (code_of l.sound.func) l.blocks;
}
