use Rattle.std.proofs.Common.{◌≡◌, List, sym, ap, subst, ◌∙◌}
use Rattle.ll_tree.specs.declared.func.Func.{Func}
use Rattle.ir_runner.specs.Code.{code_of}
use Rattle.number_runner.specs.declared.code.NumberBlock.{NumberBlock}
use Rattle.number_runner.specs.Costs.{AreBlocks}
use Rattle.number_runner.specs.Numbered.{Numbered}
use Rattle.number_runner.proofs.runner.NumberRunner.cost.Goals as goal

pub walk-requires-clause-blocks : goal.walk-requires-clause-blocks
walk-requires-clause-blocks g c =
    let costs = g.C.PathCosts.costs c.args.costs.now in
    let func : c.args.self.now.func ≡ c.func.result.now = sym (ap (λ (it : Numbered). it.func) c.self.view_is) ∙ sym c.func.ensures.func in
    let code : c.args.self.now.code ≡ c.items.result.now = sym (ap (λ (it : Numbered). it.code) c.self.view_is) ∙ sym c.items.ensures in
    subst (λ (blocks : List NumberBlock). AreBlocks c.func.result.now costs (code_of c.func.result.now) blocks) code
    (subst (λ (func : Func). AreBlocks func costs (code_of func) c.args.self.now.code) func c.requires.of.blocks)
