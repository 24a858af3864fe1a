use Rattle.std.proofs.Common.{◌≡◌, get_or, ◌∙◌, ap}
use Rattle.sound_costs.specs.Costs.{FuncCosts}
use Rattle.sound_costs.proofs.CostLaws.{block_by_label}
use Rattle.sound_costs.proofs.EdgeLaws.{labels_differ}
use Rattle.sound_costs.proofs.costs.Costs.of.Goals as goal

pub returns-clause-by_label : goal.returns-clause-by_label
returns-clause-by_label c func rules costs =
    let is : c.of.result ≡ get_or c.args.self.now.lists.blocks c.args.block.0 0 = c.of.ensures ∙ ap (λ (it : FuncCosts). get_or it.lists.blocks c.args.block.0 0) c.self.view_is in
    is ∙ block_by_label func (labels_differ func rules.names) c.args.self.now costs c.args.block.0 c.requires
