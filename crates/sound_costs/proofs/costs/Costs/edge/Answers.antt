use Rattle.std.proofs.Common.{◌≡◌, ◌∙◌, ap}
use Rattle.sound_costs.specs.Costs.{FuncCosts, edge_cost, costs_of}
use Rattle.sound_costs.proofs.CostLaws.{cost_beside, edge_by_label}
use Rattle.sound_costs.proofs.EdgeLaws.{labels_differ}
use Rattle.sound_costs.proofs.costs.Costs.edge.Goals as goal

pub returns-clause-cost : goal.returns-clause-cost
returns-clause-cost c =
    c.edge.ensures
    ∙ cost_beside (costs_of c.self.inside) c.self.invariant.sorted c.self.invariant.one_each c.items.result.now c.items.ensures c.args.from.0 c.args.to.0 c.in-Some.edge c.in-Some.ensures
    ∙ ap (λ (it : FuncCosts). edge_cost it c.args.from.0 c.args.to.0) c.self.view_is

pub returns-clause-by_label : goal.returns-clause-by_label
returns-clause-by_label c func rules costs =
    let is : c.edge.result ≡ edge_cost c.args.self.now c.args.from.0 c.args.to.0 = c.edge.ensures
    ∙ cost_beside (costs_of c.self.inside) c.self.invariant.sorted c.self.invariant.one_each c.items.result.now c.items.ensures c.args.from.0 c.args.to.0 c.in-Some.edge c.in-Some.ensures
    ∙ ap (λ (it : FuncCosts). edge_cost it c.args.from.0 c.args.to.0) c.self.view_is in
    is ∙ edge_by_label func (labels_differ func rules.names) c.args.self.now costs c.args.from.0 c.args.to.0 c.requires
