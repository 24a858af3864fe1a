use Rattle.std.proofs.Common.{◌≡◌, ◌<◌, ℕ, length, get_or, sym, ◌∙◌, ap, subst}
use Rattle.std.proofs.lemmas.List.{get_or_default}
use Rattle.ll_flow.specs.Paths.{label_of, GoesTo}
use Rattle.sound_costs.specs.Costs.{costs_by_label}
use Rattle.wcet_core.specs.FuncMachine.{CostedFunc}
use Rattle.wcet_core.specs.Priced.{cell}
use Rattle.wcet_core.proofs.PricedLaws.{cell_there, cell_cost}
use Rattle.wcet_core.proofs.priced.PricedPathCosts.edge.Goals as goal

pub returns : goal.returns
returns c =
    let from = c.args.from.0 in
    let to = c.args.to.0 in
    let cells = c.self.inside.cells.items in
    let it : CostedFunc = record { func = c.self.inside.sound.now.func; costs = c.self.inside.costs.now } in
    let from_low = subst (λ (it : CostedFunc). from < length it.func.blocks) (sym c.self.view_is) c.requires.from in
    let to_low = subst (λ (it : CostedFunc). to < length it.func.blocks) (sym c.self.view_is) c.requires.to in
    let goes = subst (λ (it : CostedFunc). GoesTo it.func (label_of it.func from) (label_of it.func to)) (sym c.self.view_is) c.requires.goes in
    let there = subst (λ (n : ℕ). n < length cells) (sym c.cell.ensures) (cell_there it cells c.self.invariant from to from_low to_low) in
    subst (λ (it : CostedFunc). c.index.result.now ≡ (costs_by_label it.func it.costs).edge (label_of it.func from) (label_of it.func to)) c.self.view_is
    (c.index.ensures ∙ get_or_default cells c.cell.result c.index.result.now 0 there
    ∙ ap (λ (n : ℕ). get_or cells n 0) c.cell.ensures ∙ cell_cost it cells c.self.invariant from to from_low to_low goes)
