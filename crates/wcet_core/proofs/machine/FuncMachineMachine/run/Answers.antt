use Rattle.std.proofs.Common.{◌≡◌, ℕ, List, Some, sym, ◌∙◌, ap, subst}
use Rattle.ll_tree.specs.declared.func.Func.{Func}
use Rattle.ir_runs.specs.Answer.{IsAnswer}
use Rattle.ir_runs.specs.Costs.{Reached}
use Rattle.ir_runs.specs.declared.run_end.RunEnd.{RunEnd}
use Rattle.sound_costs.specs.Costs.{costs_by_label}
use Rattle.wcet_core.specs.FuncMachine.{CostedFunc}
use Rattle.wcet_core.proofs.WorstLaws.{done_reached, one_cost, stuck_reaches_none}
use Rattle.wcet_core.proofs.machine.FuncMachineMachine.run.Goals as goal
use Rattle.wcet_core.proofs.machine.FuncMachineMachine.run.Goals.{in-Done, in-Undefined}

-- an answer for the machine's function
answered : (it : CostedFunc) (func : Func) (args : List ℕ) (path : List (List ℕ)) (found end : RunEnd) → func ≡ it.func → found ≡ end
    → IsAnswer func (costs_by_label it.func it.costs) args path found → IsAnswer it.func (costs_by_label it.func it.costs) args path end
answered it func args path found end same is answer =
    subst (λ (f : Func). IsAnswer f (costs_by_label it.func it.costs) args path end) same
    (subst (IsAnswer func (costs_by_label it.func it.costs) args path) is answer)

pub returns-clause-cost : goal.returns-clause-cost
returns-clause-cost c = elim c.match-run.branch [
  | in-Done w ↦
      let it = c.self.inside.priced in
      let answer = answered it c.self.inside.runner.func c.args.args.now _ c.run.result _ c.self.invariant.same w.in-Done.is c.run.ensures.answer in
      rw w.result-is (subst (λ (it : CostedFunc). Reached it.func (costs_by_label it.func it.costs) w.in-Done.cost c.args.args.now) c.self.view_is
      (done_reached it.func (costs_by_label it.func it.costs) c.args.args.now _ _ _ answer))
  | in-Undefined w ↦ rw w.result-is tt
]

pub returns-clause-only : goal.returns-clause-only
returns-clause-only c = λ n reached. elim c.match-run.branch [
  | in-Done w ↦
      let it = c.self.inside.priced in
      let answer = answered it c.self.inside.runner.func c.args.args.now _ c.run.result _ c.self.invariant.same w.in-Done.is c.run.ensures.answer in
      let inside = subst (λ (it : CostedFunc). Reached it.func (costs_by_label it.func it.costs) n c.args.args.now) (sym c.self.view_is) reached in
      w.result-is ∙ ap Some (one_cost it.func (costs_by_label it.func it.costs) (λ args are. c.each_list_ends_once.ensures it.func args c.self.invariant.own.rules are) c.args.args.now _ n
      (done_reached it.func (costs_by_label it.func it.costs) c.args.args.now _ _ _ answer) inside)
  | in-Undefined w ↦
      let it = c.self.inside.priced in
      let answer = answered it c.self.inside.runner.func c.args.args.now _ c.run.result _ c.self.invariant.same w.in-Undefined.is c.run.ensures.answer in
      let inside = subst (λ (it : CostedFunc). Reached it.func (costs_by_label it.func it.costs) n c.args.args.now) (sym c.self.view_is) reached in
      absurd (stuck_reaches_none it.func (costs_by_label it.func it.costs) (λ args are. c.each_list_ends_once.ensures it.func args c.self.invariant.own.rules are) c.args.args.now _ _ _ n answer inside)
]

pub returns-in-Some-clause-only : goal.returns-in-Some-clause-only
returns-in-Some-clause-only c = λ n reached.
    let it = c.self.inside.priced in
    let mine = subst (λ (func : Func). Reached func (costs_by_label it.func it.costs) c.in-Some.cost c.args.args.now) c.self.invariant.numbers_are.same c.in-Some.ensures.cost in
    let inside = subst (λ (it : CostedFunc). Reached it.func (costs_by_label it.func it.costs) n c.args.args.now) (sym c.self.view_is) reached in
    ap Some (one_cost it.func (costs_by_label it.func it.costs) (λ args are. c.each_list_ends_once.ensures it.func args c.self.invariant.own.rules are) c.args.args.now c.in-Some.cost n mine inside)
