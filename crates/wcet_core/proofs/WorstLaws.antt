-- What a machine reaches, and that the best of all arguments is the worst case.
use Rattle.std.proofs.Common.{◌≡◌, ◌≤◌, ℕ, List, [], ◌∷◌, map, Option, Some, None, refl, sym, ◌∙◌, ap, subst}
use Rattle.wx_base.specs.Args.{AreArguments, ComesBefore}
use Rattle.wx_base.specs.declared.lists.Arg.{Arg}
use Rattle.ll_tree.specs.declared.func.Func.{Func}
use Rattle.ir_runs.specs.Answer.{IsAnswer}
use Rattle.ir_runs.specs.Costs.{LabelCosts, Reached, Empty, path_cost}
use Rattle.ir_runs.specs.Run.{EndsOnce}
use Rattle.ir_runs.specs.Walk.{widths_of}
use Rattle.ir_runs.specs.declared.ret_val.RetVal.{RetVal}
use Rattle.ir_runs.specs.declared.run_end.RunEnd.{RunEnd}
use Rattle.ir_runs.specs.declared.run_end.RunEnd.TheVariants.{Done, Undefined}
use Rattle.ir_runs.specs.declared.undefined.UndefinedCause.{UndefinedCause}
use Rattle.ll_flow.specs.Paths.{label_of}
use Rattle.witness_report.specs.declared.answer.Witness.{Witness}
use Rattle.std.specs.Prelude.{IfSome, IfNone}
use Rattle.sound_costs.specs.Costs.{FuncCosts, costs_by_label}
use Rattle.wcet_core.specs.FuncMachine.{CostedFunc}
use Rattle.wcet_core.specs.Trial.{IsFirstBest, NoneReach}
use Rattle.wcet_core.specs.declared.trial.Best.{Best}
use Rattle.wcet_core.specs.Worst.{IsRun, IsWorst, numbers_of}
use Rattle.wcet_core.proofs.RunLaws.{one_run, not_both}

args_fit : (args : List Arg) → AreArguments (map (λ arg. arg.width) args) (numbers_of args)
args_fit [] = tt
args_fit (arg ∷ args) = (arg.fits, args_fit args)

-- arguments of these widths, as numbers
pub are_arguments : (widths : List ℕ) (args : List Arg) → map (λ arg. arg.width) args ≡ widths → AreArguments widths (numbers_of args)
are_arguments widths args wide = subst (λ (ws : List ℕ). AreArguments ws (numbers_of args)) wide (args_fit args)

module _ (func : Func) (costs : LabelCosts) where
  -- a run that ended is that of the witness
  pub done_run : (args : List Arg) (path : List (List ℕ)) (result : RetVal) (cost : ℕ) → map (λ arg. arg.width) args ≡ widths_of func → IsAnswer func costs (numbers_of args) path (Done result cost)
      → IsRun func costs (record { args = args; path = path; result = result; cost = cost })
  done_run args path result cost wide ((vals, run), is) = record { widths = wide; vals = vals; run = run; cost = sym is }

  pub done_reached : (args : List ℕ) (path : List (List ℕ)) (result : RetVal) (cost : ℕ) → IsAnswer func costs args path (Done result cost) → Reached func costs cost args
  done_reached args path result cost ((vals, run), is) = record { path = path; vals = vals; result = result; run = run; cost = sym is }

  pub none_reach : NoneReach (λ args n. Reached func costs n args) (widths_of func) → Empty func
  none_reach none args path vals result run = none args (path_cost costs path) run.walk.arguments (record { path = path; vals = vals; result = result; run = run; cost = refl })

  module _ (ends : (args : List ℕ) → AreArguments (widths_of func) args → EndsOnce func args) where
    pub one_cost : (args : List ℕ) (n m : ℕ) → Reached func costs n args → Reached func costs m args → n ≡ m
    one_cost args n m reached also =
        sym reached.cost
        ∙ ap (path_cost costs) (one_run func ends args reached.path also.path reached.vals also.vals reached.result also.result reached.run also.run).0
        ∙ also.cost

    pub stuck_reaches_none : (args : List ℕ) (path : List (List ℕ)) (block : ℕ) (cause : UndefinedCause) (n : ℕ) → IsAnswer func costs args path (Undefined block cause) → Reached func costs n args → ⊥
    stuck_reaches_none args path block cause n (within, (stuck, along)) reached =
        not_both func ends args reached.path reached.vals reached.result (label_of func block) cause reached.run stuck

    pub worst : (best : List ℕ) (most : ℕ) (witness : Witness) → IsFirstBest (λ args n. Reached func costs n args) (widths_of func) best most
        → numbers_of witness.args ≡ best → IsRun func costs witness → IsWorst func costs witness
    worst best most witness is_best on run =
        let reached : Reached func costs witness.cost best = subst (Reached func costs witness.cost) on (record { path = witness.path; vals = run.vals; result = witness.result; run = run.run; cost = run.cost }) in
        let cost : witness.cost ≡ most = one_cost best witness.cost most reached is_best.reached in
        record {
          run = run;
          at_most = λ args path vals result other. subst (λ (n : ℕ). path_cost costs path ≤ n) (sym cost)
              (is_best.at_most args (path_cost costs path) other.walk.arguments (record { path = path; vals = vals; result = result; run = other; cost = refl }));
          first = λ others reach before. is_best.first others reach.run.walk.arguments (subst (λ (n : ℕ). Reached func costs n others) cost reach) (subst (ComesBefore others) on before);
        }

-- ---- what a trial found, of the function that the machine runs

abbrev Reaches : CostedFunc → List ℕ → ℕ → Type 0
Reaches it args n = Reached it.func (costs_by_label it.func it.costs) n args

module _ (func : Func) (own : FuncCosts) (it : CostedFunc) (widths : List ℕ) (is : it ≡ record { func = func; costs = own }) (wide : widths ≡ widths_of func) (found : Option Best) where
  pub none_found : found ≡ None → IfNone found (NoneReach (Reaches it) widths) → Empty func
  none_found none all =
      none_reach func (costs_by_label func own)
      (subst (NoneReach (Reaches (record { func = func; costs = own }))) wide
      (subst (λ (m : CostedFunc). NoneReach (Reaches m) widths) is
      (subst (λ (o : Option Best). IfNone o (NoneReach (Reaches it) widths)) none all)))

  pub best_found : (best : Best) → found ≡ Some best → IfSome found (λ some. IsFirstBest (Reaches it) widths some.args some.cost)
      → IsFirstBest (λ args n. Reached func (costs_by_label func own) n args) (widths_of func) best.args best.cost
  best_found best some all =
      subst (λ (w : List ℕ). IsFirstBest (Reaches (record { func = func; costs = own })) w best.args best.cost) wide
      (subst (λ (m : CostedFunc). IsFirstBest (Reaches m) widths best.args best.cost) is
      (subst (λ (o : Option Best). IfSome o (λ some. IsFirstBest (Reaches it) widths some.args some.cost)) some all))

-- ---- an answer for the function itself

pub moved : (func of : Func) (own : FuncCosts) (it : CostedFunc) (args numbers : List ℕ) (path labels : List (List ℕ)) (end : RunEnd) → of ≡ func → it ≡ record { func = func; costs = own } → args ≡ numbers → path ≡ labels
    → IsAnswer of (costs_by_label it.func it.costs) args path end → IsAnswer func (costs_by_label func own) numbers labels end
moved func of own it args numbers path labels end same is given along answer =
    subst (λ (p : List (List ℕ)). IsAnswer func (costs_by_label func own) numbers p end) along
    (subst (λ (ns : List ℕ). IsAnswer func (costs_by_label func own) ns path end) given
    (subst (λ (m : CostedFunc). IsAnswer func (costs_by_label m.func m.costs) args path end) is
    (subst (λ (f : Func). IsAnswer f (costs_by_label it.func it.costs) args path end) same answer)))
