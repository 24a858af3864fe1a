use Rattle.std.proofs.Common.{◌≡◌, ◌∷◌, [], ◌++◌, ◌∙◌, ℕ, List, length, true, sym, ap, subst, arith}
use Rattle.std.specs.Prelude.{zip}
use Rattle.std.specs.List.{list_any}
use Rattle.ll_tree.specs.declared.func.Func.{Func}
use Rattle.ll_tree.specs.declared.func.Param.{Param}
use Rattle.ll_links.specs.declared.link.BlockId.{BlockId}
use Rattle.ll_flow.specs.Paths.{label_of}
use Rattle.ll_verifier.specs.Rules.{Rules}
use Rattle.ir_runs.specs.Walk.{is_barred, has_poison_argument}
use Rattle.ir_runs.specs.Answer.{IsAnswer}
use Rattle.ir_runs.specs.declared.run_end.RunEnd.TheVariants.{Undefined}
use Rattle.ir_runs.specs.declared.undefined.UndefinedCause.TheVariants as cause
use Rattle.ir_runner.specs.LastRun.{LastRun, labels_at}
use Rattle.ir_runner.proofs.StartLaws.{barred, args_count, pushed}
use Rattle.ir_runner.proofs.runner.Runner.run.Goals.{After-items}
use Rattle.ir_runner.proofs.runner.Runner.run.Goals as goal

func-is : (g : _) (c : After-items g) → c.self.inside.sound.now.func ≡ c.args.self.now.func
func-is g c = ap (λ (last_run : LastRun). last_run.func) c.self.view_is

pub is_barred-requires : goal.is_barred-requires
is_barred-requires g c =
    ap (length {A = Param}) (c.items.ensures ∙ ap (λ (func : Func). func.params) (c.func-func.ensures.func ∙ func-is g c)) ∙ args_count c.args.self.now.func.params c.args.args.now c.requires.arguments

pub returns-then-is_barred-clause-answer : goal.returns-then-is_barred-clause-answer
returns-then-is_barred-clause-answer g c =
    let d = (goal.at.returns-then-is_barred-clause-answer g c).After-items in
    let func = c.args.self.now.func in
    let costs = g.C.PathCosts.costs c.args.costs.now in
    let entry : BlockId = record { 0 = 0 } in
    let rules : Rules func = subst Rules (func-is g d) c.self.invariant.rules in
    let some = rules.formed.some_block in
    let count : length c.self.inside.sound.now.func.blocks ≡ length func.blocks = ap (λ (func : Func). length func.blocks) (func-is g d) in
    let path : c.push.new.self.items ≡ entry ∷ [] =
    pushed c.push.result c.push.new.self.items _ (c.clear.new.self.items ++ entry ∷ []) c.push.ensures.items (c.push.ensures.succeeds (omega (arith, c.clear.ensures.len, c.clear.ensures.capacity, some, count, c.self.invariant.path)))
    ∙ ap (λ (items : List BlockId). items ++ entry ∷ []) c.clear.ensures.items in
    let params : c.items.result.now ≡ func.params = c.items.ensures ∙ ap (λ (func : Func). func.params) (c.func-func.ensures.func ∙ func-is g d) in
    let poison : has_poison_argument func c.args.args.now ≡ true = ap (λ (params : List Param). list_any is_barred (zip params c.args.args.now)) (sym params) ∙ sym c.is_barred.ensures ∙ c.if-is_barred.true in
    let labels : label_of func 0 ∷ [] ≡ labels_at c.self.inside.sound.now.func c.push.new.self.items =
    ap (λ (func : Func). label_of func 0 ∷ []) (sym (func-is g d)) ∙ ap (labels_at c.self.inside.sound.now.func) (sym path) in
    subst (λ (labels : List (List ℕ)). IsAnswer func costs c.args.args.now labels (Undefined 0 cause.PoisonArgument)) labels (barred func rules c.args.args.now c.requires.arguments costs poison)
