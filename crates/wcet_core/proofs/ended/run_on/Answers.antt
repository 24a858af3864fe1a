use Rattle.std.proofs.Common.{◌≡◌, refl, sym, ◌∙◌, ap, subst}
use Rattle.wx_base.specs.Args.{AreArguments}
use Rattle.ll_tree.specs.declared.func.Func.{Func}
use Rattle.ir_runs.specs.Walk.{widths_of}
use Rattle.ir_runs.specs.declared.run_end.RunEnd.TheVariants.{Done}
use Rattle.ir_runner.specs.LastRun.{labels_at, path_labels}
use Rattle.sound_costs.specs.Costs.{costs_by_label}
use Rattle.wcet_core.specs.Worst.{numbers_of}
use Rattle.wcet_core.proofs.WorstLaws.{are_arguments, done_run, moved}
use Rattle.wcet_core.proofs.ended.run_on.Goals as goal

pub run-requires-clause-arguments : goal.run-requires-clause-arguments
run-requires-clause-arguments c =
    let numbers : c.deref.result.now ≡ numbers_of c.args.args = c.deref.ensures.value ∙ c.in_ok-numbers.ensures ∙ ap numbers_of c.items.ensures in
    subst (λ (f : Func). AreArguments (widths_of f) c.deref.result.now) (sym (ap (λ r. r.func) c.in_ok-runner.ensures))
    (subst (AreArguments (widths_of c.args.sound.now.func)) (sym numbers) (are_arguments (widths_of c.args.sound.now.func) c.args.args c.requires.widths))

pub returns-in_ok-path-in-Done : goal.returns-in_ok-path-in-Done
returns-in_ok-path-in-Done c =
    let func = c.args.sound.now.func in
    let numbers : c.deref.result.now ≡ numbers_of c.args.args = c.deref.ensures.value ∙ c.in_ok-numbers.ensures ∙ ap numbers_of c.items.ensures in
    let of : c.in_ok-runner.runner.func ≡ func = ap (λ r. r.func) c.in_ok-runner.ensures in
    let along : path_labels c.run.new.self ≡ c.in_ok-path-in-Done.path = (λ i. labels_at ((c.in-Done.ensures.func ∙ of) i) (sym c.path.ensures i)) ∙ sym c.in_ok-path-in-Done.ensures in (
      refl,
      done_run func (costs_by_label func c.args.costs.now) c.args.args c.in_ok-path-in-Done.path c.in-Done.result c.in-Done.cost c.requires.widths
          (moved func c.in_ok-runner.runner.func c.args.costs.now c.in_ok-priced.priced c.deref.result.now (numbers_of c.args.args) (path_labels c.run.new.self) c.in_ok-path-in-Done.path (Done c.in-Done.result c.in-Done.cost) of c.in_ok-priced.ensures.is numbers along c.in-Done.ensures.answer),
    )
