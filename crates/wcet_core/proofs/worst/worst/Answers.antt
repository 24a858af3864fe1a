use Rattle.std.proofs.Common.{◌≡◌, ℕ, List, map, refl, sym, ◌∙◌, ap, subst, arith}
use Rattle.std.specs.Prelude.{sum}
use Rattle.std.proofs.lemmas.List.Sums.{sum-map}
use Rattle.ll_tree.specs.declared.func.Func.{Func}
use Rattle.ll_tree.specs.declared.func.Param.{Param}
use Rattle.ll_verifier.specs.Sound.{bits_of}
use Rattle.ir_runs.specs.Costs.{Reached}
use Rattle.ir_runs.specs.Walk.{widths_of}
use Rattle.sound_costs.specs.Costs.{costs_by_label}
use Rattle.wcet_core.specs.Worst.{numbers_of}
use Rattle.wcet_core.proofs.WorstLaws.{none_found, best_found, worst}
use Rattle.wcet_core.proofs.worst.worst.Goals as goal

widths_are : (func lent : Func) (params : List Param) (items widths : List ℕ) → widths ≡ items → items ≡ map (λ param. param.width) params → params ≡ lent.params → lent ≡ func → widths ≡ widths_of func
widths_are func lent params items widths same are of is = same ∙ are ∙ ap (map (λ (param : Param). param.width)) of ∙ ap widths_of is

pub returns-in_default : goal.returns-in_default
returns-in_default c =
    let func = c.args.sound.now.func in
    let wide = widths_are func c.func.result.now c.items-params.result.now c.in_ok-widths.widths.items c.deref.result.now c.deref.ensures.value c.in_ok-widths.ensures c.items-params.ensures c.func.ensures.func in
    (refl, omega (arith, c.if-bits-most.false, c.bits-bits.ensures), none_found func c.args.costs.now c.in_ok-machine.machine c.deref.result.now c.in_ok-machine.ensures wide c.in_ok-best.field-0 c.in_default.is c.in_ok-best.ensures.none)

pub witness-requires-clause-reached : goal.witness-requires-clause-reached
witness-requires-clause-reached c =
    let func = c.args.sound.now.func in
    let wide = widths_are func c.func.result.now c.items-params.result.now c.in_ok-widths.widths.items c.deref.result.now c.deref.ensures.value c.in_ok-widths.ensures c.items-params.ensures c.func.ensures.func in
    let best = best_found func c.args.costs.now c.in_ok-machine.machine c.deref.result.now c.in_ok-machine.ensures wide c.in_ok-best.field-0 c.in-Some.best c.in-Some.is c.in_ok-best.ensures.best in
    (c.in-Some.best.cost, subst (Reached func (costs_by_label func c.args.costs.now) c.in-Some.best.cost) (sym (c.in_ok-args.ensures.numbers ∙ c.items.ensures)) best.reached)

pub returns : goal.returns
returns c =
    let func = c.args.sound.now.func in
    let wide = widths_are func c.func.result.now c.items-params.result.now c.in_ok-widths.widths.items c.deref.result.now c.deref.ensures.value c.in_ok-widths.ensures c.items-params.ensures c.func.ensures.func in
    let best = best_found func c.args.costs.now c.in_ok-machine.machine c.deref.result.now c.in_ok-machine.ensures wide c.in_ok-best.field-0 c.in-Some.best c.in-Some.is c.in_ok-best.ensures.best in
    let on : numbers_of c.in_ok-witness.witness.args ≡ c.in-Some.best.args = ap numbers_of c.in_ok-witness.ensures.args ∙ c.in_ok-args.ensures.numbers ∙ c.items.ensures in (
      refl,
      omega (arith, c.if-bits-most.false, c.bits-bits.ensures),
      worst func (costs_by_label func c.args.costs.now) (λ args are. c.each_list_ends_once.ensures func args c.func.ensures.rules are) c.in-Some.best.args c.in-Some.best.cost c.in_ok-witness.witness best on c.in_ok-witness.ensures.run,
      c.new-portions.ensures,
    )

pub try_all-requires-clause-bits : goal.try_all-requires-clause-bits
try_all-requires-clause-bits c =
    let func = c.args.sound.now.func in
    let wide = widths_are func c.func.result.now c.items-params.result.now c.in_ok-widths.widths.items c.deref.result.now c.deref.ensures.value c.in_ok-widths.ensures c.items-params.ensures c.func.ensures.func in
    let bits : sum c.deref.result.now ≡ bits_of func = ap sum wide ∙ sum-map (λ (param : Param). param.width) func.params in
    omega (arith, bits, c.bits-bits.ensures, c.if-bits-most.false, c.requires.few)
