use Rattle.std.proofs.Common.{◌≡◌, ◌<◌, ◌+◌, ◌++◌, ◌∙◌, List, length, map, drop, subst, sym, ap, arith, ℕ}
use Rattle.ll_flow.specs.Paths.{label_of}
use Rattle.ir_runner.specs.declared.code.CaseCode.{CaseCode}
use Rattle.ir_runner.specs.Code.{places, target, jump_code, jump_to, case_code}
use Rattle.ir_runner.proofs.LowerLaws.{case_target, target_low, map_next}
use Rattle.ir_runner.proofs.lower.cases_of.Goals.{After-target_at}
use Rattle.ir_runner.proofs.lower.cases_of.Goals as goal

target_is : (c : After-target_at) → c.target_at.result.0 ≡ target c.args.sound.now.func c.index-cases-item.result.to
target_is c =
    case_target c.args.sound.now.func (places c.args.targets.now) c.args.cases.now c.requires.targets c.loop-item.item c.index-cases-item.result c.loop-item-test.true c.index-cases-item.is c.target_at.result.0 c.target_at.ensures

pub jump_code-requires-clause-to : goal.jump_code-requires-clause-to
jump_code-requires-clause-to c =
    subst (λ (n : ℕ). n < length c.args.sound.now.func.blocks) (sym (target_is c)) (target_low c.args.sound.now.func c.index-cases-item.result.to (omega (arith, c.requires.from)))

pub loop-item-preserved : goal.loop-item-preserved
loop-item-preserved c =
    let func = c.args.sound.now.func in
    let from = label_of func c.args.from.0 in
    let d = (goal.at.loop-item-preserved c).After-target_at in
    let one : CaseCode = record { value = c.index-cases-item.result.value; jump = c.in_ok-jump.jump } in
    let jump : c.in_ok-jump.jump ≡ jump_to func from c.index-cases-item.result.to = c.in_ok-jump.ensures ∙ ap (jump_code func from) (target_is d) in
    let is : one ≡ case_code func from c.index-cases-item.result = λ i. record { value = c.index-cases-item.result.value; jump = jump i } in
    subst (λ (now : List CaseCode). now ++ map (case_code func from) (drop (c.loop-item.item + 1) c.args.cases.now) ≡ map (case_code func from) c.args.cases.now) (sym c.in_ok-push.ensures.ok)
    (map_next (case_code func from) c.loop-item.list c.args.cases.now c.loop-item.item c.index-cases-item.result one c.loop-item.invariant c.loop-item-test.true c.index-cases-item.is is)
