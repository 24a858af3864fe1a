use Rattle.std.proofs.Common.{◌<◌, ℕ, List, All, refl, subst, arith}
use Rattle.std.proofs.lemmas.List.{take_all}
use Rattle.std.proofs.lemmas.List.Elements.{All-more}
use Rattle.proof_checker.proofs.steps.are_below.Goals as goal

pub loop-number-preserved : goal.loop-number-preserved
loop-number-preserved c = All-more (λ (number : ℕ). number < c.args.limit) c.args.numbers.now c.loop-number.number-index 0 (omega arith) c.loop-number.invariant (omega arith)

pub returns : goal.returns
returns c =
    let Below : List ℕ → Type 0 = λ numbers. All (λ (number : ℕ). number < c.args.limit) numbers in
    (λ _. subst Below (take_all c.loop-number.number-index c.args.numbers.now (omega arith)) c.loop-number.invariant, λ _. refl)
