use Rattle.std.proofs.Common.{◌<◌, All, take}
use Rattle.proof_checker.proofs.steps.are_below.Given as goal

abbrev pub invariant-loop-number : goal.invariant-loop-number
invariant-loop-number l = All (λ number. number < l.limit) (take l.number-index l.numbers)
