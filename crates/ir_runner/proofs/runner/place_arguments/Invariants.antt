use Rattle.std.proofs.Common.{◌≡◌, ◌<◌, ℕ, get_or}
use Rattle.ir_meaning.specs.declared.value.Val.TheVariants.{Poison}
use Rattle.ir_runner.specs.Start.{taken}
use Rattle.ir_runner.proofs.runner.place_arguments.Given as goal

abbrev pub invariant-loop-at : goal.invariant-loop-at
invariant-loop-at l = (k : ℕ) → k < l.at → get_or l.slots k Poison ≡ get_or (taken l.params l.args) k Poison
