use Rattle.std.proofs.Common.{◌≡◌, ◌++◌, ◌<◌, ◌^◌, take, All}
use Rattle.std.specs.List.{flat_map}
use Rattle.proof_spelling.specs.Text.{spaced_number}
use Rattle.proof_spelling.proofs.writing.push_numbers.Given as goal

abbrev pub invariant-loop-number : goal.invariant-loop-number
invariant-loop-number l = (l.text.items ≡ l.initial.text.items ++ flat_map spaced_number (take l.number-index l.numbers)) × All (λ number. number < 2 ^ 32) (take l.number-index l.numbers)
