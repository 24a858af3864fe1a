use Rattle.std.proofs.Common.{◌≡◌, ◌++◌, take, All}
use Rattle.std.specs.List.{flat_map}
use Rattle.proof_spelling.specs.Text.{spaced_literal}
use Rattle.proof_spelling.specs.Ranges.{LitFits}
use Rattle.proof_spelling.proofs.writing.push_literals.Given as goal

abbrev pub invariant-loop-lit : goal.invariant-loop-lit
invariant-loop-lit l = (l.text.items ≡ l.initial.text.items ++ flat_map spaced_literal (take l.lit-index l.lits)) × All LitFits (take l.lit-index l.lits)
