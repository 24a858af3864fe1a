use Rattle.std.proofs.Common.{◌≡◌, ◌++◌, take, All}
use Rattle.std.specs.List.{flat_map}
use Rattle.proof_spelling.specs.Lines.{step_lines}
use Rattle.proof_spelling.specs.Text.{lines_bytes}
use Rattle.proof_spelling.specs.Ranges.{LineFits}
use Rattle.proof_spelling.proofs.printing.push_steps.Given as goal

abbrev pub invariant-loop-step : goal.invariant-loop-step
invariant-loop-step l = (l.text.items ≡ l.initial.text.items ++ lines_bytes (flat_map step_lines (take l.step-index l.steps))) × All LineFits (flat_map step_lines (take l.step-index l.steps))
