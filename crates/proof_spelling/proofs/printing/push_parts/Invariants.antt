use Rattle.std.proofs.Common.{◌≡◌, ◌++◌, take, All, map}
use Rattle.std.specs.List.{flat_map}
use Rattle.proof_spelling.specs.Lines.{multiple_of}
use Rattle.proof_spelling.specs.Text.{spaced_multiple}
use Rattle.proof_spelling.specs.Ranges.{MultipleFits}
use Rattle.proof_spelling.proofs.printing.push_parts.Given as goal

abbrev pub invariant-loop-part : goal.invariant-loop-part
invariant-loop-part l = (l.text.items ≡ l.initial.text.items ++ flat_map spaced_multiple (map multiple_of (take l.part-index l.parts))) × All MultipleFits (map multiple_of (take l.part-index l.parts))
