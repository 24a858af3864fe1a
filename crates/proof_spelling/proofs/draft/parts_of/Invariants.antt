use Rattle.std.proofs.Common.{◌≡◌, map, take}
use Rattle.proof_spelling.specs.Lines.{multiple_of}
use Rattle.proof_spelling.proofs.draft.parts_of.Given as goal

abbrev pub invariant-loop-part : goal.invariant-loop-part
invariant-loop-part l = map multiple_of l.parts ≡ take l.part-index l.multiples
