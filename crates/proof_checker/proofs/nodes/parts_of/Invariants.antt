use Rattle.std.proofs.Common.{◌≡◌, map, take}
use Rattle.proof_checker.specs.Outcome.{multiple_of}
use Rattle.proof_checker.proofs.nodes.parts_of.Given as goal

abbrev pub invariant-loop-part : goal.invariant-loop-part
invariant-loop-part l = map multiple_of l.parts ≡ take l.part-index l.multiples
