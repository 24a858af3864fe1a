use Rattle.std.proofs.Common.{All, take}
use Rattle.proof_term.specs.Steps.{NamesTerm}
use Rattle.proof_checker.proofs.nodes.name_terms.Given as goal

abbrev pub invariant-loop-part : goal.invariant-loop-part
invariant-loop-part l = All (λ part. NamesTerm l.system part.lit) (take l.part-index l.parts)
