use Rattle.std.proofs.Common.{All, take}
use Rattle.proof_term.specs.Steps.{NamesTerm}
use Rattle.open_levels.proofs.names.names_terms.Given as goal

abbrev pub invariant-loop-lit : goal.invariant-loop-lit
invariant-loop-lit l = All (NamesTerm l.system) (take l.lit-index l.lits)
