use Rattle.std.proofs.Common.{ℕ, List}
use Rattle.mix_system.specs.declared.literal.Term.{Term}
use Rattle.mix_system.specs.System.{System}
use Rattle.proof_checker.specs.Fed.{HasRead}
use Rattle.proof_rows.proofs.answers.fed.Given as goal

abbrev pub invariant-loop-line : goal.invariant-loop-line
invariant-loop-line l = (system : System) × (cost : Term) × (fed : List (List ℕ)) × HasRead system cost fed l.checker
