use Rattle.std.proofs.Common.{◌≡◌, ℕ, List, ◌++◌, length}
use Rattle.proof_checker.specs.Verdict.{lines}
use Rattle.proof_checker.specs.Fed.{HasRead}
use Rattle.proof_checker.proofs.checker.check.Given as goal

-- the lines that were fed and those that are left are the text's
abbrev pub invariant-loop-line : goal.invariant-loop-line
invariant-loop-line l = (fed : List (List ℕ)) × HasRead l.system l.fn.cost fed l.checker × (lines l.text ≡ fed ++ lines l.left)

abbrev pub decreases-loop-line : goal.decreases-loop-line
decreases-loop-line l = length l.left
