use Rattle.std.proofs.Common.{ℕ, ◌<◌, List, get_or}
use Rattle.mix_system.specs.declared.literal.Lit.{Lit}
use Rattle.proof_term.specs.Weaker.{IsFree}
use Rattle.mixed_rows.proofs.goals.are_clauses_free.Given as goal

abbrev pub invariant-loop-clause : goal.invariant-loop-clause
invariant-loop-clause l = (k : ℕ) (d : List Lit) → k < l.clause → IsFree l.term (get_or l.system.clauses k d)
