use Rattle.std.proofs.Common.{List}
use Rattle.mix_system.specs.declared.literal.Lit.{Lit}
use Rattle.clause_search.specs.Runs.{IsReady, HasRun}
use Rattle.clause_search.proofs.clause_trail.ClauseTrail.hints.Given as goal

abbrev pub invariant-loop-at : goal.invariant-loop-at
invariant-loop-at l = (lits : List Lit) → IsReady l.self l.marks.items lits l.end l.last → HasRun l.self l.marks.items lits l.end l.at l.hints
