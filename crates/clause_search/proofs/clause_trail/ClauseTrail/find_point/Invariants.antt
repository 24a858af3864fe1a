use Rattle.clause_search.specs.Marks.{IsSearching}
use Rattle.clause_search.proofs.clause_trail.ClauseTrail.find_point.Given as goal

abbrev pub invariant-loop-low : goal.invariant-loop-low
invariant-loop-low l = IsSearching l.self l.start l.low l.at l.initial.marks.items l.marks.items

abbrev pub decreases-loop-low : goal.decreases-loop-low
decreases-loop-low l = l.at
