-- What is known of a search between two calls of a script.
use Rattle.std.specs.Prelude.{◌≡◌, length, All}
use Rattle.bound_trail.specs.Trail.{box}
use Rattle.clause_search.specs.Search.{Search, WasQuiet}
use Rattle.clause_search.specs.Settled.{IsSettled}
use Rattle.clause_search.specs.Answers.{IsConflict}
use Rattle.search_rows.specs.declared.run.Run.{Run}
use Rattle.search_rows.specs.declared.run.Standing.{Standing}
use Rattle.search_rows.specs.declared.run.Standing.TheVariants.{Open, Settled, Broken}

abbrev pub Knows : Standing → Search → Type 0
Knows Open state = Unit {0}
Knows Settled state = All (IsSettled (box state.trail)) state.store
Knows (Broken at) state = IsConflict state at

-- the search is over so many variables and rows, and at the end of each lower level every clause
-- asked for nothing
pub record IsKnown (run : Run) : Type 0 where
  pub vars : length run.search.trail.ranges ≡ run.vars
  pub rows : run.search.trail.rows ≡ run.rows
  pub was_quiet : WasQuiet run.search
  pub knows : Knows run.standing run.search
