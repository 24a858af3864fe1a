use Rattle.std.proofs.Common.{◌≡◌, ◌++◌, ◌-◌, map}
use Rattle.wrap_rows.specs.Layout.{clause_from}
use Rattle.path_encoding.specs.PathLayout.{flow_clauses}
use Rattle.path_encoding.proofs.rows.add_flow_clauses.Given as goal

abbrev pub invariant-loop-row : goal.invariant-loop-row
invariant-loop-row l =
    l.into ≡ record l.initial.into { clauses = l.initial.into.clauses ++ map (clause_from l.first) (flow_clauses (l.row - l.first)) }
