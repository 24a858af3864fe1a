use Rattle.std.proofs.Common.{◌≡◌, ◌++◌, ◌+◌, map, take}
use Rattle.wrap_rows.specs.Layout.{clause_from}
use Rattle.wrap_rows.specs.Phi.{clauses_from}
use Rattle.wrap_rows.proofs.phi.add_clauses.Given as goal

abbrev pub invariant-loop-one : goal.invariant-loop-one
invariant-loop-one l = record {
  row : l.next ≡ l.row + l.one-index;
  laid : l.into ≡ record l.initial.into { clauses = l.initial.into.clauses ++ map (clause_from l.row) (clauses_from 0 l.mark (take l.one-index l.incoming)) };
}
