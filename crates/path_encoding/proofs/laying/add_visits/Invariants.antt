use Rattle.std.proofs.Common.{◌≡◌, ◌++◌, map}
use Rattle.std.specs.Prelude.{flat_map}
use Rattle.std.specs.List.{range_with_len}
use Rattle.wrap_rows.specs.Normal.{clause_of}
use Rattle.path_encoding.specs.Spots.{cases_before}
use Rattle.path_encoding.specs.Ends.{block_clauses}
use Rattle.path_encoding.proofs.laying.add_visits.Given as goal

abbrev pub invariant-loop-at : goal.invariant-loop-at
invariant-loop-at l = record {
  before : l.before ≡ cases_before l.sound l.at;
  laid : l.into ≡ record l.initial.into { clauses = l.initial.into.clauses ++ map clause_of (flat_map (block_clauses l.sound l.spots) (range_with_len 0 l.at)) };
}
