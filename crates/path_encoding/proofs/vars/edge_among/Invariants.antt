use Rattle.std.proofs.Common.{◌≡◌}
use Rattle.std.specs.Prelude.{zip}
use Rattle.path_encoding.specs.Spots.{edge_among}
use Rattle.path_encoding.proofs.PairLaws.{pairs_from}
use Rattle.path_encoding.proofs.vars.edge_among.Given as goal

abbrev pub invariant-loop-item : goal.invariant-loop-item
invariant-loop-item l = edge_among l.order (pairs_from l.edges l.vars l.item) l.at l.to.0 ≡ edge_among l.order (zip l.edges l.vars) l.at l.to.0
