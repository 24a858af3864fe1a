use Rattle.std.proofs.Common.{◌≡◌, ◌++◌, map, take}
use Rattle.wrap_rows.specs.Normal.{row_of}
use Rattle.wrap_rows.specs.Phi.{row_for}
use Rattle.wrap_rows.proofs.phi.add_rows.Given as goal

abbrev pub invariant-loop-one : goal.invariant-loop-one
invariant-loop-one l =
    l.into ≡ record l.initial.into { rows = l.initial.into.rows ++ map row_of (map (row_for l.first) (take l.one-index l.incoming)) }
