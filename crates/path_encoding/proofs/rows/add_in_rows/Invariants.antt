use Rattle.std.proofs.Common.{◌≡◌, ◌++◌, ◌-◌, map}
use Rattle.std.specs.List.{range_with_len}
use Rattle.wrap_rows.specs.Normal.{row_of}
use Rattle.path_encoding.specs.FlowRows.{in_row}
use Rattle.path_encoding.proofs.rows.add_in_rows.Given as goal

abbrev pub invariant-loop-at : goal.invariant-loop-at
invariant-loop-at l =
    l.into ≡ record l.initial.into { rows = l.initial.into.rows ++ map row_of (map (in_row l.sound l.spots) (range_with_len 1 (l.at - 1))) }
