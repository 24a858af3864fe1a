use Rattle.std.proofs.Common.{◌≡◌, ◌++◌, map}
use Rattle.std.specs.List.{filter, range_with_len}
use Rattle.wrap_rows.specs.Normal.{row_of}
use Rattle.path_encoding.specs.Spots.{block_at}
use Rattle.path_encoding.specs.FlowRows.{goes_on, out_row}
use Rattle.path_encoding.proofs.rows.add_out_rows.Given as goal

abbrev pub invariant-loop-at : goal.invariant-loop-at
invariant-loop-at l =
    l.into ≡ record l.initial.into { rows = l.initial.into.rows ++ map row_of (map (out_row l.sound l.spots) (filter (λ at. goes_on (block_at l.sound at).end) (range_with_len 0 l.at))) }
