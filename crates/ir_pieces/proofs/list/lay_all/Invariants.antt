use Rattle.std.proofs.Common.{◌≡◌, ◌+◌, ◌^◌, ◌<◌, length, drop}
use Rattle.mix_system.specs.System.{System}
use Rattle.wrap_rows.specs.Piece.{Lays}
use Rattle.wrap_rows.specs.Small.{IsCompact}
use Rattle.ir_pieces.specs.Lists.{ArePlaced, joined}
use Rattle.ir_pieces.proofs.list.lay_all.Given as goal

-- with the pieces that are left laid, it is the whole
abbrev pub invariant-loop-it : goal.invariant-loop-it
invariant-loop-it l = record {
  ranges : l.into.ranges ≡ l.initial.into.ranges;
  places : ArePlaced 0 (length l.into.ranges) (drop l.it-index l.placed);
  rows : length l.into.rows + length (joined (drop l.it-index l.placed)).rows < 2 ^ 31;
  clauses : length l.into.clauses + length (joined (drop l.it-index l.placed)).clauses < 2 ^ 31;
  whole : (new : System) → Lays (joined (drop l.it-index l.placed)) l.into new → Lays (joined l.placed) l.initial.into new;
  compact : IsCompact l.initial.into → IsCompact l.into;
}
