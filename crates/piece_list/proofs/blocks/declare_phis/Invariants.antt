use Rattle.std.proofs.Common.{◌≤◌, length}
use Rattle.piece_list.specs.Drafts.{IsOver}
use Rattle.piece_list.proofs.blocks.declare_phis.Given as goal

-- so many phis were declared
abbrev pub invariant-loop-item : goal.invariant-loop-item
invariant-loop-item l = (l.item ≤ length l.phis) × IsOver l.sound l.at l.item l.initial.into l.into
