use Rattle.std.proofs.Common.{◌+◌, ◌≤◌, length}
use Rattle.piece_list.specs.Drafts.{IsOver}
use Rattle.piece_list.proofs.blocks.declare_body.Given as goal

-- so many instructions were declared
abbrev pub invariant-loop-k : goal.invariant-loop-k
invariant-loop-k l = (l.k ≤ length l.body) × IsOver l.sound l.at (l.phis + l.k) l.initial.into l.into
