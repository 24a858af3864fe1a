use Rattle.std.proofs.Common.{◌≤◌, length}
use Rattle.piece_list.specs.Drafts.{AreLeft}
use Rattle.piece_list.proofs.params.declare_params.Given as goal

-- so many parameters were declared
abbrev pub invariant-loop-at : goal.invariant-loop-at
invariant-loop-at l = (l.at ≤ length l.sound.func.params) × AreLeft l.sound l.at l.initial.into l.into
