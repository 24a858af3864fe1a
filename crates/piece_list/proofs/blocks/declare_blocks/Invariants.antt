use Rattle.piece_list.specs.Drafts.{IsOver}
use Rattle.piece_list.proofs.blocks.declare_blocks.Given as goal

-- the blocks before this one were declared
abbrev pub invariant-loop-at : goal.invariant-loop-at
invariant-loop-at l = IsOver l.sound l.at 0 l.initial.into l.into
