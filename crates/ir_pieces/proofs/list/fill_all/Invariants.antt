use Rattle.std.proofs.Common.{ℤ, List, length, drop}
use Rattle.ir_pieces.specs.Lists.{ArePlaced}
use Rattle.ir_pieces.proofs.FillLaws.{IsFilled, FindAll}
use Rattle.ir_pieces.proofs.list.fill_all.Given as goal

-- with the pieces that are left filled in, it is the whole
abbrev pub invariant-loop-it : goal.invariant-loop-it
invariant-loop-it l = record {
  places : ArePlaced 0 (length l.point) (drop l.it-index l.placed);
  able : FindAll (drop l.it-index l.placed) l.point;
  whole : (new : List ℤ) → IsFilled (drop l.it-index l.placed) l.point new → IsFilled l.placed l.initial.point new;
}
