use Rattle.std.proofs.Common.{All, take}
use Rattle.box_check.specs.Bounds.{Says}
use Rattle.tree_check.proofs.boxes.are_in.Given as goal

abbrev pub invariant-loop-part : goal.invariant-loop-part
invariant-loop-part l = All (λ part. Says l.bounds part.lit) (take l.part-index l.parts)
