use Rattle.std.proofs.Common.{◌≡◌, length}
use Rattle.box_check.specs.declared.bounds.Bounds.{Bounds}
use Rattle.box_check.specs.Bounds.{Extends}
use Rattle.box_check.proofs.bounds.Bounds.back_to.Given as goal

-- what the bounds extended at the mark they extend still
abbrev pub invariant-loop-self : goal.invariant-loop-self
invariant-loop-self l = (start : Bounds) → Extends start l.initial.self → l.mark ≡ length start.changes.items → Extends start l.self

abbrev pub decreases-loop-self : goal.decreases-loop-self
decreases-loop-self l = length l.self.changes.items
