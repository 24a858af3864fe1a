use Rattle.std.proofs.Common.{List}
use Rattle.ll_verifier.specs.declared.order.PositionEdge.{PositionEdge}
use Rattle.portion_cuts.specs.Reach.{AreSteps}
use Rattle.portion_cuts.proofs.CutLaws.{AreFound}
use Rattle.portion_cuts.proofs.cuts.list_cuts.Given as goal

abbrev pub invariant-loop-at : goal.invariant-loop-at
invariant-loop-at l = (edges : List PositionEdge) → AreSteps edges l.steps → AreFound edges l.at l.reach l.cuts.items
