use Rattle.bound_trail.specs.Falsified.{IsDownTo}
use Rattle.bound_trail.proofs.trail.BoundTrail.cause.Given as goal

abbrev pub invariant-loop-edge : goal.invariant-loop-edge
invariant-loop-edge l = IsDownTo l.self l.lit l.at l.edge

abbrev pub decreases-loop-edge : goal.decreases-loop-edge
decreases-loop-edge l = l.at
