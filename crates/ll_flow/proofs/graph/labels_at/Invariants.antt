use Rattle.std.proofs.Common.{◌≡◌, map, take}
use Rattle.ll_flow.specs.Paths.{label_of}
use Rattle.ll_flow.proofs.graph.labels_at.Given as goal

abbrev pub invariant-loop-place : goal.invariant-loop-place
invariant-loop-place l = l.labels ≡ map (label_of l.func) (take l.place-index l.places)
