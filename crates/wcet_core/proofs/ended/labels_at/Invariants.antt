use Rattle.std.proofs.Common.{◌≡◌, ◌++◌, drop}
use Rattle.ir_runner.specs.LastRun.{labels_at}
use Rattle.wcet_core.proofs.ended.labels_at.Given as goal

-- the labels so far, and those that are left
abbrev pub invariant-loop-place : goal.invariant-loop-place
invariant-loop-place l = l.path ++ labels_at l.sound.func (drop l.place-index l.places) ≡ labels_at l.sound.func l.places
