use Rattle.std.proofs.Common.{◌≡◌, take}
use Rattle.ll_phi_rules.specs.Counts.{target_counts}
use Rattle.ll_phi_rules.proofs.counts.count_targets.Given as goal

abbrev pub invariant-loop-block : goal.invariant-loop-block
invariant-loop-block l = l.rows ≡ target_counts l.labels (take l.block-index l.blocks)
