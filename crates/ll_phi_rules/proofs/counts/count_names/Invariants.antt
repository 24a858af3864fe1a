use Rattle.std.proofs.Common.{◌≡◌, take, map}
use Rattle.ll_phi_rules.specs.Counts.{counts_of}
use Rattle.ll_phi_rules.proofs.counts.count_names.Given as goal

abbrev pub invariant-loop-name : goal.invariant-loop-name
invariant-loop-name l = l.counts.items ≡ counts_of l.labels (map (λ name. name.now) (take l.name-index l.names))
