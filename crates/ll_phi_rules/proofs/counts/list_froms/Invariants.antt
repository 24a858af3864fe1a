use Rattle.std.proofs.Common.{◌≡◌, take, map}
use Rattle.ll_phi_rules.proofs.counts.list_froms.Given as goal

abbrev pub invariant-loop-entry : goal.invariant-loop-entry
invariant-loop-entry l = l.list ≡ map (λ entry. entry.from) (take l.entry-index l.entries)
