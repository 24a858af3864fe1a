use Rattle.ll_phi_rules.proofs.phis.PhiEntriesDiffer.new.Goals as goal

pub invariant_of-result : goal.invariant_of-result
invariant_of-result c = record { labels_are = c.requires.labels; different = c.requires.different; counts = c.in_ok-targets.ensures }
