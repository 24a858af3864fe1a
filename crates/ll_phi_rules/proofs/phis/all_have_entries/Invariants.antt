use Rattle.std.proofs.Common.{◌≡◌, drop}
use Rattle.std.specs.List.{list_all}
use Rattle.ll_phi_rules.specs.Phis as spec
use Rattle.ll_phi_rules.proofs.phis.all_have_entries.Given as goal

abbrev pub invariant-loop-block : goal.invariant-loop-block
invariant-loop-block l = list_all (spec.has_entries l.label l.entries) (drop l.block-index l.blocks) ≡ list_all (spec.has_entries l.label l.entries) l.blocks
