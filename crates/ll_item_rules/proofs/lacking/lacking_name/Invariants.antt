use Rattle.std.proofs.Common.{◌≡◌, drop, map}
use Rattle.ll_items.specs.Parts.{part_of}
use Rattle.ll_item_rules.specs.Lacking as spec
use Rattle.ll_item_rules.proofs.lacking.lacking_name.Given as goal

abbrev pub invariant-loop-part : goal.invariant-loop-part
invariant-loop-part l = spec.lacking_name l.values l.labels (map part_of (drop l.part-index l.parts)) ≡ spec.lacking_name l.values l.labels (map part_of l.parts)
