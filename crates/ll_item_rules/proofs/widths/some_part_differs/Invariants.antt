use Rattle.std.proofs.Common.{◌≡◌, drop, map}
use Rattle.std.specs.List.{list_any}
use Rattle.ll_items.specs.Parts.{part_of}
use Rattle.ll_item_rules.specs.Widths as spec
use Rattle.ll_item_rules.proofs.widths.some_part_differs.Given as goal

abbrev pub invariant-loop-part : goal.invariant-loop-part
invariant-loop-part l = list_any (spec.part_differs l.values) (map part_of (drop l.part-index l.parts)) ≡ list_any (spec.part_differs l.values) (map part_of l.parts)
