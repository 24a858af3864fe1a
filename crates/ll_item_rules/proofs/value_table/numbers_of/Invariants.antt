use Rattle.std.proofs.Common.{◌≡◌, take, map}
use Rattle.ll_items.specs.Values.{value_of}
use Rattle.ll_item_rules.proofs.value_table.numbers_of.Given as goal

abbrev pub invariant-loop-value : goal.invariant-loop-value
invariant-loop-value l = l.numbers ≡ map (λ value. value.0) (map value_of (take l.value-index l.items))
