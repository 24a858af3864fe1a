use Rattle.std.proofs.Common.{◌≡◌, ◌++◌, take, map}
use Rattle.std.specs.List.{flat_map}
use Rattle.ll_rules.specs.Items.{block_values}
use Rattle.ll_items.proofs.values.list_values.Given as goal

abbrev pub invariant-loop-block : goal.invariant-loop-block
invariant-loop-block l = l.list ≡ map (λ param. (param.name, param.width)) l.func.params ++ flat_map block_values (take l.block-index l.func.blocks)
