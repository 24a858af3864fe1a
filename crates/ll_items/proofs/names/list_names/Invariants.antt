use Rattle.std.proofs.Common.{◌≡◌, ◌∷◌, ◌++◌, take, map}
use Rattle.std.specs.List.{flat_map}
use Rattle.ll_rules.specs.Items.{block_values}
use Rattle.ll_items.proofs.names.list_names.Given as goal

abbrev pub invariant-loop-block : goal.invariant-loop-block
invariant-loop-block l = l.list ≡ map (λ param. param.name) l.func.params ++ flat_map (λ block. block.label ∷ map (λ value. value.0) (block_values block)) (take l.block-index l.func.blocks)
