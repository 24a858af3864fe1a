use Rattle.ll_items.proofs.ListingLaws.{on_ok-map, block_names}
use Rattle.ll_items.proofs.names.push_block.Goals as goal

pub returns : goal.returns
returns c =
    on_ok-map c.push_results.result _ _ c.push_results.ensures (λ added.
    block_names c.args.block.now c.args.list.now c.push.new.self c.push_phis.new.list c.push_results.new.list c.bytes.result.now c.items.result.now c.items-2.result.now c.bytes.ensures c.items.ensures c.items-2.ensures c.in_ok-push.ensures.ok c.in_ok-push_phis.ensures added)
