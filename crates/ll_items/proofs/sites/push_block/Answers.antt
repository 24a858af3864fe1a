use Rattle.std.proofs.Common.{refl}
use Rattle.ll_items.proofs.ListingLaws.{on_ok-map, block_sites}
use Rattle.ll_items.proofs.sites.push_block.Goals as goal

pub returns : goal.returns
returns c =
    on_ok-map c.push.result _ _ c.push.ensures.ok (λ added.
    block_sites c.args.block.now c.args.at c.args.list.now c.push_phis.new.list c.push_body.new.list c.push.new.self c.items.result.now c.items-2.result.now c.args.block.now.end c.len-phis.result c.len-body.result c.items.ensures c.items-2.ensures refl c.len-phis.ensures c.len-body.ensures c.in_ok-push_phis.ensures c.in_ok-push_body.ensures added)
