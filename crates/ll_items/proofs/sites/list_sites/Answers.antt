use Rattle.ll_items.specs.Sites.{sites_of}
use Rattle.ll_items.proofs.ListingLaws.{lent_sites_more}
use Rattle.ll_items.proofs.sites.list_sites.Goals as goal

pub loop-at-preserved : goal.loop-at-preserved
loop-at-preserved c = lent_sites_more c.items-block-items.result.now c.args.func.now.blocks c.loop-at.at c.block-item.result c.loop-at.list c.push_block.new.list (sites_of c.args.func.now) c.items-block-items.ensures c.loop-at-test.true c.block-item.is c.in_ok-push_block.ensures c.loop-at.invariant
