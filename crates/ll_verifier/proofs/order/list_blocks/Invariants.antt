use Rattle.std.proofs.Common.{◌≡◌, take, map}
use Rattle.ll_links.specs.Links.{block_id}
use Rattle.ll_verifier.proofs.order.list_blocks.Given as goal

abbrev pub invariant-loop-place : goal.invariant-loop-place
invariant-loop-place l = l.blocks.items ≡ map block_id (take l.place-index l.order)
