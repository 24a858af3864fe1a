use Rattle.std.proofs.Common.{ap}
use Rattle.ll_links.proofs.LinkLaws.{whole}
use Rattle.ll_links.proofs.table.resolve.Goals as goal

pub returns : goal.returns
returns c =
    whole c.args.values.now c.args.labels.now c.args.func.now.blocks c.args.sites.now _ c.requires.sites c.requires.named
    (ap (λ lists. lists.0) c.in_ok-sources.ensures) (ap (λ lists. lists.0) c.in_ok-blocks.ensures) c.in_ok-results.ensures (rw c.items.ensures at c.in_ok-starts.ensures)
