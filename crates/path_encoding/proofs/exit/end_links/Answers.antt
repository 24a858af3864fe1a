use Rattle.std.proofs.Common.{◌+◌, length, subst, arith}
use Rattle.ll_rules.specs.Items.{Item, OfEnd, labels_of, values_of, targets_of}
use Rattle.ll_links.specs.Items.{item_at}
use Rattle.ll_links.specs.Links.{AreLinks, end_operands}
use Rattle.path_encoding.proofs.ResolvedLaws.{items_count, sources_known, places_known}
use Rattle.path_encoding.proofs.exit.end_links.Goals.{After-links}
use Rattle.path_encoding.proofs.exit.end_links.Goals as goal

pub links-requires : goal.links-requires
links-requires c = omega (arith, items_count c.args.sound.now c.args.at c.args.place.0 c.args.block.now c.requires, c.len.ensures, c.len-2.ensures)

linked : (c : After-links) → AreLinks (values_of c.args.sound.now.func) (labels_of c.args.sound.now.func) (OfEnd c.args.block.now.end) c.links.result
linked c =
    let it = c.args.sound.now in
    let block = c.args.block.now in
    let there : AreLinks (values_of it.func) (labels_of it.func) (item_at it.func.blocks c.args.place.0 (length block.phis + length block.body)) c.links.result = rw (← c.len.ensures, ← c.len-2.ensures) c.links.ensures.links in
    subst (λ (item : Item). AreLinks (values_of it.func) (labels_of it.func) item c.links.result) (c.items_of_a_block.ensures.end it.func.blocks c.args.place.0 block c.requires.low c.requires.stands) there

pub returns-clause-sources : goal.returns-clause-sources
returns-clause-sources c = sources_known c.args.sound.now.func c.links.result.sources.now (end_operands c.args.block.now.end) (linked c).sources

pub returns-clause-targets : goal.returns-clause-targets
returns-clause-targets c = places_known c.args.sound.now.func c.links.result.blocks.now (targets_of c.args.block.now.end) (linked c).blocks
