use Rattle.ll_rules.specs.Items.{labels_of, values_of}
use Rattle.ll_links.proofs.ItemLaws.{has_item, are_links}
use Rattle.ll_verifier.proofs.sound.Sound.links.Goals as goal

pub item-requires : goal.item-requires
item-requires c =
    let it = c.self.inside in
    has_item (values_of it.func) (labels_of it.func) it.func.blocks it.checked.links c.self.invariant.sound.whole c.args.block.0 c.args.item (rw (← c.self.view_is) at c.requires)

pub returns-clause-links : goal.returns-clause-links
returns-clause-links c =
    let it = c.self.inside in
    rw (← c.self.view_is) (are_links (values_of it.func) (labels_of it.func) it.func.blocks it.checked.links c.self.invariant.sound.whole c.args.block.0 c.args.item (rw (← c.self.view_is) at c.requires) _ c.item.ensures)
