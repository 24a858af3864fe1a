use Rattle.std.proofs.Common.{◌∙◌, ap, length}
use Rattle.flat_lists.proofs.PieceLaws.{count_is}
use Rattle.flat_lists.proofs.lists.FlatLists.len.Goals as goal

pub returns : goal.returns
returns g c = ap length c.as_slice.ensures.value ∙ count_is c.self.inside.ends.items c.self.inside.items.items c.args.self.now c.self.view_is
