use Rattle.std.proofs.Common.{[]}
use Rattle.ll_item_rules.proofs.ValueLaws.{width_some, width_none}
use Rattle.ll_item_rules.proofs.value_table.ValueTable.width.Goals as goal

pub returns-in-Some : goal.returns-in-Some
returns-in-Some c = width_some c.args.name.now c.self.inside.values c.args.self.now c.self.inside.numbers c.items.result.now c.in-Some.number (record { name = record { ref_ptr = (0, 0); now = [] }; width = 0 }) c.self.inside.same c.items.ensures c.self.view_is c.in-Some.ensures.place

pub returns-in-None : goal.returns-in-None
returns-in-None c = width_none c.args.name.now c.self.inside.values c.args.self.now c.self.inside.numbers c.self.inside.same c.self.view_is c.in-None.ensures.place
