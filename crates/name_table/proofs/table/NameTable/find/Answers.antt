use Rattle.std.proofs.Common.{◌∙◌}
use Rattle.name_table.proofs.NameTableLaws.{place_of-is}
use Rattle.name_table.proofs.table.NameTable.find.Goals as goal

pub returns-clause-place : goal.returns-clause-place
returns-clause-place c = rw (← c.self.view_is, ← c.new.ensures) (c.get_index_of.ensures.index ∙ place_of-is c.new.result c.self.inside.names.keys)
