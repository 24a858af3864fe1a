use Rattle.name_table.proofs.NameTableLaws.{added}
use Rattle.name_table.proofs.table.NameTable.add.Goals as goal

pub returns-clause-added : goal.returns-clause-added
returns-clause-added c = rw (← c.self.view_is, ← c.new.ensures) (added c.new.result c.self.inside.names.keys c.insert.new.self.keys c.in_ok-insert.field-0 c.in_ok-insert.ensures.added c.in_ok-insert.ensures.keys)
