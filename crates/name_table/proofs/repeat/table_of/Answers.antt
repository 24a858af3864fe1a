use Rattle.std.proofs.Common.{Bor, ℕ, List, [], get_or, refl}
use Rattle.name_table.proofs.RepeatLaws.{next_name}
use Rattle.name_table.proofs.repeat.table_of.Goals as goal

abbrev none : Bor (List ℕ)
none = record { ref_ptr = (0, 0); now = [] }

pub loop-name-preserved : goal.loop-name-preserved
loop-name-preserved c = next_name c.args.names.now c.loop-name.name-index (get_or c.args.names.now c.loop-name.name-index none) none c.loop-name-test.true refl c.loop-name.table c.add.new.self c.in_ok-add.field-0 c.loop-name.invariant c.requires c.in_ok-add.ensures.added
