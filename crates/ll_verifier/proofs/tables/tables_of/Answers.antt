use Rattle.std.proofs.Common.{◌∙◌}
use Rattle.ll_verifier.proofs.NameLaws.{values_differ, labels_differ}
use Rattle.ll_verifier.proofs.tables.tables_of.Goals as goal

pub new-requires : goal.new-requires
new-requires c = values_differ c.args.func.now c.in_ok-list_values.field-0 c.in_ok-list_values.ensures c.requires.1

pub table_of-requires : goal.table_of-requires
table_of-requires c = labels_differ c.args.func.now _ (c.items.ensures ∙ c.in_ok-list.ensures) c.requires.1
