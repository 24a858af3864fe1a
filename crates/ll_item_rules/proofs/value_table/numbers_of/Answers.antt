use Rattle.std.proofs.Common.{[], get_or, refl}
use Rattle.ll_items.specs.declared.values.ValueRef.{ValueRef}
use Rattle.ll_item_rules.proofs.ValueLaws.{next_value}
use Rattle.ll_item_rules.proofs.value_table.numbers_of.Goals as goal

abbrev none : ValueRef
none = record { name = record { ref_ptr = (0, 0); now = [] }; width = 0 }

pub loop-value-preserved : goal.loop-value-preserved
loop-value-preserved c = next_value c.items-items.result.now c.loop-value.value-index (get_or c.items-items.result.now c.loop-value.value-index none) none c.args.values.now c.loop-value.numbers c.add.new.self c.in_ok-add.field-0 c.loop-value-test.true refl c.items-items.ensures c.requires c.loop-value.invariant c.in_ok-add.ensures.added
