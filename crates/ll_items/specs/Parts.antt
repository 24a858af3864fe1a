-- What items name, as a function lends it.
use Rattle.ll_rules.specs.Items.{Part, Use, Goal}
use Rattle.ll_items.specs.declared.parts.PartRef.{PartRef}
use Rattle.ll_items.specs.declared.parts.PartRef.TheVariants as lent

abbrev pub part_of : PartRef → Part
part_of (lent.Use operand width) = Use operand.now width
part_of (lent.Goal label) = Goal label.now
