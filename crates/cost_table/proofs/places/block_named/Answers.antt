use Rattle.cost_table.proofs.LabelLaws.{place_names}
use Rattle.cost_table.proofs.places.block_named.Goals as goal

pub returns : goal.returns
returns c = rw c.find.ensures.place (rw c.bytes.ensures (place_names c.args.name.now c.args.labels.now))
