use Rattle.ll_verifier.proofs.NameLaws.{labels_differ}
use Rattle.ll_verifier.proofs.items.other_entries.Goals as goal

pub new-requires-clause-different : goal.new-requires-clause-different
new-requires-clause-different c = labels_differ c.args.func.now c.args.tables.now.labels c.requires.tables.labels c.requires.divides.0.0.0.0.0.1
