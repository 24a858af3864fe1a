use Rattle.ll_verifier.proofs.CountLaws.{few_values, few_items}
use Rattle.ll_verifier.proofs.items.check_sites.Goals as goal

pub resolve-requires-clause-few_values : goal.resolve-requires-clause-few_values
resolve-requires-clause-few_values c = few_values c.args.func.now c.args.tables.now.values c.requires.tables.values c.requires.names.0

pub resolve-requires-clause-few_items : goal.resolve-requires-clause-few_items
resolve-requires-clause-few_items c = few_items c.args.func.now c.requires.names.0
