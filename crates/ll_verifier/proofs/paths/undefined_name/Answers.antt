use Rattle.std.proofs.Common.{refl}
use Rattle.ll_rules.specs.Items.{labels_of, values_of}
use Rattle.ll_verifier.proofs.NameLaws.{labels_differ, values_differ}
use Rattle.ll_verifier.proofs.RuleLaws.{names_kept}
use Rattle.ll_verifier.proofs.paths.undefined_name.Goals as goal

pub first_undefined-requires-clause-keeps : goal.first_undefined-requires-clause-keeps
first_undefined-requires-clause-keeps c = (names_kept c.args.func.now c.requires.connected.0.0).0

pub first_undefined-requires-clause-different_values : goal.first_undefined-requires-clause-different_values
first_undefined-requires-clause-different_values c = values_differ c.args.func.now (values_of c.args.func.now) refl (names_kept c.args.func.now c.requires.connected.0.0).1

pub first_undefined-requires-clause-different_labels : goal.first_undefined-requires-clause-different_labels
first_undefined-requires-clause-different_labels c = labels_differ c.args.func.now (labels_of c.args.func.now) refl (names_kept c.args.func.now c.requires.connected.0.0).1

pub first_undefined-requires-clause-named : goal.first_undefined-requires-clause-named
first_undefined-requires-clause-named c = rw (c.requires.tables.sites, c.requires.tables.values, c.requires.tables.labels) c.requires.connected.0.0.0.0.0.0.0.1
