use Rattle.std.proofs.Common.{refl}
use Rattle.ll_rules.specs.Items.{labels_of}
use Rattle.ll_verifier.proofs.NameLaws.{labels_differ}
use Rattle.ll_verifier.proofs.RuleLaws.{names_kept}
use Rattle.ll_verifier.proofs.paths.check_paths.Goals as goal

pub flow_of-requires-clause-keeps : goal.flow_of-requires-clause-keeps
flow_of-requires-clause-keeps c = (names_kept c.args.func.now c.requires.entries).0

pub flow_of-requires-clause-different : goal.flow_of-requires-clause-different
flow_of-requires-clause-different c = labels_differ c.args.func.now (labels_of c.args.func.now) refl (names_kept c.args.func.now c.requires.entries).1
