use Rattle.std.proofs.Common.{refl}
use Rattle.ll_rules.specs.Items.{labels_of}
use Rattle.ll_verifier.proofs.NameLaws.{labels_differ}
use Rattle.ll_verifier.proofs.RuleLaws.{names_kept}
use Rattle.ll_verifier.proofs.paths.check_flow.Goals as goal

pub first_unreached-requires-clause-different : goal.first_unreached-requires-clause-different
first_unreached-requires-clause-different c = labels_differ c.args.func.now (labels_of c.args.func.now) refl (names_kept c.args.func.now c.requires.acyclic.0).1
