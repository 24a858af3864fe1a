use Rattle.std.proofs.Common.{length}
use Rattle.proof_term.proofs.PartialLaws.{parts_bound}
use Rattle.proof_term.proofs.laws.partial_cuts_are_bounds.Goals as goal

pub returns : goal.returns
returns c = λ system cost portions partial finds point term bound valid fits where_is.
    parts_bound system cost point fits portions (length finds) partial.pending.nodes term bound partial.levels valid.levels where_is
