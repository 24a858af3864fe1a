use Rattle.witness_report.proofs.refusals.push_read.Goals as goal

pub returns-in-Unexpected : goal.returns-in-Unexpected
returns-in-Unexpected c = rw (c.in-Unexpected.is) c.push_at_token-in-Unexpected.ensures
