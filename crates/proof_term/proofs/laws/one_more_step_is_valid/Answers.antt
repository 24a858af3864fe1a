use Rattle.std.proofs.Common.{length}
use Rattle.proof_term.proofs.PartialLaws.{parts_more}
use Rattle.proof_term.proofs.laws.one_more_step_is_valid.Goals as goal

pub returns : goal.returns
returns c = λ system cost portions partial step finds valid stands is goes_on. record {
  levels = parts_more system cost portions (length finds) partial.pending.nodes step partial.levels valid.levels stands is goes_on;
  rising = valid.rising;
  finds_of = valid.finds_of;
}
