use Rattle.std.proofs.Common.{arith}
use Rattle.std.proofs.lemmas.Bool.Decides.{nat_tests}
use Rattle.std.proofs.lemmas.List.Sums.{count_by_more_yes, count_by_more_no}
use Rattle.ll_token.proofs.GapLaws.{gap_more}
use Rattle.ll_token.proofs.blanks.blanks_at.Goals as goal

pub loop-len-preserved : goal.loop-len-preserved
loop-len-preserved c = record {
  lines = grind (arith, nat_tests, count_by_more_yes, count_by_more_no);
  few = grind arith;
  goes_on = grind (arith, nat_tests, gap_more);
}
