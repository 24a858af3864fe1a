use Rattle.std.proofs.Common.{arith}
use Rattle.std.proofs.lemmas.Nat.Gcd.{IsGcd-from_zero}
use Rattle.wx_num.proofs.DivisorLaws.{turn}
use Rattle.wx_num.proofs.gcd.gcd_with_odd_word.Goals as goal

pub loop-rest-preserved : goal.loop-rest-preserved
loop-rest-preserved c =
    let t = turn 64 c.loop-rest.odd c.loop-rest.rest c.min-odd.result c.abs_diff-rest.result (omega arith) (omega arith) c.loop-rest.invariant.is_odd c.min-odd.ensures c.abs_diff-rest.ensures in
    record { is_odd = t.is_odd; same = λ g gcd. c.loop-rest.invariant.same g (t.same g gcd) }

pub returns : goal.returns
returns c = c.loop-rest.invariant.same _ (IsGcd-from_zero _ _ (omega arith))
