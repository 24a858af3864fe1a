use Rattle.wx_num.proofs.DivisorLaws.{IsGcd-zero}
use Rattle.wx_num.proofs.number.Num.gcd.Goals as goal

pub returns-clause-zero : goal.returns-clause-zero
returns-clause-zero c = IsGcd-zero _ _ _ c.gcd.ensures
