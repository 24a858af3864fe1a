use Rattle.std.proofs.Common.{arith}
use Rattle.wx_num.proofs.DivisorLaws.{without_twos-odd, twos_back}
use Rattle.wx_num.proofs.gcd.gcd_of_two.Goals as goal

pub gcd_with_odd-requires : goal.gcd_with_odd-requires
gcd_with_odd-requires c = without_twos-odd 128 c.args.x (omega arith) (omega arith)

pub returns : goal.returns
returns c = rw c.min.ensures (twos_back 128 c.args.x c.args.y c.gcd_with_odd.result (omega arith) (omega arith) (omega arith) (omega arith) c.gcd_with_odd.ensures)
