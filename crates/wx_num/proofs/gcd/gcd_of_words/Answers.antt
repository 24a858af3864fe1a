use Rattle.std.proofs.Common.{arith}
use Rattle.wx_num.proofs.DivisorLaws.{without_twos-odd, twos_back}
use Rattle.wx_num.proofs.gcd.gcd_of_words.Goals as goal

pub gcd_with_odd_word-requires : goal.gcd_with_odd_word-requires
gcd_with_odd_word-requires c = without_twos-odd 64 c.args.x (omega arith) (omega arith)

pub returns : goal.returns
returns c = rw c.min.ensures (twos_back 64 c.args.x c.args.y c.gcd_with_odd_word.result (omega arith) (omega arith) (omega arith) (omega arith) c.gcd_with_odd_word.ensures)
