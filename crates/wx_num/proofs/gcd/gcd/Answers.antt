use Rattle.std.proofs.lemmas.Nat.Gcd.{IsGcd-swap, IsGcd-from_mod}
use Rattle.wx_num.proofs.gcd.gcd.Goals as goal

pub returns-then-x-le-WORD-2 : goal.returns-then-x-le-WORD-2
returns-then-x-le-WORD-2 c = IsGcd-swap c.args.y c.args.x _ (IsGcd-from_mod c.args.y c.args.x _ c.gcd_of_words-then-x-le-WORD-2.ensures)

pub returns-then-y-le-WORD-2 : goal.returns-then-y-le-WORD-2
returns-then-y-le-WORD-2 c = IsGcd-from_mod c.args.x c.args.y _ c.gcd_of_words-then-y-le-WORD-2.ensures
