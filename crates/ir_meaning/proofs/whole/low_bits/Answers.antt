use Rattle.std.proofs.lemmas.Nat.{and_mask}
use Rattle.ir_meaning.proofs.whole.low_bits.Goals as goal

pub returns : goal.returns
returns c = rw c.power.ensures (and_mask c.args.x c.args.width)
