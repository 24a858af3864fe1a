use Rattle.std.proofs.Common.{arith}
use Rattle.std.proofs.Math.Nat.{pow-le-pow_right}
use Rattle.ir_meaning.proofs.BitLaws.{FitsWidth-poison_if}
use Rattle.ir_meaning.proofs.operations.cast.Goals as goal

pub returns-in-Zext-clause-fits : goal.returns-in-Zext-clause-fits
returns-in-Zext-clause-fits c = λ wider.
    let below = rw c.in-Num.is at c.requires.number in
    let widened = pow-le-pow_right {n = 2} (omega arith) {i = c.args.from} {j = c.args.to} (wider c.in-Zext.is) in
    rw c.zext.ensures (FitsWidth-poison_if c.args.to c.in-Num.a _ (omega (arith, below, widened)))
