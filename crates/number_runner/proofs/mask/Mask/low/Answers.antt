use Rattle.std.proofs.Common.{rules, ◌∙◌, ap}
use Rattle.std.specs.Prelude.{bit_and}
use Rattle.std.proofs.Math.Facts.{Fits-of_lt}
use Rattle.number_runner.proofs.MaskLaws.{low_is, low_fits}
use Rattle.number_runner.proofs.mask.Mask.low.Goals as goal

pub overflow_cast-result : goal.overflow_cast-result
overflow_cast-result c =
    let low = low_fits c.args.number c.args.self.bits c.args.self.width c.args.self.is (search rules) in
    rw c.from.ensures (Fits-of_lt low)

pub returns : goal.returns
returns c = ap (bit_and c.args.number) c.from.ensures ∙ low_is c.args.number c.args.self.bits c.args.self.width c.args.self.is
