use Rattle.number_runner.proofs.MaskLaws.{half_is}
use Rattle.number_runner.proofs.mask.Mask.half.Goals as goal

pub returns : goal.returns
returns c = half_is c.args.self.bits c.args.self.width c.args.self.is
