use Rattle.std.proofs.Common.{◌∙◌, ◌^◌, ◌-◌, arith}
use Rattle.std.proofs.lemmas.Int.{ints}
use Rattle.ir_meaning.proofs.ModuloLaws.{modulo-raised, shared}
use Rattle.ir_meaning.proofs.whole.modulo.Goals as goal

pub returns : goal.returns
returns c =
    c.low_bits.ensures
    ∙ modulo-raised c.args.width (2 ^ (32 - c.args.width)) (2 ^ 32) _ c.args.z (shared c.args.width c.requires.width) (omega (arith, ints))
