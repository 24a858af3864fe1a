use Rattle.std.proofs.Common.{◌∙◌, ◌+◌, pos, ◌+ℤ◌, arith}
use Rattle.std.proofs.lemmas.Int.{ints}
use Rattle.ir_meaning.proofs.WrapLaws.{fits_sum, wrapped-passed}
use Rattle.ir_meaning.proofs.arithmetic.add.Goals as goal

pub returns : goal.returns
returns c =
    let x = c.signed.ensures in
    let y = c.signed-2.ensures in
    c.wrapped.ensures
    ∙ wrapped-passed ◌+ℤ◌ c.args.flags.now c.args.width (pos (c.from.result + c.from-2.result)) (pos (c.args.a + c.args.b)) _ _ _ _ x.size y.size (fits_sum c.signed.result c.signed-2.result x.size y.size) (omega (arith, ints)) x.value y.value
