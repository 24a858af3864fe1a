use Rattle.std.proofs.Common.{◌≡◌, ◌∙◌, refl, ◌*◌, pos, ◌*ℤ◌}
use Rattle.ir_meaning.proofs.WrapLaws.{fits_product, overflow_free, wrapped-passed}
use Rattle.ir_meaning.proofs.arithmetic.mul.Goals as goal

pub overflow_mul-signed : goal.overflow_mul-signed
overflow_mul-signed c =
    let x = c.signed.ensures in
    let y = c.signed-2.ensures in
    overflow_free ◌*ℤ◌ c.signed.result c.signed-2.result x.size y.size (fits_product c.signed.result c.signed-2.result x.size y.size)

pub returns : goal.returns
returns c =
    let x = c.signed.ensures in
    let y = c.signed-2.ensures in
    let exact : pos (c.from.result * c.from-2.result) ≡ pos (c.args.a * c.args.b) = rw (c.from.ensures, c.from-2.ensures) refl in
    c.wrapped.ensures
    ∙ wrapped-passed ◌*ℤ◌ c.args.flags.now c.args.width _ (pos (c.args.a * c.args.b)) _ _ _ _ x.size y.size (fits_product c.signed.result c.signed-2.result x.size y.size) exact x.value y.value
