use Rattle.std.proofs.Common.{◌≡◌, ◌∙◌, ap, refl, ◌*◌, ◌^◌, ◌≤◌, pos, ◌*ℤ◌}
use Rattle.ir_meaning.proofs.WrapLaws.{power_below, fits_product, overflow_free, shl-is, wrapped-passed}
use Rattle.ir_meaning.proofs.shift.shl.Goals as goal

pub overflow_mul-signed : goal.overflow_mul-signed
overflow_mul-signed c =
    let x = c.signed.ensures in
    let small : c.power-factor.result ≤ 2 ^ 31 = rw c.power-factor.ensures (power_below c.args.k c.args.width c.requires.width c.if-k-width.false) in
    overflow_free ◌*ℤ◌ c.signed.result (pos c.power-factor.result) x.size small (fits_product c.signed.result (pos c.power-factor.result) x.size small)

pub returns : goal.returns
returns c =
    let x = c.signed.ensures in
    let factor = c.power-factor.result in
    let small : factor ≤ 2 ^ 31 = rw c.power-factor.ensures (power_below c.args.k c.args.width c.requires.width c.if-k-width.false) in
    let exact : pos (c.from.result * factor) ≡ pos (c.args.a * 2 ^ c.args.k) = rw (c.from.ensures, c.power-factor.ensures) refl in
    c.wrapped.ensures
    ∙ wrapped-passed ◌*ℤ◌ c.args.flags.now c.args.width _ (pos (c.args.a * 2 ^ c.args.k)) _ _ (pos factor) (pos (2 ^ c.args.k)) x.size small (fits_product c.signed.result (pos c.power-factor.result) x.size small) exact x.value (ap pos c.power-factor.ensures)
    ∙ shl-is c.args.flags.now c.args.width c.args.a c.args.k c.if-k-width.false
