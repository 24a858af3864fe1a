use Rattle.std.proofs.Common.{◌≡◌, ◌∷◌, [], pos, neg_ℤ, ◌*ℤ◌, ◌^◌, unsigned_abs, rules, ap, ap₂, arith}
use Rattle.wrap_rows.specs.Layout.{times}
use Rattle.wrap_rows.specs.Scaled.{signed_factor}
use Rattle.wrap_rows.proofs.ScaledLaws.{lays_signed}
use Rattle.wrap_rows.proofs.scaled.Scaled.add_signed.Goals as goal

pub add_sum-requires-clause-small : goal.add_sum-requires-clause-small
add_sum-requires-clause-small c =
    let one : c.times.result.coeff ≡ c.signed_factor.result = search rules in
    let two : c.times-2.result.coeff ≡ c.sign_coefficient.result = search rules in
    omega (arith, ap unsigned_abs one, ap unsigned_abs two, c.signed_factor.ensures.small, c.sign_coefficient.ensures.small)

pub returns : goal.returns
returns c =
    let scaled = c.args.self.now in
    let factor = signed_factor scaled.width scaled.scale in
    let one : c.times.result ≡ times factor scaled.a.number = search rules in
    let two : c.times-2.result ≡ times (neg_ℤ (factor *ℤ pos (2 ^ scaled.width))) c.args.sign = search rules in
    lays_signed scaled c.args.sign scaled.flags.nsw c.args.into.now c.add_sign.new.into c.add_sum.new.into (c.times.result ∷ c.times-2.result ∷ []) c.if-not-self.false c.in_ok-add_sign.ensures c.in_ok-add_sum.ensures.ok
    (ap₂ (λ u v. u ∷ v ∷ []) one two)
