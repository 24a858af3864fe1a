use Rattle.std.proofs.Common.{◌≡◌, ◌∷◌, [], pos, neg_ℤ, ◌^◌, ◌+◌, unsigned_abs, rules, ap, ap₂, ◌∙◌, arith}
use Rattle.std.proofs.lemmas.Int.{ints}
use Rattle.wrap_rows.specs.Layout.{times}
use Rattle.wrap_rows.specs.Sum.{coefficient, sign_coefficient}
use Rattle.wrap_rows.proofs.SumPieceLaws.{lays_signed, coefficient_small, sign_coefficient_small}
use Rattle.wrap_rows.proofs.SmallLaws.{power_small}
use Rattle.wrap_rows.proofs.sum.Sum.add_signed.Goals as goal

pub add_sum-requires-clause-small : goal.add_sum-requires-clause-small
add_sum-requires-clause-small c =
    let sum = c.args.self.now in
    let one : c.times.result.coeff ≡ pos 1 = search rules in
    let two : c.times-2.result.coeff ≡ coefficient sum.kind = search rules in
    let three : c.times-3.result.coeff ≡ neg_ℤ (pos (2 ^ sum.width)) = search rules in
    let four : c.times-4.result.coeff ≡ sign_coefficient sum.kind sum.width = search rules in
    omega (arith, ints, ap unsigned_abs one, ap unsigned_abs two, ap unsigned_abs three, ap unsigned_abs four, coefficient_small sum.kind, sign_coefficient_small sum.kind sum.width c.requires.at.width, power_small sum.width c.requires.at.width.greatest)

pub returns : goal.returns
returns c =
    let sum = c.args.self.now in
    let width = sum.width in
    let one : c.times.result ≡ times (pos 1) sum.a.number = search rules in
    let two : c.times-2.result ≡ times (coefficient sum.kind) sum.b.number = search rules in
    let three : c.times-3.result ≡ times (neg_ℤ (pos (2 ^ width))) c.args.sign = search rules in
    let four : c.times-4.result ≡ times (sign_coefficient sum.kind width) (c.args.sign + 1) = search rules in
    lays_signed sum c.args.sign sum.flags.nsw c.args.into.now c.add_sign.new.into c.add_sign-2.new.into c.add_sum.new.into
    (c.times.result ∷ c.times-2.result ∷ c.times-3.result ∷ c.times-4.result ∷ [])
    c.if-not-self.false c.in_ok-add_sign.ensures c.in_ok-add_sign-2.ensures c.in_ok-add_sum.ensures.ok
    (ap₂ (λ u v. u ∷ v ∷ c.times-3.result ∷ c.times-4.result ∷ []) one two ∙ ap₂ (λ u v. times (pos 1) sum.a.number ∷ times (coefficient sum.kind) sum.b.number ∷ u ∷ v ∷ []) three four)
