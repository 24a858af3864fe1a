use Rattle.std.proofs.Common.{◌≡◌, zero, suc, ◌+◌, ◌-◌, ◌^◌, ◌++◌, ◌∷◌, [], pos, neg_ℤ, List, append_assoc, rules, ap, sym, ◌∙◌, arith}
use Rattle.std.proofs.lemmas.List.{append-nil}
use Rattle.mix_system.specs.declared.row.Part.{Part}
use Rattle.wrap_rows.specs.Layout.{times}
use Rattle.bit_rows.specs.Bits.{minus_bits}
use Rattle.bit_rows.proofs.bits.parts_of.Goals as goal

pub loop-place-preserved : goal.loop-place-preserved
loop-place-preserved c =
    let items = c.loop-place.parts.items in
    let place = c.loop-place.place in
    let here = c.args.first + place in
    let k = c.args.width - (place + 1) in
    let left : suc k ≡ c.args.width - place = omega arith in
    let next : c.args.first + (place + 1) ≡ here + 1 = omega arith in
    let part : c.times-in-loop-place.result ≡ times (neg_ℤ (pos (2 ^ place))) here = search rules in
    ap (λ (parts : List Part). parts ++ minus_bits k (place + 1) (c.args.first + (place + 1))) c.in_ok-push-2.ensures.ok
    ∙ append_assoc items (c.times-in-loop-place.result ∷ []) (minus_bits k (place + 1) (c.args.first + (place + 1)))
    ∙ ap (λ (one : Part). items ++ one ∷ minus_bits k (place + 1) (c.args.first + (place + 1))) part
    ∙ ap (λ at. items ++ times (neg_ℤ (pos (2 ^ place))) here ∷ minus_bits k (place + 1) at) next
    ∙ ap (λ j. items ++ minus_bits j place here) left
    ∙ c.loop-place.invariant

pub returns : goal.returns
returns c =
    let none : zero ≡ c.args.width - c.loop-place.place = omega arith in
    sym (append-nil c.loop-place.parts.items) ∙ ap (λ k. c.loop-place.parts.items ++ minus_bits k c.loop-place.place (c.args.first + c.loop-place.place)) none ∙ c.loop-place.invariant
