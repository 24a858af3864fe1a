use Rattle.std.proofs.Common.{◌≡◌, length, get_or, ◌-ℤ◌, rules, sym, ◌∙◌, ap, arith}
use Rattle.std.specs.Prelude.{FitsSigned, unsigned_abs}
use Rattle.std.specs.Int.{w128}
use Rattle.std.specs.Int.Digits.{digits_of}
use Rattle.std.proofs.lemmas.Int.{to_z-of_z}
use Rattle.std.proofs.lemmas.Option.{get_or_from_slice_get, slice_get_within}
use Rattle.std.proofs.lemmas.List.Sums.{sum_by_more}
use Rattle.mix_system.specs.Tally.{halvings}
use Rattle.trail_bounds.proofs.depth.halving_depth.Goals as goal

pub loop-var-preserved : goal.loop-var-preserved
loop-var-preserved c =
    let ranges = c.args.system.now.ranges in
    let var = c.loop-var.var in
    let range = c.range-low.result in
    let is = c.range-low.ensures.range in
    let item : get_or ranges var range ≡ range = get_or_from_slice_get ranges var range range is in
    let low : FitsSigned w128 range.0 = search rules in
    let high : FitsSigned w128 range.1 = search rules in
    let fits : FitsSigned w128 (range.1 -ℤ range.0) = search rules in
    let width : c.unsigned_abs.result ≡ unsigned_abs (range.1 -ℤ range.0) = simp to_z-of_z at c.unsigned_abs.ensures.value in
    let digits : c.digits-depth.result ≡ halvings (get_or ranges var range) = c.digits-depth.ensures.count ∙ ap (λ n. length (digits_of 2 n)) width ∙ ap halvings (sym item) in
    let more = sum_by_more halvings ranges var range (slice_get_within ranges var range is) in
    record {
      sum = omega (arith, c.loop-var.invariant.sum, digits, more);
      few = omega (arith, c.loop-var.invariant.few, c.digits-depth.ensures.few);
    }
