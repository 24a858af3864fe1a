use Rattle.std.proofs.Common.{◌≡◌, ◌+◌, ◌≤◌, ◌<◌, ℤ, pos, length, FitsSigned, ap, sym, subst, take, rules, arith}
use Rattle.std.specs.Prelude.{unsigned_abs, ◌-ℤ◌}
use Rattle.std.specs.Int.{w128}
use Rattle.std.specs.List.{sum_by}
use Rattle.std.specs.Int.Digits.{digits_of}
use Rattle.std.proofs.lemmas.Int.{to_z-of_z}
use Rattle.std.proofs.lemmas.List.Sums.{sum_by_more}
use Rattle.std.proofs.lemmas.Option.{get_or_from_slice_get}
use Rattle.mix_system.specs.Tally.{halvings}
use Rattle.solver_rows.proofs.calm.depth.Goals as goal

pub loop-var-preserved : goal.loop-var-preserved
loop-var-preserved c =
    let range = c.range-low.result in
    let ranges = c.args.system.now.ranges in
    let at = get_or_from_slice_get ranges c.loop-var.var range (pos 0, pos 0) c.range-low.ensures.range in
    let low_fits : FitsSigned w128 range.0 = search rules in
    let high_fits : FitsSigned w128 range.1 = search rules in
    let wide = simp to_z-of_z at c.abs_diff.ensures in
    let count : halvings range ≤ c.digits.result = subst (λ n. length (digits_of 2 n) ≤ c.digits.result) wide c.digits.ensures.count in
    let here = subst (λ r. halvings r ≤ c.digits.result) (sym at) count in
    let within : c.loop-var.var < length ranges = omega (arith, c.loop-var-test.true, c.vars-var-end.ensures.count) in
    let more = sum_by_more halvings ranges c.loop-var.var (pos 0, pos 0) within in
    record {
      counted = omega (arith, here, more, c.loop-var.invariant.counted);
      few = omega (arith, c.digits.ensures.few, c.loop-var.invariant.few);
    }
