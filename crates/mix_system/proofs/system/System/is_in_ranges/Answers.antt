use Rattle.std.proofs.Common.{below_more, pos, FitsSigned, slice_index_or, rules, arith}
use Rattle.std.specs.Int.{w128}
use Rattle.std.proofs.lemmas.Int.{ints}
use Rattle.std.proofs.lemmas.Option.{get_or_from_slice_get}
use Rattle.mix_system.specs.Row.{number_at}
use Rattle.mix_system.specs.Fits.{IsInRange}
use Rattle.mix_system.proofs.system.System.is_in_ranges.Goals as goal

pub loop-var-preserved : goal.loop-var-preserved
loop-var-preserved c =
    let ranges = c.args.self.now.ranges in
    let point = c.args.point.now in
    let var = c.loop-var.var in
    let range = c.range-low.result in
    let low_fits : FitsSigned w128 range.0 = search rules in
    let high_fits : FitsSigned w128 range.1 = search rules in
    let number_fits : FitsSigned w128 (number_at point var) = search rules in
    let here : IsInRange range (number_at point var) = (omega (arith, ints), omega (arith, ints)) in
    below_more (λ var. IsInRange (slice_index_or ranges var (pos 0, pos 0)) (number_at point var)) var c.loop-var.invariant
    (rw (get_or_from_slice_get ranges var range (pos 0, pos 0) c.range-low.ensures.range) here)
