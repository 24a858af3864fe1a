use Rattle.std.proofs.Common.{◌<◌, ℤ, pos, length, FitsSigned, sym, subst, rules, arith}
use Rattle.std.specs.Int.{w128}
use Rattle.std.proofs.lemmas.Int.{to_z-of_z}
use Rattle.std.proofs.lemmas.Option.{get_or_from_slice_get}
use Rattle.mix_system.specs.Calm.{IsSmall}
use Rattle.bounded_simplex.proofs.EachLaws.{each_more}
use Rattle.mixed_rows.proofs.calm.are_ends_small.Goals as goal

pub loop-var-preserved : goal.loop-var-preserved
loop-var-preserved c =
    let range = c.range-low.result in
    let ranges = c.args.system.now.ranges in
    let at = get_or_from_slice_get ranges c.loop-var.var range (pos 0, pos 0) c.range-low.ensures.range in
    let within : c.loop-var.var < length ranges = omega (arith, c.loop-var-test.true, c.vars-var-end.ensures.count) in
    let low_fits : FitsSigned w128 range.0 = search rules in
    let high_fits : FitsSigned w128 range.1 = search rules in
    let low : IsSmall range.0 = first_of (search rules, search (rules, to_z-of_z)) in
    let high : IsSmall range.1 = first_of (search rules, search (rules, to_z-of_z)) in
    each_more (λ (r : ℤ × ℤ). IsSmall r.0 × IsSmall r.1) ranges c.loop-var.var (pos 0, pos 0) within c.loop-var.invariant
    (subst (λ (r : ℤ × ℤ). IsSmall r.0 × IsSmall r.1) (sym at) (low, high))
