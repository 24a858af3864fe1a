use Rattle.std.proofs.Common.{◌≡◌, ◌<◌, length, pos, FitsSigned, subst, ◌∙◌, rules, arith}
use Rattle.std.specs.Int.{w128}
use Rattle.std.proofs.lemmas.Int.{to_z-of_z}
use Rattle.std.proofs.lemmas.List.{length-set, get_or_default}
use Rattle.mix_system.specs.Row.{number_at}
use Rattle.bounded_simplex.specs.Settled.{StaysBetween}
use Rattle.bounded_simplex.proofs.MoveLaws.{moved_more, later_more}
use Rattle.bounded_simplex.proofs.StepLaws.{settle_more}
use Rattle.bounded_simplex.proofs.settle.settle.Goals as goal

pub loop-column-preserved : goal.loop-column-preserved
loop-column-preserved c =
    let values = c.loop-column.values.items in
    let within : c.loop-column.column < length values = omega (arith, c.loop-column.invariant.count, c.requires.count, c.columns-column-end.ensures.count) in
    let fits : FitsSigned w128 c.nearest_in_bounds.result = search rules in
    let before = c.index-value.result.now in
    let before_fits : FitsSigned w128 before = search rules in
    let value : before ≡ number_at values c.loop-column.column = c.index-value.ensures ∙ get_or_default values c.loop-column.column before (pos 0) within in
    let kept = simp to_z-of_z at c.nearest_in_bounds.ensures.kept in
    let moved = subst (λ z. StaysBetween c.args.bounds.now c.loop-column.column z c.nearest_in_bounds.result) value kept in
    record {
      count = length-set values _ _ ∙ c.loop-column.invariant.count;
      moved = simp to_z-of_z (moved_more c.args.bounds.now c.args.values.now.items values c.loop-column.column c.nearest_in_bounds.result within c.loop-column.invariant.later moved c.loop-column.invariant.moved);
      later = later_more c.args.values.now.items values c.loop-column.column _ c.loop-column.invariant.later;
      kept = simp to_z-of_z (settle_more c.args.bounds.now values c.loop-column.column c.nearest_in_bounds.result within c.nearest_in_bounds.ensures.low c.nearest_in_bounds.ensures.high c.loop-column.invariant.kept);
    }
