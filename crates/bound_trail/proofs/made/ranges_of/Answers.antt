use Rattle.std.proofs.Common.{◌∙◌, [], ◌∷◌, ◌++◌, ap, pos, arith}
use Rattle.std.proofs.lemmas.List.{take_more}
use Rattle.std.proofs.lemmas.Option.{get_or_from_slice_get}
use Rattle.bound_trail.proofs.made.ranges_of.Goals as goal

pub loop-var-preserved : goal.loop-var-preserved
loop-var-preserved c =
    let ranges = c.args.system.now.ranges in
    let range = c.range.result in
    let here = get_or_from_slice_get ranges c.loop-var.var range (pos 0, pos 0) c.range.ensures.range in
    let more = take_more ranges c.loop-var.var (pos 0, pos 0) (omega arith) in
    rw (more, here) (c.in_ok-push.ensures.items ∙ ap (λ front. front ++ range ∷ []) c.loop-var.invariant)
