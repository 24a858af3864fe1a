use Rattle.std.proofs.Common.{◌∙◌, sym, arith}
use Rattle.wrap_rows.proofs.SumLaws.{sizes-drop, with_part-split}
use Rattle.wrap_rows.proofs.normal.with_part.Goals as goal

pub merge-requires : goal.merge-requires
merge-requires c = rw c.split_at.ensures.back (omega (arith, sizes-drop c.args.parts.now c.lesser_count.result, c.requires))

pub returns : goal.returns
returns c =
    c.in_ok-merge.ensures
    ∙ rw (c.in_ok-sum.ensures.ok, c.split_at.ensures.front, c.split_at.ensures.back, c.lesser_count.ensures.value) (sym (with_part-split c.args.parts.now c.args.part))
