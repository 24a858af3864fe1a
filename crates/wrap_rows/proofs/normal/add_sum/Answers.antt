use Rattle.std.proofs.Common.{◌<◌, ◌+◌, ◌∙◌, sym, ap, pos, length, get_or, take, arith}
use Rattle.std.proofs.lemmas.List.{take_all}
use Rattle.std.proofs.lemmas.List.Elements.{All-take}
use Rattle.mix_system.specs.declared.row.Part.{Part}
use Rattle.wrap_rows.specs.Layout.{times}
use Rattle.wrap_rows.specs.Normal.{with_part, row_of}
use Rattle.wrap_rows.proofs.CaseLaws.{Each-from_All}
use Rattle.wrap_rows.proofs.SumLaws.{row_of-none, row_of-more, row_of-IsRow, sizes-more, sizes-take, sizes-with_part}
use Rattle.wrap_rows.proofs.normal.add_sum.Goals as goal

pub loop-part-init : goal.loop-part-init
loop-part-init c = record { is = c.new-row.ensures.items ∙ sym row_of-none; small = rw c.new-row.ensures.items (omega arith) }

pub put_part-requires-clause-rising : goal.put_part-requires-clause-rising
put_part-requires-clause-rising c =
    let known = All-take (λ (part : Part). part.var < length c.args.into.now.ranges) c.loop-part.part-index c.args.parts.now c.requires.known in
    rw c.loop-part.invariant.is
    (row_of-IsRow (length c.args.into.now.ranges) (take c.loop-part.part-index c.args.parts.now) (Each-from_All (λ (part : Part). part.var < length c.args.into.now.ranges) (take c.loop-part.part-index c.args.parts.now) known)).rising

pub put_part-requires-clause-small : goal.put_part-requires-clause-small
put_part-requires-clause-small c =
    omega (arith, c.loop-part.invariant.small, sizes-more c.args.parts.now c.loop-part.part-index (times (pos 0) 0) c.loop-part-test.true, sizes-take c.args.parts.now (c.loop-part.part-index + 1), c.requires.small)

pub loop-part-preserved : goal.loop-part-preserved
loop-part-preserved c =
    let parts = c.args.parts.now in
    let i = c.loop-part.part-index in
    let before = c.in_ok-put_part.ensures in
    record {
      is = before ∙ ap (λ row. with_part row (get_or parts i (times (pos 0) 0))) c.loop-part.invariant.is ∙ sym (row_of-more parts i (times (pos 0) 0) c.loop-part-test.true);
      small = rw before (omega (arith, sizes-with_part c.loop-part.row.items (get_or parts i (times (pos 0) 0)), c.loop-part.invariant.small, sizes-more parts i (times (pos 0) 0) c.loop-part-test.true));
    }

pub add_row-requires-clause-row : goal.add_row-requires-clause-row
add_row-requires-clause-row c =
    let parts = c.args.parts.now in
    rw (c.as_slice.ensures ∙ c.loop-part.invariant.is ∙ ap row_of (take_all c.loop-part.part-index parts (omega arith)))
    (row_of-IsRow _ parts (Each-from_All (λ part. part.var < length c.args.into.now.ranges) parts c.requires.known))
