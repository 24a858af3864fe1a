use Rattle.std.proofs.Common.{◌<◌}
use Rattle.mix_system.specs.declared.row.Part.{Part}
use Rattle.wrap_rows.proofs.CaseLaws.{Each-from_All}
use Rattle.wrap_rows.proofs.SumLaws.{with_part-behind}
use Rattle.wrap_rows.proofs.normal.put_part.Goals as goal

pub returns-then-is_behind : goal.returns-then-is_behind
returns-then-is_behind c =
    let items = c.args.sum.now.items in
    let less = rw c.as_slice.ensures at (c.is_behind.ensures c.if-is_behind.true) in
    rw (with_part-behind items c.args.part (Each-from_All (λ (other : Part). other.var < c.args.part.var) items less)) c.push_unless_zero.ensures
