use Rattle.std.proofs.Common.{pos, rules}
use Rattle.std.proofs.lemmas.Option.{get_or_from_slice_get}
use Rattle.mixed_rows.proofs.calm.range_size.Goals as goal

pub returns : goal.returns
returns c =
    rw (get_or_from_slice_get c.args.system.now.ranges c.args.var c.range-low.result (pos 0, pos 0) c.range-low.ensures.range) (search rules)
