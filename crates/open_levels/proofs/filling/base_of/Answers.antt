use Rattle.open_levels.proofs.BoxLaws.{base_stands}
use Rattle.open_levels.proofs.filling.base_of.Goals as goal

pub put_ranges-requires : goal.put_ranges-requires
put_ranges-requires c =
    let over = rw (c.vars.ensures.count, c.rows.ensures.count) at c.in_ok-bounds.ensures.over in
    record { over = over; up_to = c.in_ok-bounds.ensures.up_to }

pub returns-clause-everywhere : goal.returns-clause-everywhere
returns-clause-everywhere c =
    base_stands c.args.system.now c.in_ok-bounds.bounds c.put_ranges.new.bounds c.put_clauses.new.bounds c.in_ok-bounds.ensures.none c.in_ok-put_ranges.ensures.adds
    c.in_ok-put_clauses.ensures.adds
