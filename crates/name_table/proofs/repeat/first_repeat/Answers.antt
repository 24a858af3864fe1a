use Rattle.std.proofs.Common.{Bor, ℕ, List, [], get_or, refl}
use Rattle.name_table.proofs.RepeatLaws.{new_name, old_name}
use Rattle.name_table.proofs.repeat.first_repeat.Goals as goal

abbrev none : Bor (List ℕ)
none = record { ref_ptr = (0, 0); now = [] }

pub returns-then-not-branch : goal.returns-then-not-branch
returns-then-not-branch c = old_name c.args.names.now c.loop-at.at (get_or c.args.names.now c.loop-at.at none) none c.loop-at-test.true refl c.loop-at.table c.add.new.self c.in_ok-add.field-0 c.loop-at.invariant.table c.loop-at.invariant.different c.if-not-branch.true c.in_ok-add.ensures.added

pub loop-at-preserved : goal.loop-at-preserved
loop-at-preserved c =
    let next = new_name c.args.names.now c.loop-at.at (get_or c.args.names.now c.loop-at.at none) none c.loop-at-test.true refl c.loop-at.table c.add.new.self c.in_ok-add.field-0 c.loop-at.invariant.table c.loop-at.invariant.different c.if-not-branch.false c.in_ok-add.ensures.added in
    record { table = next.0; different = next.1 }
