use Rattle.std.proofs.Common.{ap, length}
use Rattle.flat_lists.proofs.PieceLaws.{closed, closed_ends}
use Rattle.flat_lists.proofs.lists.FlatLists.close.Goals as goal

pub invariant_of-self-2 : goal.invariant_of-self-2
invariant_of-self-2 g c = closed_ends c.self.inside.ends.items c.push.new.self.items c.self.inside.items.items (length c.as_slice-whole.result.now) c.in_ok-push.ensures.items (ap length c.as_slice-whole.ensures.value) c.self.invariant

pub returns-clause-ok : goal.returns-clause-ok
returns-clause-ok g c = closed c.self.inside.ends.items c.push.new.self.items c.self.inside.items.items (length c.as_slice-whole.result.now) c.args.self.now c.in_ok-push.ensures.items (ap length c.as_slice-whole.ensures.value) c.self.view_is
