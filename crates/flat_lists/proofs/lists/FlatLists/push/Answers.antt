use Rattle.flat_lists.proofs.PieceLaws.{pushed, ends_pushed}
use Rattle.flat_lists.proofs.lists.FlatLists.push.Goals as goal

pub invariant_of-self-2 : goal.invariant_of-self-2
invariant_of-self-2 g c = ends_pushed c.self.inside.ends.items c.self.inside.items.items c.push.new.self.items c.args.item c.in_ok-push.ensures.items c.self.invariant

pub returns-clause-ok : goal.returns-clause-ok
returns-clause-ok g c = pushed c.self.inside.ends.items c.self.inside.items.items c.push.new.self.items c.args.item c.args.self.now c.in_ok-push.ensures.items c.self.invariant c.self.view_is
