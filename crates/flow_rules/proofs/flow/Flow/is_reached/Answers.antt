use Rattle.flow_rules.proofs.StoredLaws.{reached_mark}
use Rattle.flow_rules.proofs.flow.Flow.is_reached.Goals as goal

pub returns : goal.returns
returns c =
    rw (← c.self.view_is) (reached_mark c.self.inside c.self.invariant c.args.block c.position-position.result c.row.result.now (rw (← c.self.view_is) at c.requires) (rw (← c.self.view_is) at c.position-position.ensures.within) (rw (← c.self.view_is) at c.position-position.ensures.there) (rw c.len.ensures at c.row.ensures))
