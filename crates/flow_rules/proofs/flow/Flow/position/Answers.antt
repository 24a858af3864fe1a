use Rattle.flow_rules.proofs.StoredLaws.{position_found}
use Rattle.flow_rules.proofs.flow.Flow.position.Goals as goal

pub returns-clause-within : goal.returns-clause-within
returns-clause-within c =
    rw (c.items.ensures, ← c.self.view_is) (position_found c.self.inside c.self.invariant c.args.block (rw (← c.self.view_is) at c.requires)).0

pub returns-clause-there : goal.returns-clause-there
returns-clause-there c =
    rw (c.items.ensures, ← c.self.view_is) (position_found c.self.inside c.self.invariant c.args.block (rw (← c.self.view_is) at c.requires)).1
