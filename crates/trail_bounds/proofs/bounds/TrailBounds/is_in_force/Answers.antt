use Rattle.trail_bounds.proofs.BoundsLaws.{said_in_force}
use Rattle.trail_bounds.proofs.bounds.TrailBounds.is_in_force.Goals as goal

pub returns : goal.returns
returns c = λ yes. said_in_force c.args.self.now.simplex.bounds c.args.lit c.end.result c.requires c.end.ensures (c.reaches.ensures yes)
