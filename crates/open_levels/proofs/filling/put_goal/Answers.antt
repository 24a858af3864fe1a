use Rattle.box_check.specs.Bounds.{Stands}
use Rattle.box_check.proofs.BoundsLaws.{StaysHere_refl}
use Rattle.open_levels.proofs.AddsLaws.{Stands-same, adds_none}
use Rattle.open_levels.proofs.filling.put_goal.Goals as goal

pub returns-in-Nothing-clause-adds : goal.returns-in-Nothing-clause-adds
returns-in-Nothing-clause-adds c = rw c.in-Nothing.is (adds_none Stands Stands-same c.args.bounds.now)

pub returns-in-Nothing-clause-stays : goal.returns-in-Nothing-clause-stays
returns-in-Nothing-clause-stays c = StaysHere_refl c.args.bounds.now
