use Rattle.std.proofs.Common.{◌<◌, length, arith}
use Rattle.std.proofs.lemmas.Grind.{common_steps}
use Rattle.mix_system.specs.Stored.{lists}
use Rattle.mix_system.specs.System.{IsClause}
use Rattle.mix_system.proofs.WellFormedLaws.{All-slice_get, slice_get-map_read}
use Rattle.mix_system.proofs.system.System.clause.Goals as goal

pub returns-clause-well_formed : goal.returns-clause-well_formed
returns-clause-well_formed c =
    let system = lists c.self.inside in
    let stored = c.self.inside.clauses.items in
    let within : c.args.at < length stored = grind (arith, common_steps) in
    let at = slice_get-map_read (λ clause. clause.items) stored c.args.at c.index.result.now c.as_slice.result.now within c.index.ensures c.as_slice.ensures in
    rw (← c.self.view_is) (All-slice_get (IsClause (length system.ranges) (length system.rows)) _ _ _ at c.self.invariant.clauses)
