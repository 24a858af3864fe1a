use Rattle.std.proofs.Common.{◌∙◌}
use Rattle.bounded_simplex.proofs.MoveLaws.{settled_in_reach}
use Rattle.bounded_simplex.proofs.simplex.Simplex.settle.Goals as goal

pub invariant_of-self-clause-in_reach : goal.invariant_of-self-clause-in_reach
invariant_of-self-clause-in_reach c =
    let s = c.args.self.now in
    settled_in_reach s.bounds s.reaches.items c.requires.room s.tableau.rows.items s.values.items c.settle.new.values.items s.one_each (c.settle.ensures.as_many ∙ s.one_each) s.in_reach c.settle.ensures.in_bounds c.settle.ensures.kept
