use Rattle.std.proofs.Common.{ℕ, ◌<◌, length, get_or, pos, sym, subst}
use Rattle.mix_system.specs.System.{System}
use Rattle.bounded_simplex.specs.Reach.{AreInReach}
use Rattle.bounded_simplex.proofs.MoveLaws.{first_in_reach}
use Rattle.bounded_simplex.proofs.simplex.Simplex.new.Goals as goal

pub invariant_of-result-clause-in_reach : goal.invariant_of-result-clause-in_reach
invariant_of-result-clause-in_reach c =
    let rows = c.in_ok-tableau.tableau.rows.items in
    subst (λ (of : System). AreInReach of rows c.in_ok-values.values.items) (sym c.in_ok-bounds.ensures.system)
    (first_in_reach c.args.system.now rows c.in_ok-values.values.items c.in_ok-tableau.ensures.tableau_of.one_each c.in_ok-tableau.ensures.rows c.in_ok-values.ensures.in_range)
