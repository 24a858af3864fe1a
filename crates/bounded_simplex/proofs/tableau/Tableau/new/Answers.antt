use Rattle.std.proofs.Common.{◌≡◌, length, arith}
use Rattle.bounded_simplex.proofs.FirstTableauLaws.{first_tableau}
use Rattle.bounded_simplex.proofs.tableau.Tableau.new.Goals as goal

pub returns-clause-tableau_of : goal.returns-clause-tableau_of
returns-clause-tableau_of c =
    let rows = c.loop-row.rows.items in
    let count : length rows ≡ length c.args.system.now.rows = omega (arith, c.loop-row.invariant.count) in
    first_tableau c.args.system.now rows c.vars-vars.ensures.well_formed count (λ k d within. c.loop-row.invariant.each k d (omega (arith, c.loop-row.invariant.count)))

pub invariant_of-result : goal.invariant_of-result
invariant_of-result c =
    let rows = c.loop-row.rows.items in
    let count : length rows ≡ length c.args.system.now.rows = omega (arith, c.loop-row.invariant.count) in
    let first = first_tableau c.args.system.now rows c.vars-vars.ensures.well_formed count (λ k d within. c.loop-row.invariant.each k d (omega (arith, c.loop-row.invariant.count))) in
    record { apart = first.apart }
