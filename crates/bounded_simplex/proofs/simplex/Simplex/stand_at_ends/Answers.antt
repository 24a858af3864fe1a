use Rattle.std.proofs.Common.{◌≡◌, ℕ, ◌<◌, length, get_or, pos, [], sym, ap, subst, ◌∙◌, inl, rules, arith}
use Rattle.mix_system.specs.Fits.{IsInRange}
use Rattle.mix_system.specs.Row.{number_at}
use Rattle.mix_system.specs.declared.literal.Term.TheVariants.{Row}
use Rattle.mix_system.specs.System.{System}
use Rattle.bounded_simplex.specs.InForce.{BoundChanges}
use Rattle.bounded_simplex.specs.Reach.{AreAtEnds, IsUnknownRow}
use Rattle.tableau_rows.specs.Turning.{IsSumStep}
use Rattle.tableau_rows.specs.declared.equation.Equation.{Equation}
use Rattle.bounded_simplex.proofs.MoveLaws.{first_in_reach, row_term}
use Rattle.bounded_simplex.proofs.RowSumLaws.{row_others}
use Rattle.bounded_simplex.proofs.simplex.Simplex.stand_at_ends.Goals as goal

pub returns-clause-answer : goal.returns-clause-answer
returns-clause-answer c =
    let s = c.first_basis.new.self in
    let unknown = subst (λ (b : BoundChanges). IsUnknownRow b c.args.row c.args.upwards c.args.excess) (sym c.in_ok-first_basis.ensures.bounds) c.requires.unknown in
    let values = c.put_at_ends.new.values.items in
    let ends = subst (λ (of : System). AreAtEnds of.ranges c.args.upwards (number_at values) (get_or of.rows c.args.row [])) c.system.ensures c.put_at_ends.ensures.ends in
    let step = unknown.step (number_at values) ends in (
      record {
        formed = inl (record {
          at = c.args.row;
          within = omega (arith, unknown.within, s.tableau_of.one_each);
          formed = λ d.
              let is = c.in_ok-first_basis.ensures.rows c.args.row d (omega (arith, unknown.within, s.tableau_of.one_each)) in
              (row_term s.bounds.system c.args.row (get_or s.tableau.rows.items c.args.row d) is, subst (λ es. IsSumStep (number_at values) es c.args.excess) (sym (row_others s.bounds.system c.args.row (get_or s.tableau.rows.items c.args.row d) is (unknown.formed.rows c.args.row [] unknown.within))) step);
        });
        overflows = unknown.overflows;
      },
      unknown.bounded,
    )

pub invariant_of-self-clause-in_reach : goal.invariant_of-self-clause-in_reach
invariant_of-self-clause-in_reach c =
    let s = c.first_basis.new.self in
    first_in_reach s.bounds.system s.tableau.rows.items c.put_at_ends.new.values.items s.tableau_of.one_each c.in_ok-first_basis.ensures.rows
    (subst (λ (x : System). (var : ℕ) → var < length x.ranges → IsInRange (get_or x.ranges var (pos 0, pos 0)) (number_at c.put_at_ends.new.values.items var)) c.system.ensures c.put_at_ends.ensures.in_range)
