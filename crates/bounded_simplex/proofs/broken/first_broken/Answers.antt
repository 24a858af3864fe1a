use Rattle.std.proofs.Common.{◌≡◌, ◌⊎◌, ℕ, ◌<◌, get_or, rules}
use Rattle.mix_system.specs.declared.literal.Side.{Side}
use Rattle.tableau_rows.specs.declared.equation.Equation.{Equation}
use Rattle.bounded_simplex.specs.Broken.{IsBroken}
use Rattle.bounded_simplex.specs.Lax.{IsLax}
use Rattle.bounded_simplex.specs.Point.{Keeps}
use Rattle.bounded_simplex.proofs.EachLaws.{each_all, of_both_some, of_both_none}
use Rattle.bounded_simplex.proofs.broken.first_broken.Goals as goal

pub loop-at-preserved : goal.loop-at-preserved
loop-at-preserved c =
    let rows = c.args.rows.now in
    let bounds = c.args.bounds.now in
    let values = c.args.values.now in
    let found = c.loop-at.found in
    record {
      none = of_both_none found c.in-Ok.next c.earlier-found.result c.earlier-found.ensures.none c.loop-at.invariant.none c.in-Ok.ensures.none
          (λ before now. each_all (λ (e : Equation). (side : Side) → Keeps bounds values e side ⊎ IsLax bounds e.basic side) rows c.loop-at.at c.loop-at-test.true before now);
      broken = of_both_some (IsBroken bounds rows values) found c.in-Ok.next c.earlier-found.result c.earlier-found.ensures.of_both c.loop-at.invariant.broken c.in-Ok.ensures.broken;
    }
