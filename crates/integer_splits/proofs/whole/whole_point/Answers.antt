use Rattle.std.proofs.Common.{◌≡◌, [], ◌∷◌, ◌++◌, length, length-append, ap, rules, arith}
use Rattle.integer_splits.specs.WholePoint.{IsValueOf}
use Rattle.integer_splits.proofs.PointLaws.{values_push}
use Rattle.integer_splits.proofs.whole.whole_point.Goals as goal

pub loop-var-preserved : goal.loop-var-preserved
loop-var-preserved c =
    let s = c.args.simplex.now in
    let point = c.loop-var.point in
    let value = c.in-Some.value in
    let is : IsValueOf s.bounds s.tableau.rows.items s.values.items c.loop-var.var value = search rules in
    let added : c.push.new.self ≡ point ++ value ∷ [] = search rules in
    record {
      count = omega (arith, c.loop-var.invariant.count, ap length added, length-append point (value ∷ []));
      values = values_push s.bounds s.tableau.rows.items s.values.items point c.push.new.self c.loop-var.var value c.loop-var.invariant.count added is c.loop-var.invariant.values;
    }
