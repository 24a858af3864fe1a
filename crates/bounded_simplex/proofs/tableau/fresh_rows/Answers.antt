use Rattle.std.proofs.Common.{◌+◌, ap, length, ◌∙◌, rules}
use Rattle.std.proofs.lemmas.List.{length_push}
use Rattle.bounded_simplex.specs.Pivot.{IsFresh}
use Rattle.bounded_simplex.proofs.PivotLaws.{formed_more}
use Rattle.bounded_simplex.proofs.tableau.fresh_rows.Goals as goal

pub loop-place-preserved : goal.loop-place-preserved
loop-place-preserved c =
    let rows = c.args.rows.now in
    let here : IsFresh rows c.args.at c.args.entering c.loop-place.place c.in-Ok.slot = search rules in
    record {
      as_many = ap length c.in_ok-push-in-Ok.ensures.items ∙ length_push c.loop-place.fresh.items c.in-Ok.slot ∙ ap (λ n. n + 1) c.loop-place.invariant.as_many;
      formed = formed_more rows c.args.at c.args.entering c.loop-place.place c.loop-place.fresh.items _ c.in-Ok.slot c.in_ok-push-in-Ok.ensures.items c.loop-place.invariant.as_many here c.loop-place.invariant.formed;
    }
