use Rattle.std.proofs.Common.{◌<◌, ◌^◌, List, [], length, All, sym, subst, rules, arith}
use Rattle.std.proofs.lemmas.Option.{get_or_from_slice_get}
use Rattle.mix_system.specs.Calm.{IsSmall, row_size}
use Rattle.mix_system.specs.declared.row.Part.{Part}
use Rattle.bounded_simplex.proofs.EachLaws.{each_more}
use Rattle.mixed_rows.proofs.calm.are_rows_small.Goals as goal

pub loop-row-preserved : goal.loop-row-preserved
loop-row-preserved c =
    let system = c.args.system.now in
    let parts = c.row-parts.result.now in
    let at = get_or_from_slice_get system.rows c.loop-row.row parts [] c.row-parts.ensures.parts in
    let within : c.loop-row.row < length system.rows = omega (arith, c.loop-row-test.true, c.rows-row-end.ensures.count) in
    let coefficients : All (λ (part : Part). IsSmall part.coeff) parts = search rules in
    let sum : row_size system.ranges parts < 2 ^ 100 = search rules in
    record {
      coefficients = each_more (All (λ (part : Part). IsSmall part.coeff)) system.rows c.loop-row.row [] within c.loop-row.invariant.coefficients
          (subst (All (λ (part : Part). IsSmall part.coeff)) (sym at) coefficients);
      sums = each_more (λ (parts : List Part). row_size system.ranges parts < 2 ^ 100) system.rows c.loop-row.row [] within c.loop-row.invariant.sums
          (subst (λ (parts : List Part). row_size system.ranges parts < 2 ^ 100) (sym at) sum);
    }
