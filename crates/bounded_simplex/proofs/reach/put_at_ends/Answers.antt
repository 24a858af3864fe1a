use Rattle.std.proofs.Common.{◌≡◌, ◌<◌, ◌≤ℤ◌, [], length, get_or, pos, FitsSigned, sym, ap, subst, ◌∙◌, rules, arith}
use Rattle.std.specs.Int.{w128}
use Rattle.std.proofs.lemmas.Int.{to_z-of_z}
use Rattle.std.proofs.lemmas.List.{length-set}
use Rattle.std.proofs.lemmas.Option.{get_or_from_slice_get}
use Rattle.mix_system.specs.declared.row.Part.{Part}
use Rattle.bounded_simplex.specs.Lax.{end_of}
use Rattle.bounded_simplex.specs.Reach.{AreAtEnds}
use Rattle.bounded_simplex.specs.Refutation.{columns_of}
use Rattle.bounded_simplex.proofs.PutLaws.{range_put, ends_put}
use Rattle.bounded_simplex.proofs.reach.put_at_ends.Goals as goal

blank : Part
blank = record { coeff = pos 0; var = 0 }

pub loop-part-preserved : goal.loop-part-preserved
unfolding blank
loop-part-preserved c =
    let system = c.args.system.now in
    let parts = c.row-parts.result.now in
    let i = c.loop-part.part-index in
    let part = get_or parts i blank in
    let values = c.loop-part.values.items in
    let known : part.var < length system.ranges = c.row-parts.ensures.well_formed.known i blank c.loop-part-test.true in
    let within : part.var < length values = omega (arith, known, c.loop-part.invariant.count, c.requires.count) in
    let end : c.end_at.result ≡ end_of system.ranges c.args.upwards part = search rules in
    let fits : FitsSigned w128 c.end_at.result = search rules in
    record {
      count = length-set values _ _ ∙ c.loop-part.invariant.count;
      in_range = simp to_z-of_z (range_put system.ranges c.args.upwards values c.end_at.result part within c.end_at.ensures.range.ordered end c.loop-part.invariant.in_range);
      ends = simp to_z-of_z (ends_put system.ranges c.args.upwards values c.end_at.result parts i blank c.loop-part-test.true c.row-parts.ensures.well_formed.rising within end c.loop-part.invariant.ends);
    }

pub returns-clause-ends : goal.returns-clause-ends
returns-clause-ends c =
    let system = c.args.system.now in
    let parts = c.row-parts.result.now in
    let is = get_or_from_slice_get system.rows c.args.row parts [] c.row-parts.ensures.parts in
    rw is (λ k d within. c.loop-part.invariant.ends k d (omega (arith, within)))
