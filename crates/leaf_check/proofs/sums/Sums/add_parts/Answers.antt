use Rattle.std.proofs.Common.{◌≡◌, ◌<◌, ◌+◌, length, drop, get_or, pos, to_z, of_z, refl, arith}
use Rattle.std.specs.Int.{w128}
use Rattle.std.proofs.lemmas.Int.{to_z-of_z}
use Rattle.std.proofs.lemmas.List.{drop_more, drop_all}
use Rattle.mix_system.specs.declared.row.Part.{Part}
use Rattle.mix_system.specs.Row.{number_at}
use Rattle.leaf_check.proofs.AddLaws.{parts_first, parts_next, parts_sums, Names_at}
use Rattle.leaf_check.proofs.StepLaws.{stay_as}
use Rattle.leaf_check.proofs.sums.Sums.add_parts.Goals as goal

blank : Part
blank = record { coeff = pos 0; var = 0 }

pub returns-in-Err-clause-excess : goal.returns-in-Err-clause-excess
unfolding blank
returns-in-Err-clause-excess c =
    let parts = c.args.parts.now in
    let i = c.loop-part.part-index in
    let part = get_or parts i blank in
    let by = c.ranges.by in
    let here = simp to_z-of_z at (rw (drop_more parts i blank c.loop-part-test.true) at c.loop-part.invariant) in
    let first = simp to_z-of_z at c.in-Err.ensures.excess in
    parts_first c.args.side c.args.by parts (drop (i + 1) parts) part c.args.self.now.numbers.items c.loop-part.self.numbers.items here c.in-Err.excess first

pub loop-part-preserved : goal.loop-part-preserved
unfolding blank
loop-part-preserved c =
    let parts = c.args.parts.now in
    let i = c.loop-part.part-index in
    let part = get_or parts i blank in
    let by = c.ranges.by in
    let here = simp to_z-of_z at (rw (drop_more parts i blank c.loop-part-test.true) at c.loop-part.invariant) in
    let ok = simp to_z-of_z at c.in_default.ensures.ok in
    let by_same : to_z w128 (of_z w128 c.args.by) ≡ c.args.by = simp to_z-of_z in
    let stays = stay_as c.args.side (number_at c.loop-part.self.numbers.items part.var) (to_z w128 (of_z w128 c.args.by)) c.args.by part.coeff part.coeff by_same refl c.in_default.ensures.stays in
    let known : part.var < length c.args.self.now.numbers.items = c.requires i blank c.loop-part-test.true in
    let within : part.var < length c.loop-part.self.numbers.items = omega (arith, known, c.loop-part.invariant.changes.one_each) in
    simp to_z-of_z (parts_next c.args.side c.args.by parts (drop (i + 1) parts) part c.args.self.now.numbers.items c.loop-part.self.numbers.items here
    c.add_part.new.self.numbers.items within ok stays (Names_at parts i blank c.loop-part-test.true))

pub returns-clause-sums : goal.returns-clause-sums
returns-clause-sums c =
    let by = c.ranges.by in
    let done = simp to_z-of_z at (rw (drop_all c.loop-part.part-index c.args.parts.now (omega arith)) at c.loop-part.invariant) in
    parts_sums c.args.side c.args.by c.args.parts.now c.args.self.now.numbers.items c.loop-part.self.numbers.items done
