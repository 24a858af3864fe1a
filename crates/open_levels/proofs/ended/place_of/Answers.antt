use Rattle.std.proofs.Common.{◌≡◌, ◌+◌, ◌-◌, ◌/◌, ◌<◌, get_or, false, arith}
use Rattle.std.proofs.lemmas.Bool.Decides.{nat_tests}
use Rattle.open_levels.specs.declared.ended.StepMark.{StepMark}
use Rattle.open_levels.proofs.EndedLaws.{below_middle, above_middle}
use Rattle.open_levels.proofs.ended.place_of.Goals as goal

pub loop-low-preserved-then-found-number-2 : goal.loop-low-preserved-then-found-number-2
loop-low-preserved-then-found-number-2 c =
    let marks = c.args.marks.now in
    let middle = c.loop-low.low + (c.loop-low.high - c.loop-low.low) / 2 in
    let d : StepMark = record { number = 0; from = 0; to = 0; is_cut = false } in
    let less : (get_or marks middle d).number < c.args.number = grind (arith, nat_tests) in
    record {
      within = c.loop-low.invariant.within;
      below = below_middle marks c.requires middle d c.args.number (omega (arith, c.loop-low.invariant.within)) less;
      above = c.loop-low.invariant.above;
    }

pub loop-low-preserved : goal.loop-low-preserved
loop-low-preserved c =
    let marks = c.args.marks.now in
    let middle = c.loop-low.low + (c.loop-low.high - c.loop-low.low) / 2 in
    let d : StepMark = record { number = 0; from = 0; to = 0; is_cut = false } in
    let apart = c.if-found-number.false in
    let more : c.args.number < (get_or marks middle d).number = grind (arith, nat_tests) in
    record {
      within = omega (arith, c.loop-low.invariant.within);
      below = c.loop-low.invariant.below;
      above = above_middle marks c.requires middle d c.args.number more;
    }
