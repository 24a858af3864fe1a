use Rattle.box_check.specs.Bounds.{StandsEverywhere}
use Rattle.std.proofs.Common.{◌<◌, ◌+◌, length, drop, get_or, pos, ap, arith}
use Rattle.std.proofs.lemmas.List.{drop_all}
use Rattle.mix_system.specs.Bounds.{range_bounds, range_bounds_from}
use Rattle.open_levels.specs.Adds.{both_bounds}
use Rattle.open_levels.proofs.AddsLaws.{StandsEverywhere-same, adding_start, adding_next, adding_end}
use Rattle.open_levels.proofs.LevelLaws.{left_range}
use Rattle.open_levels.proofs.filling.put_ranges.Goals as goal

pub loop-var-init : goal.loop-var-init
loop-var-init c = record { adding = adding_start StandsEverywhere StandsEverywhere-same (range_bounds c.args.system.now.ranges) c.args.bounds.now; over = c.requires }

pub loop-var-preserved : goal.loop-var-preserved
loop-var-preserved c =
    let ranges = c.args.system.now.ranges in
    let var = c.loop-var.var in
    let within : var < length ranges = omega (arith, c.loop-var-test.true, c.vars-var-end.ensures.count) in
    record {
      adding = adding_next StandsEverywhere StandsEverywhere-same (range_bounds ranges) (range_bounds_from var (drop var ranges)) (both_bounds var (get_or ranges var (pos 0, pos 0))) (range_bounds_from (var + 1) (drop (var + 1) ranges))
          c.args.bounds.now c.loop-var.bounds c.put_range.new.bounds (left_range ranges var within) c.loop-var.invariant.adding c.in_ok-put_range.ensures.adds;
      over = c.in_ok-put_range.ensures.over;
    }

pub returns-clause-adds : goal.returns-clause-adds
returns-clause-adds c =
    let ranges = c.args.system.now.ranges in
    let var = c.loop-var.var in
    adding_end StandsEverywhere StandsEverywhere-same (range_bounds ranges) (range_bounds_from var (drop var ranges)) c.args.bounds.now c.loop-var.bounds
    (ap (range_bounds_from var) (drop_all var ranges (omega (arith, c.loop-var-test.false, c.vars-var-end.ensures.count)))) c.loop-var.invariant.adding
