use Rattle.box_check.specs.Bounds.{StandsEverywhere}
use Rattle.std.proofs.Common.{◌≡◌, get_or, pos, FitsSigned, rules}
use Rattle.std.specs.Int.{w128}
use Rattle.std.proofs.lemmas.Int.{to_z-of_z}
use Rattle.std.proofs.lemmas.Option.{get_or_from_slice_get}
use Rattle.mix_system.specs.Bounds.{low_bound, high_bound}
use Rattle.open_levels.proofs.AddsLaws.{StandsEverywhere-same, adds_two, on_ok}
use Rattle.open_levels.proofs.filling.put_range.Goals as goal

pub returns-clause-adds : goal.returns-clause-adds
returns-clause-adds c =
    let range = c.range-low.result in
    let is : get_or c.args.system.now.ranges c.args.var (pos 0, pos 0) ≡ range = get_or_from_slice_get c.args.system.now.ranges c.args.var range (pos 0, pos 0) c.range-low.ensures.range in
    let low_fits : FitsSigned w128 range.0 = search rules in
    let high_fits : FitsSigned w128 range.1 = search rules in
    let first = simp to_z-of_z at c.in_ok-put_one_everywhere.ensures.adds in
    let both = on_ok c.put_one_everywhere-2.result
    (λ second. adds_two StandsEverywhere StandsEverywhere-same (low_bound c.args.var range) (high_bound c.args.var range) c.args.bounds.now c.put_one_everywhere.new.bounds c.put_one_everywhere-2.new.bounds first second) in
    rw is (both (simp to_z-of_z at c.put_one_everywhere-2.ensures.adds))
