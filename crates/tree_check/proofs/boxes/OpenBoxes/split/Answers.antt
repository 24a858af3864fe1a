use Rattle.std.proofs.lemmas.Int.{to_z-of_z}
use Rattle.proof_term.specs.Refutes.{low_half, high_half}
use Rattle.tree_check.proofs.BoxesLaws.{stand_split_as, on_ok}
use Rattle.tree_check.proofs.boxes.OpenBoxes.split.Goals as goal

pub returns : goal.returns
returns c =
    let at_fits = c.ranges.at in
    let low = simp to_z-of_z at c.low_of.ensures in
    let high = simp to_z-of_z at c.high_of.ensures in
    on_ok c.put.result (λ tightens.
    stand_split_as c.args.bounds.now c.put.new.self c.args.self.now (record { halves = c.push.new.self }) (record { mark = c.mark.result; high = c.high_of.result }) c.in_ok-push.ensures.items c.low_of.result (low_half c.args.var c.args.at)
    (high_half c.args.var c.args.at) c.mark.ensures c.requires.slot tightens c.put.ensures.extends low high) c.put.ensures.both
