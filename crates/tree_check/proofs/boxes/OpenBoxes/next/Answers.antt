use Rattle.tree_check.proofs.BoxesLaws.{none_left, slot_after, stand_next}
use Rattle.tree_check.proofs.boxes.OpenBoxes.next.Goals as goal

pub put-requires : goal.put-requires
put-requires c =
    slot_after c.requires.0 c.args.bounds.now c.back_to.new.self c.args.self.now c.pop.new.self.items c.in-Some.half c.requires.1 c.requires.2 c.in-Some.ensures.items c.back_to.ensures

pub returns : goal.returns
returns c = λ base box boxes stand.
    stand_next base c.args.bounds.now c.back_to.new.self c.put.new.self c.args.self.now (record { halves = c.pop.new.self }) c.in-Some.half box boxes stand c.in-Some.ensures.items c.back_to.ensures
    c.in_ok-put.ensures.both c.in_ok-put.ensures.extends
