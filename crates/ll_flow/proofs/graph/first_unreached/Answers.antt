use Rattle.std.proofs.Common.{length}
use Rattle.flow_rules.specs.Paths as places
use Rattle.ll_flow.proofs.PathLaws.{all_reached, first_unreached}
use Rattle.ll_flow.proofs.graph.first_unreached.Goals as goal

pub returns-in_ok-label_at-in-Some : goal.returns-in_ok-label_at-in-Some
returns-in_ok-label_at-in-Some c =
    let first : places.IsFirstUnreached (length c.args.flow.now.order) c.args.flow.now.graph c.in-Some.place = rw c.in-Some.is at c.unreached.ensures in
    rw c.in_ok-label_at-in-Some.ensures (first_unreached c.args.func.now c.args.flow.now.graph c.requires.flow.edges c.requires.different c.requires.flow.entry (length c.args.flow.now.order) c.in-Some.place c.requires.flow.flow.size first)

pub returns-in-None : goal.returns-in-None
returns-in-None c =
    all_reached c.args.func.now c.args.flow.now.graph c.requires.flow.edges c.requires.different (length c.args.flow.now.order) c.requires.flow.flow.size (rw c.in-None.is at c.unreached.ensures)
