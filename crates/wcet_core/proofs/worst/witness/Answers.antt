use Rattle.std.proofs.Common.{subst}
use Rattle.sound_costs.specs.Costs.{costs_by_label}
use Rattle.wcet_core.specs.Steps.{EndsSo}
use Rattle.wcet_core.specs.Worst.{numbers_of}
use Rattle.wcet_core.proofs.RunLaws.{not_both}
use Rattle.wcet_core.proofs.worst.witness.Goals as goal

pub unreachable-requires : goal.unreachable-requires
unreachable-requires c =
    let func = c.args.sound.now.func in
    let stuck = subst (EndsSo func (costs_by_label func c.args.costs.now) c.args.args) c.in-Stuck.is c.in_ok-witness.ensures in
    let reached = c.requires.reached.1 in
    not_both func (λ args are. c.each_list_ends_once.ensures func args c.requires.rules are) (numbers_of c.args.args) reached.path reached.vals reached.result c.in-Stuck.block c.in-Stuck.cause reached.run stuck
