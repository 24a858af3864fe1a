use Rattle.std.proofs.Common.{◌≡◌, ◌^◌, ◌∙◌, sum, sym, subst, ap, arith}
use Rattle.wx_base.specs.Args.{AreArguments}
use Rattle.wcet_core.specs.Trial.{IsLeader, place}
use Rattle.wcet_core.proofs.PlaceLaws.{AreArguments-zeros, place-zeros}
use Rattle.wcet_core.proofs.LeaderLaws.{IsLeader-all, IsLeader-none}
use Rattle.wcet_core.proofs.trial.try_all.Goals as goal

pub try_from-requires-clause-are : goal.try_from-requires-clause-are
try_from-requires-clause-are g c = subst (AreArguments c.args.widths.now) (sym (c.deref_mut.ensures.value ∙ c.in_ok-args.ensures.items_if_clones_equal (λ y is. is))) (AreArguments-zeros c.args.widths.now)

pub try_from-requires-clause-leads : goal.try_from-requires-clause-leads
try_from-requires-clause-leads g c =
    let first : place c.args.widths.now c.deref_mut.result.now ≡ 0 = ap (place c.args.widths.now) (c.deref_mut.ensures.value ∙ c.in_ok-args.ensures.items_if_clones_equal (λ y is. is)) ∙ place-zeros c.args.widths.now in
    λ others n are below reach. absurd (omega arith)

pub returns-in_default-clause-none : goal.returns-in_default-clause-none
returns-in_default-clause-none g c =
    IsLeader-none (g.M.Machine.reaches c.args.machine.now) c.args.widths.now c.try_from.new.leader.args.items
    (subst (IsLeader (g.M.Machine.reaches c.args.machine.now) c.args.widths.now (2 ^ sum c.args.widths.now) c.try_from.new.leader.args.items) c.in_default.is c.try_from.ensures.leads)

pub returns-clause-best : goal.returns-clause-best
returns-clause-best g c =
    rw c.from_vec.ensures
    (IsLeader-all (g.M.Machine.reaches c.args.machine.now) c.args.widths.now c.try_from.new.leader.args.items c.in-Some.cost
    (subst (IsLeader (g.M.Machine.reaches c.args.machine.now) c.args.widths.now (2 ^ sum c.args.widths.now) c.try_from.new.leader.args.items) c.in-Some.is c.try_from.ensures.leads))
