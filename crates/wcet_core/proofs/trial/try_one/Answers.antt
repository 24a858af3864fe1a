use Rattle.std.proofs.Common.{◌≡◌, ◌+◌, subst, sym, arith}
use Rattle.std.proofs.lemmas.Grind.{common_steps}
use Rattle.wcet_core.specs.Trial.{IsFirstBestBelow, place}
use Rattle.wcet_core.proofs.LeaderLaws.{IsLeader-no_run, IsLeader-kept, IsLeader-better}
use Rattle.wcet_core.proofs.trial.try_one.Goals as goal

pub returns-in_default-clause-leads : goal.returns-in_default-clause-leads
returns-in_default-clause-leads g c =
    IsLeader-no_run (g.M.Machine.reaches c.args.machine.now) (g.M.Machine.widths c.args.machine.now) c.args.args.now c.args.leader.now.args.items c.args.leader.now.cost c.requires.are
    (λ n reach. let none = c.in_default.ensures.only n reach in cc) c.requires.leads

pub returns-then-is_none_or-clause-leads : goal.returns-then-is_none_or-clause-leads
returns-then-is_none_or-clause-leads g c =
    subst (λ leader. IsFirstBestBelow (g.M.Machine.reaches c.args.machine.now) (g.M.Machine.widths c.args.machine.now) (place (g.M.Machine.widths c.args.machine.now) c.args.args.now + 1) leader c.in-Some.cost)
    (sym c.copy_from_slice.ensures.items)
    (IsLeader-better (g.M.Machine.reaches c.args.machine.now) (g.M.Machine.widths c.args.machine.now) c.args.args.now c.args.leader.now.args.items c.args.leader.now.cost c.in-Some.cost c.requires.are c.in-Some.ensures.cost
    (λ n reach. let same : c.in-Some.cost ≡ n = (let some = c.in-Some.ensures.only n reach in cc) in omega arith)
    (λ lead is. grind (arith, common_steps, is, c.if-is_none_or.ensures)) c.requires.leads)

pub returns-else-is_none_or-clause-leads : goal.returns-else-is_none_or-clause-leads
returns-else-is_none_or-clause-leads g c =
    IsLeader-kept (g.M.Machine.reaches c.args.machine.now) (g.M.Machine.widths c.args.machine.now) c.args.args.now c.args.leader.now.args.items c.args.leader.now.cost c.in-Some.cost c.requires.are
    (λ n reach. let same : c.in-Some.cost ≡ n = (let some = c.in-Some.ensures.only n reach in cc) in omega arith)
    (λ none. grind (arith, common_steps, none, c.if-is_none_or.ensures))
    (λ lead is. grind (arith, common_steps, is, c.if-is_none_or.ensures)) c.requires.leads
