use Rattle.std.proofs.Common.{map, subst}
use Rattle.number_runner.specs.Goes.{LeadsOut, LeadOut}
use Rattle.number_runner.proofs.LowerLaws.{jump_in, first_of_all, rest_of_all}
use Rattle.number_runner.proofs.lower.number_exit.Goals as goal

pub number_jump-requires-in-Switch-Value-default-default-clause-out : goal.number_jump-requires-in-Switch-Value-default-default-clause-out
number_jump-requires-in-Switch-Value-default-default-clause-out g c =
    let func = g.C.PathCosts.func c.args.costs.now in
    let out = subst (LeadOut func c.args.from.0) c.in-Switch-Value-default-default.is c.requires.out in
    first_of_all (LeadsOut func c.args.from.0) c.in-Switch-Value-default-default.default (map jump_in c.in-Switch-Value-default-default.cases) out

pub number_cases-requires-clause-out : goal.number_cases-requires-clause-out
number_cases-requires-clause-out g c =
    let func = g.C.PathCosts.func c.args.costs.now in
    let out = subst (LeadOut func c.args.from.0) c.in-Switch-Value-default-default.is c.requires.out in
    rw c.items.ensures (rest_of_all (LeadsOut func c.args.from.0) c.in-Switch-Value-default-default.default (map jump_in c.in-Switch-Value-default-default.cases) out)
