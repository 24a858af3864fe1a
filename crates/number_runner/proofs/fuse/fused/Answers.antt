use Rattle.std.proofs.Common.{◌∷◌, [], subst}
use Rattle.number_runner.specs.Goes.{LeadsOut, LeadOut}
use Rattle.number_runner.proofs.LowerLaws.{first_of_all, rest_of_all}
use Rattle.number_runner.proofs.fuse.fused.Goals as goal

pub number_jump-requires-clause-out : goal.number_jump-requires-clause-out
number_jump-requires-clause-out g c =
    let func = g.C.PathCosts.func c.args.costs.now in
    let out = subst (LeadOut func c.args.from.0) c.in-Some.ensures.exit c.requires.out in
    first_of_all (LeadsOut func c.args.from.0) c.in-Some.it.on_one.now (c.in-Some.it.on_zero.now ∷ []) out

pub number_jump-requires-2-clause-out : goal.number_jump-requires-2-clause-out
number_jump-requires-2-clause-out g c =
    let func = g.C.PathCosts.func c.args.costs.now in
    let out = subst (LeadOut func c.args.from.0) c.in-Some.ensures.exit c.requires.out in
    first_of_all (LeadsOut func c.args.from.0) c.in-Some.it.on_zero.now [] (rest_of_all (LeadsOut func c.args.from.0) c.in-Some.it.on_one.now (c.in-Some.it.on_zero.now ∷ []) out)
