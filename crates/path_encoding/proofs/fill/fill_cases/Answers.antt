use Rattle.path_encoding.proofs.fill.fill_cases.Goals as goal

pub returns-clause-said : goal.returns-clause-said
returns-clause-said c = λ at low. c.put_switches.ensures.said at low
