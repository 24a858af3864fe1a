use Rattle.ll_reader.proofs.AnswerLaws.{spells_so, stops_so, only_spelled, only_stopped}
use Rattle.ll_reader.proofs.FormedLaws.{read_formed}
use Rattle.ll_reader.proofs.reader.read.Goals as goal

pub returns-in-Ok-clause-spells : goal.returns-in-Ok-clause-spells
returns-in-Ok-clause-spells c = spells_so c.args.text.now c.args.function.now c.in-Ok.found c.in-Ok.ensures.finds c.read_found.result c.read_found.ensures

pub returns-in-Ok-clause-stops : goal.returns-in-Ok-clause-stops
returns-in-Ok-clause-stops c = stops_so c.args.text.now c.args.function.now c.in-Ok.found c.in-Ok.ensures.finds c.read_found.result c.read_found.ensures

pub returns-in-Ok-clause-only : goal.returns-in-Ok-clause-only
returns-in-Ok-clause-only c = only_spelled c.args.text.now c.args.function.now c.in-Ok.found c.in-Ok.ensures.finds c.read_found.result c.read_found.ensures

pub returns-in-Ok-clause-only_fault : goal.returns-in-Ok-clause-only_fault
returns-in-Ok-clause-only_fault c = only_stopped c.args.text.now c.args.function.now c.in-Ok.found c.in-Ok.ensures.finds c.read_found.result c.read_found.ensures

pub returns-in-Ok-clause-formed : goal.returns-in-Ok-clause-formed
returns-in-Ok-clause-formed c = read_formed c.args.text.now c.args.function.now c.read_found.result (spells_so c.args.text.now c.args.function.now c.in-Ok.found c.in-Ok.ensures.finds c.read_found.result c.read_found.ensures)
