use Rattle.wcet_core.proofs.command.run.Goals as goal

pub returns-clause-decided : goal.returns-clause-decided
returns-clause-decided g c = c.decides.ensures c.args.words.now _ _ c.answer-answer.result c.answer-answer.ensures.says
