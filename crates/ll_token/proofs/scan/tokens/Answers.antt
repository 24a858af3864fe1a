use Rattle.ll_token.proofs.ScanLaws.{only_tokens, only_fault, answer_in_order, answer_each}
use Rattle.ll_token.proofs.scan.tokens.Goals as goal

pub returns-clause-only_tokens : goal.returns-clause-only_tokens
returns-clause-only_tokens c = only_tokens c.args.text.now c.args.first_line c.scan.result c.scan.ensures

pub returns-clause-only_fault : goal.returns-clause-only_fault
returns-clause-only_fault c = only_fault c.args.text.now c.args.first_line c.scan.result c.scan.ensures

pub returns-clause-in_order : goal.returns-clause-in_order
returns-clause-in_order c = answer_in_order c.args.text.now c.args.first_line c.scan.result c.scan.ensures

pub returns-clause-each : goal.returns-clause-each
returns-clause-each c = answer_each c.args.text.now c.args.first_line c.scan.result c.scan.ensures
