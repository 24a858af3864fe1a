use Rattle.ll_links.proofs.KindLaws.{phi_there, instr_there, end_there}
use Rattle.ll_links.proofs.laws.items_of_a_block.Goals as goal

pub returns-clause-phi : goal.returns-clause-phi
returns-clause-phi c = phi_there

pub returns-clause-instr : goal.returns-clause-instr
returns-clause-instr c = instr_there

pub returns-clause-end : goal.returns-clause-end
returns-clause-end c = end_there
