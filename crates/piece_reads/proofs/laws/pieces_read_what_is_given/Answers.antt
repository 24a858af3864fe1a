use Rattle.piece_reads.proofs.ReadLaws.{operands_same, phi_same}
use Rattle.piece_reads.proofs.laws.pieces_read_what_is_given.Goals as goal

pub returns-clause-operations : goal.returns-clause-operations
returns-clause-operations c it spots other at front sound agree instr stands = operands_same it sound spots other at front agree instr stands

pub returns-clause-phis : goal.returns-clause-phis
returns-clause-phis c it spots other at front sound agree phi piece stands is = phi_same it sound spots other at front agree phi stands piece is
