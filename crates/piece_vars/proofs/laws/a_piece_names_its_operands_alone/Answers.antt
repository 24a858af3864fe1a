use Rattle.piece_vars.specs.Named.{Passing}
use Rattle.piece_vars.proofs.NamedLaws.{named}
use Rattle.piece_vars.proofs.laws.a_piece_names_its_operands_alone.Goals as goal

pub returns : goal.returns
returns c test piece first own reads = named (Passing test) piece first own reads
