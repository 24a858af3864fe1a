use Rattle.path_encoding.proofs.PathMarks.{block_marked, edge_marked}
use Rattle.path_encoding.proofs.laws.a_path_marks_its_blocks_and_edges.Goals as goal

pub returns-clause-blocks : goal.returns-clause-blocks
returns-clause-blocks c it spots point are marks path is at low = block_marked it spots are point marks path is at low

pub returns-clause-edges : goal.returns-clause-edges
returns-clause-edges c it spots point are marks path is k edge low read = edge_marked it spots are point marks path is k edge low read
