use Rattle.path_encoding.proofs.PathMarks.{marks_kept, taken_kept}
use Rattle.path_encoding.proofs.laws.blocks_and_edges_tell_the_path.Goals as goal

pub returns-clause-marks : goal.returns-clause-marks
returns-clause-marks c it spots point other are same marks = marks_kept it spots are point other same marks

pub returns-clause-taken : goal.returns-clause-taken
returns-clause-taken c it spots point other are same path is = taken_kept it spots are point other same path is
