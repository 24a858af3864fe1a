use Rattle.path_encoding.proofs.LittleLaws.{layout_small, few_rows, few_clauses}
use Rattle.path_encoding.proofs.laws.what_paths_lay_is_little.Goals as goal

pub returns-clause-small : goal.returns-clause-small
returns-clause-small c it spots sound = layout_small it sound spots

pub returns-clause-rows : goal.returns-clause-rows
returns-clause-rows c it spots = few_rows it spots

pub returns-clause-clauses : goal.returns-clause-clauses
returns-clause-clauses c it spots sound = few_clauses it spots sound
