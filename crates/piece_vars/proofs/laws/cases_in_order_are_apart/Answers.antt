use Rattle.piece_vars.proofs.ApartLaws.{cases_apart}
use Rattle.piece_vars.proofs.laws.cases_in_order_are_apart.Goals as goal

pub returns : goal.returns
returns c it spots placed from to last sound between are stand = cases_apart it sound spots from to last between placed are stand
