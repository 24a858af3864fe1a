use Rattle.piece_vars.proofs.CaseLaws.{hold_still, in_still}
use Rattle.piece_vars.proofs.laws.cases_change_no_piece.Goals as goal

pub returns-clause-hold : goal.returns-clause-hold
returns-clause-hold c it spots placed from to apart pieces are below point other changes hold = hold_still it spots apart placed from to are below point other changes pieces hold

pub returns-clause-within : goal.returns-clause-within
returns-clause-within c it spots placed from to apart are below point other changes within = in_still it spots apart placed from to are below point other changes within
