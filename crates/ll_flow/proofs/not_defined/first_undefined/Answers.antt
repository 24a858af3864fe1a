use Rattle.ll_flow.proofs.SiteLaws.{all_below}
use Rattle.ll_flow.proofs.not_defined.first_undefined.Goals as goal

pub first_in_sites-requires-clause-within : goal.first_in_sites-requires-clause-within
first_in_sites-requires-clause-within c = rw (c.items-2.ensures, c.requires.sites) (all_below c.args.func.now)
