use Rattle.portion_cuts.proofs.EntryLaws.{first_place}
use Rattle.portion_cuts.proofs.laws.entry_stands_first.Goals as goal

pub returns : goal.returns
returns c = first_place
