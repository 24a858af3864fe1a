use Rattle.portion_cuts.proofs.CoverLaws.{covers}
use Rattle.portion_cuts.proofs.laws.portions_cover_all_blocks.Goals as goal

pub returns : goal.returns
returns c = covers
