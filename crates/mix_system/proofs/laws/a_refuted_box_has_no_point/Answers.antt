use Rattle.mix_system.proofs.FarkasLaws.{FarkasRefutes-no_point}
use Rattle.mix_system.proofs.laws.a_refuted_box_has_no_point.Goals as goal

pub returns : goal.returns
returns c = FarkasRefutes-no_point
