use Rattle.wrap_rows.proofs.SignLaws.{sign-law, signed-law}
use Rattle.wrap_rows.proofs.laws.what_a_sign_says.Goals as goal

pub returns : goal.returns
returns c = record { says = sign-law; reads = signed-law }
