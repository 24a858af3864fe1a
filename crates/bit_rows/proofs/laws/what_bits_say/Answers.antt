use Rattle.bit_rows.proofs.BitsLaws.{bits-law}
use Rattle.bit_rows.proofs.laws.what_bits_say.Goals as goal

pub returns : goal.returns
returns c = bits-law
