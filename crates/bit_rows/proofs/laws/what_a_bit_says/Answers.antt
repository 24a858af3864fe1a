use Rattle.bit_rows.proofs.BitwiseLaws.{bit-law}
use Rattle.bit_rows.proofs.laws.what_a_bit_says.Goals as goal

pub returns : goal.returns
returns c = bit-law
