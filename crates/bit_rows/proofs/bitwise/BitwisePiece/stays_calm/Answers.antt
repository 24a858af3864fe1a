use Rattle.bit_rows.proofs.CalmLaws.{all_narrow, all_small}
use Rattle.bit_rows.proofs.bitwise.BitwisePiece.stays_calm.Goals as goal

pub returns-clause-narrow : goal.returns-clause-narrow
returns-clause-narrow c = all_narrow c.args.self.now _ c.requires.at

pub returns-clause-small : goal.returns-clause-small
returns-clause-small c = all_small c.args.self.now _ c.requires.at
