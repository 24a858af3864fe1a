use Rattle.wrap_rows.proofs.CompactLaws.{compact-calm, compact-declared, compact-laid}
use Rattle.wrap_rows.proofs.laws.what_is_compact_is_calm.Goals as goal

pub returns : goal.returns
returns c = record { calm = compact-calm; declared = compact-declared; laid = compact-laid }
