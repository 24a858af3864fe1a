use Rattle.std.proofs.Common.{◌≡◌, take}
use Rattle.wrap_rows.specs.Normal.{clause_of}
use Rattle.wrap_rows.proofs.normal.add_lits.Given as goal

abbrev pub invariant-loop-lit : goal.invariant-loop-lit
invariant-loop-lit l = l.clause.items ≡ clause_of (take l.lit-index l.lits)
