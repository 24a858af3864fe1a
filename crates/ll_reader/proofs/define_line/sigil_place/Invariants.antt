use Rattle.ll_reader.proofs.DefineLineLaws.{NoSigilBefore}
use Rattle.ll_reader.proofs.define_line.sigil_place.Given as goal

abbrev pub invariant-loop-at : goal.invariant-loop-at
invariant-loop-at l = NoSigilBefore l.line l.at l.in_string
