use Rattle.std.proofs.Common.{◌≡◌, ◌∷◌, map, take, pos}
use Rattle.mix_system.specs.declared.literal.Term.TheVariants.{Var}
use Rattle.wrap_rows.specs.Layout.{at_most, at_least}
use Rattle.wrap_rows.proofs.marks.closing.Given as goal

abbrev pub invariant-loop-operand : goal.invariant-loop-operand
invariant-loop-operand l =
    l.lits.items ≡ at_most (Var l.mark) (pos 0) ∷ map (λ operand. at_least (Var operand) (pos 1)) (take l.operand-index l.operands)
