use Rattle.std.specs.Prelude.{IfSome}
use Rattle.integer_splits.specs.Halving.{IsHalving}
use Rattle.integer_splits.proofs.whole.fractional.Given as goal

abbrev pub invariant-loop-var : goal.invariant-loop-var
invariant-loop-var l = IfSome l.narrowest (λ h. IsHalving l.simplex.bounds h.var h.at)
