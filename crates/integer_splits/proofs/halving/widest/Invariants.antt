use Rattle.std.proofs.Common.{ℕ, ◌<◌}
use Rattle.std.specs.Prelude.{IfSome, IfNone}
use Rattle.integer_splits.specs.Halving.{IsHalving}
use Rattle.integer_splits.specs.Work.{IsNarrow}
use Rattle.integer_splits.proofs.halving.widest.Given as goal

abbrev pub invariant-loop-var : goal.invariant-loop-var
invariant-loop-var l =
    record {
      some : IfSome l.widest (λ h. IsHalving l.simplex.bounds h.var h.at);
      none : IfNone l.widest ((k : ℕ) → k < l.var → IsNarrow l.simplex.bounds k);
    }
