use Rattle.std.proofs.Common.{◌≡◌, ◌≢◌, ◌⊎◌, ℕ, ◌<◌, get_or, pos}
use Rattle.std.specs.Prelude.{IfNone, IfSome}
use Rattle.mix_system.specs.Row.{number_at}
use Rattle.tableau_rows.specs.declared.entry.Entry.{Entry}
use Rattle.tableau_rows.specs.Substitution.{taken}
use Rattle.bounded_simplex.specs.Refutation.{IsHindered}
use Rattle.bounded_simplex.proofs.entering.entering.Given as goal

abbrev pub invariant-loop-entry : goal.invariant-loop-entry
invariant-loop-entry l =
    record {
      none : IfNone l.found ((k : ℕ) (d : Entry) → k < l.entry-index
          → ((get_or l.entry-items k d).column ≡ l.equation.basic) ⊎ IsHindered l.bounds l.upwards (number_at l.values) (get_or l.entry-items k d));
      other : IfSome l.found (λ helper. l.equation.basic ≢ helper.column);
      taken : IfSome l.found (λ helper. taken l.equation helper.column ≢ pos 0);
    }
