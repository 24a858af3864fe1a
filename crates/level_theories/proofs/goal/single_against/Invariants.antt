use Rattle.std.proofs.Common.{◌≡◌, ℕ, ◌<◌, [], ◌∷◌, get_or, Some, None}
use Rattle.std.specs.Prelude.{slice_get}
use Rattle.mix_system.specs.declared.literal.Lit.{Lit}
use Rattle.mix_system.specs.Lit.{negation}
use Rattle.mix_system.specs.Bounds.{Entails}
use Rattle.level_theories.proofs.goal.single_against.Given as goal

abbrev pub invariant-loop-at : goal.invariant-loop-at
invariant-loop-at l =
    (k : ℕ) (only : Lit) → k < l.at → slice_get l.level.search.store k ≡ Some (only ∷ []) → Entails l.goal (negation only) → get_or l.level.numbers.items k None ≡ None
