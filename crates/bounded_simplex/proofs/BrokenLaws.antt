-- What an end that isn't lax says of a column's bound.
use Rattle.std.proofs.Common.{◌≡◌, Option, None, Some, ℤ, length, refl, sym, ap, ◌∙◌, subst, ◌⊎◌, inl, inr, ℕ}
use Rattle.std.specs.Prelude.{IfSome, IfNone, IsSome}
use Rattle.std.proofs.lemmas.Bool.{false≢true}
use Rattle.mix_system.specs.declared.literal.Term.{Term}
use Rattle.mix_system.specs.declared.literal.Side.{Side}
use Rattle.mix_system.specs.declared.literal.Side.TheVariants.{Le, Ge}
use Rattle.bounded_simplex.specs.InForce.{BoundChanges, in_force}
use Rattle.bounded_simplex.specs.Lax.{IsLaxAt, IsLax}
use Rattle.bounded_simplex.specs.Refutation.{bound_on}
use Rattle.bounded_simplex.specs.Terms.{term_of}
use Rattle.bounded_simplex.proofs.StepLaws.{some_is, none_is}

pub some_bound : (bound tight : Option ℤ) → IfSome tight (λ b. bound ≡ Some b) → IsSome tight → IsSome bound
some_bound bound None is some = absurd (false≢true some)
some_bound bound (Some b) is some = subst IsSome (sym is) refl

module _ (bounds : BoundChanges) (column : ℕ) (term : Term) (side : Side) (tight : Option ℤ) (is : term ≡ term_of (length bounds.system.ranges) column) where
  on_column : bound_on bounds column side ≡ in_force bounds term side
  on_column = ap (λ t. in_force bounds t side) (sym is)

  pub bounds_of : IfSome tight (λ b. in_force bounds term side ≡ Some b) → (b : ℤ) → tight ≡ Some b → bound_on bounds column side ≡ Some b
  bounds_of some b e = on_column ∙ some_is (λ b. in_force bounds term side ≡ Some b) tight some b e

  pub lax_of : IfNone tight ((b : ℤ) → in_force bounds term side ≡ Some b → IsLaxAt bounds.system term side b) → tight ≡ None → IsLax bounds column side
  lax_of none e b on =
      subst (λ t. IsLaxAt bounds.system t side b) is (none_is ((b : ℤ) → in_force bounds term side ≡ Some b → IsLaxAt bounds.system term side b) tight none e b (sym on_column ∙ on))

  pub tight_of : IfSome tight (λ b. in_force bounds term side ≡ Some b) → IfSome tight (λ b. ¬ IsLaxAt bounds.system term side b) → (b : ℤ) → tight ≡ Some b → ¬ IsLax bounds column side
  tight_of some apart b e lax =
      some_is (λ b. ¬ IsLaxAt bounds.system term side b) tight apart b e (subst (λ t. IsLaxAt bounds.system t side b) (sym is) (lax b (bounds_of some b e)))

-- a column both of whose bounds are lax, if they are there
pub free_keeps : (bounds : BoundChanges) (column : ℕ) (term : Term) (low high : Option ℤ) → term ≡ term_of (length bounds.system.ranges) column
    → IfNone low ((b : ℤ) → in_force bounds term Ge ≡ Some b → IsLaxAt bounds.system term Ge b) → IfNone high ((b : ℤ) → in_force bounds term Le ≡ Some b → IsLaxAt bounds.system term Le b)
    → (low ≡ None) × (high ≡ None) → (P : Side → Type 0) (side : Side) → P side ⊎ IsLax bounds column side
free_keeps bounds column term low high is lax_low lax_high none P Ge = inr (lax_of bounds column term Ge low is lax_low none.0)
free_keeps bounds column term low high is lax_low lax_high none P Le = inr (lax_of bounds column term Le high is lax_high none.1)
