-- What an equation with an exception says at a point.
use Rattle.std.proofs.Common.{◌≡◌, ℕ, ℤ, ◌≤ℤ◌, ◌⊎◌, List, inl, inr, arith}
use Rattle.std.specs.Prelude.{◌↔◌, All, Any}
use Rattle.std.proofs.lemmas.Int.{ints}
use Rattle.mix_system.specs.declared.literal.Term.TheVariants.{Row}
use Rattle.mix_system.specs.declared.literal.Lit.{Lit}
use Rattle.mix_system.specs.declared.row.Part.{Part}
use Rattle.mix_system.specs.Fits.{IsTrueAt, term_value}
use Rattle.wrap_rows.proofs.CaseLaws.{Each, Some_of, only}
use Rattle.wrap_rows.proofs.BlockLaws.{each-said, all-true}
use Rattle.div_rows.specs.Unless.{equals_unless}

module _ (rows : List (List Part)) (point : List ℤ) (lit : Lit) (row : ℕ) (number : ℤ) where
  pub unless-said : Each (Some_of (IsTrueAt rows point)) (equals_unless lit row number) → IsTrueAt rows point lit ⊎ (term_value rows point (Row row) ≡ number)
  unless-said each =
      elim each.0 [
        | inl here ↦ inl here
        | inr below ↦ elim each.1.0 [
          | inl here ↦ inl here
          | inr above ↦ inr (between (only below) (only above))
        ]
      ]
    where
      between : term_value rows point (Row row) ≤ℤ number → number ≤ℤ term_value rows point (Row row) → term_value rows point (Row row) ≡ number
      between below above = omega (arith, ints, below, above)

  pub unless-true : IsTrueAt rows point lit ⊎ (term_value rows point (Row row) ≡ number) → Each (Some_of (IsTrueAt rows point)) (equals_unless lit row number)
  unless-true either =
      elim either as (λ _. Each (Some_of (IsTrueAt rows point)) (equals_unless lit row number)) [
        | inl here ↦ (inl here, (inl here, tt))
        | inr is ↦ (inr (inl (omega (arith, ints, is))), (inr (inl (omega (arith, ints, is))), tt))
      ]

  pub unless-law : All (Any (IsTrueAt rows point)) (equals_unless lit row number) ↔ (IsTrueAt rows point lit ⊎ (term_value rows point (Row row) ≡ number))
  unless-law = (
    λ all. unless-said (each-said (IsTrueAt rows point) (equals_unless lit row number) all),
    λ either. all-true (IsTrueAt rows point) (equals_unless lit row number) (unless-true either),
  )
