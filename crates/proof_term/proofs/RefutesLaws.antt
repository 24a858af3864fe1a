-- No point has every bound of a box true that a list of nodes refutes.
use Rattle.std.proofs.Common.{◌≡◌, ◌⊎◌, ℕ, ℤ, pos, negsuc, ◌+ℤ◌, ◌-ℤ◌, ◌≤ℤ◌, List, [], ◌∷◌, refl, inl, inr, arith}
use Rattle.std.specs.List.{AllByRecursion}
use Rattle.std.proofs.lemmas.Int.{ints}
use Rattle.std.proofs.lemmas.List.Elements.{All-cons}
use Rattle.mix_system.specs.declared.literal.Lit.{Lit}
use Rattle.mix_system.specs.declared.row.Part.{Part}
use Rattle.mix_system.specs.Row.{number_at}
use Rattle.mix_system.specs.Fits.{IsTrueAt}
use Rattle.mix_system.specs.Bounds.{AreTrueAt}
use Rattle.proof_term.specs.Refutes.{low_half, high_half, RefutesAll}
use Rattle.proof_term.specs.declared.tree.Node.{Node}
use Rattle.proof_term.specs.declared.tree.Node.TheVariants.{Leaf, Split}
use Rattle.mix_system.proofs.FarkasLaws.{FarkasRefutes-no_point}

-- of two whole numbers the first is at most the second, or at least one more
pub int_cases : (a b : ℤ) → (a ≤ℤ b) ⊎ ((b +ℤ pos 1) ≤ℤ a)
int_cases a b = go (b -ℤ a) refl
  where
    go : (d : ℤ) → (b -ℤ a) ≡ d → (a ≤ℤ b) ⊎ ((b +ℤ pos 1) ≤ℤ a)
    go (pos n) e = inl (omega (arith, ints, e))
    go (negsuc n) e = inr (omega (arith, ints, e))

module _ (rows : List (List Part)) (point : List ℤ) where
  pub no_point : (nodes : List Node) (boxes : List (List Lit)) → RefutesAll rows nodes boxes → AllByRecursion (λ box. AreTrueAt rows point box → ⊥) boxes
  no_point [] [] refutes = tt
  no_point [] (box ∷ boxes) refutes = absurd refutes
  no_point (Leaf farkas ∷ nodes) [] refutes = absurd refutes
  no_point (Split var at ∷ nodes) [] refutes = absurd refutes
  no_point (Leaf farkas ∷ nodes) (box ∷ boxes) refutes =
      (FarkasRefutes-no_point rows point box farkas.parts refutes.0, no_point nodes boxes refutes.1)
  no_point (Split var at ∷ nodes) (box ∷ boxes) refutes =
      let rest = no_point nodes ((low_half var at ∷ box) ∷ (high_half var at ∷ box) ∷ boxes) refutes in (
        λ is_true. elim (int_cases (number_at point var) at) [
          | inl low ↦ rest.0 (All-cons (IsTrueAt rows point) (low_half var at) box low is_true)
          | inr high ↦ rest.1.0 (All-cons (IsTrueAt rows point) (high_half var at) box high is_true)
        ],
        rest.1.1,
      )
