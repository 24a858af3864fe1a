-- Labels by their places.
use Rattle.std.proofs.Common.{◌≡◌, ◌≢◌, ◌<◌, ℕ, zero, suc, List, [], ◌∷◌, length, get_or, Option, Some, None, true, false, cond, refl, sym, ◌∙◌, arith}
use Rattle.std.specs.List.{AllPairs, Contains}
use Rattle.std.specs.Option.{option_map, MatchOption}
use Rattle.std.specs.Str.{bytes_eq}
use Rattle.std.proofs.lemmas.Bool.{true≢false}
use Rattle.std.proofs.lemmas.Slice.Eq.{bytes_eq-Decides}
use Rattle.name_table.specs.Names.{place_of, AreDifferent}

-- a place has the label, or no place has
abbrev pub IsPlace : List ℕ → List (List ℕ) → Option ℕ → Type 0
IsPlace name labels place = MatchOption place (Contains labels name → ⊥) (λ block. (block < length labels) × (get_or labels block [] ≡ name))

pub place_names : (name : List ℕ) (labels : List (List ℕ)) → IsPlace name labels (place_of name labels)
place_names name [] = λ there. omega (arith, there.1)
place_names name (label ∷ labels) =
    elim (bytes_eq name label) as (λ b. bytes_eq name label ≡ b → IsPlace name (label ∷ labels) (cond {A = Option ℕ} b (Some 0) (option_map suc (place_of name labels)))) [
      | true ↦ λ test. (omega arith, sym ((bytes_eq-Decides name label).0 test))
      | false ↦ λ test. later test (place_of name labels) (place_names name labels)
    ] refl
  where
    later : bytes_eq name label ≡ false → (place : Option ℕ) → IsPlace name labels place → IsPlace name (label ∷ labels) (option_map suc place)
    later test None absent = none
      where
        none : Contains (label ∷ labels) name → ⊥
        none (zero, within, is) = true≢false (sym ((bytes_eq-Decides name label).1 (sym is)) ∙ test)
        none (suc k, within, is) = absent (k, omega (arith, within), is)
    later test (Some block) there = (omega (arith, there.0), there.1)

-- labels that differ make a table
pub are_different : (labels : List (List ℕ)) → AllPairs (λ label other. label ≢ other) labels → AreDifferent labels
are_different [] apart = tt
are_different (label ∷ labels) apart = (
  none_of (place_of label labels) refl (place_names label labels),
  are_different labels (λ i j d below within. apart (suc i) (suc j) d (omega (arith, below)) (omega (arith, within))),
)
  where
    none_of : (place : Option ℕ) → place_of label labels ≡ place → IsPlace label labels place → place_of label labels ≡ None
    none_of None is there = is
    none_of (Some block) is there = absurd (apart 0 (suc block) [] (omega arith) (omega (arith, there.0)) (sym there.1))
