-- Constants that are added an operand at a time.
use Rattle.std.proofs.Common.{◌≡◌, ◌+◌, ◌<◌, ℕ, List, [], ◌∷◌, ◌++◌, length, get_or, take, map, sym, ◌∙◌, ap}
use Rattle.std.specs.List.{flat_map}
use Rattle.std.proofs.lemmas.List.{take_more, map-append, append-nil}
use Rattle.std.proofs.lemmas.List.Concat.{flat_map-append}
use Rattle.std.proofs.lemmas.List.Sums.{fold-append}
use Rattle.ll_tree.specs.declared.block.Operand.{Operand}
use Rattle.ir_constants.specs.Constants.{with_operand, with_operands}

pub with_both : (constants : List ℕ) (before more : List Operand) → with_operands constants (before ++ more) ≡ with_operands (with_operands constants before) more
with_both constants before more = fold-append with_operand constants before more

module _ {X : Type 0} (constants : List ℕ) (xs : List X) (i : ℕ) (x : X) (within : i < length xs) (there : get_or xs i x ≡ x) where
  taken : take (i + 1) xs ≡ take i xs ++ x ∷ []
  taken = take_more xs i x within ∙ ap (λ y. take i xs ++ y ∷ []) there

  -- one item more, of which each gives some operands
  pub with_next : (f : X → List Operand) → with_operands constants (flat_map f (take (i + 1) xs)) ≡ with_operands (with_operands constants (flat_map f (take i xs))) (f x)
  with_next f =
      ap (λ list. with_operands constants (flat_map f list)) taken
      ∙ ap (with_operands constants) (flat_map-append f (take i xs) (x ∷ []) ∙ ap (λ last. flat_map f (take i xs) ++ last) (append-nil (f x)))
      ∙ with_both constants (flat_map f (take i xs)) (f x)

  -- and where each is one
  pub with_next_one : (f : X → Operand) → with_operands constants (map f (take (i + 1) xs)) ≡ with_operand (with_operands constants (map f (take i xs))) (f x)
  with_next_one f =
      ap (λ list. with_operands constants (map f list)) taken
      ∙ ap (with_operands constants) (map-append f (take i xs) (x ∷ []))
      ∙ with_both constants (map f (take i xs)) (f x ∷ [])
