-- What a reader gave that was read up to a limit.
use Rattle.std.proofs.Common.{◌≡◌, ◌<◌, ℕ, List, [], ◌++◌, Option, Some, None, length, take, ◌∙◌, ap, subst, arith}
use Rattle.std.specs.Prelude.{IfSome}
use Rattle.std.specs.Option.{option_map}
use Rattle.std.proofs.lemmas.List.{take_all, length-take}

-- fewer bytes than there was room for are all that were left
pub all_left : (remaining : Option (List ℕ)) (room : ℕ) (before bytes : List ℕ) → before ≡ [] → IfSome (option_map (take room) remaining) (λ xs. bytes ≡ before ++ xs) → length bytes < room → IfSome remaining (λ left. bytes ≡ left)
all_left None room before bytes empty is few = tt
all_left (Some left) room before bytes empty is few =
    let taken : bytes ≡ take room left = is ∙ ap (λ (b : List ℕ). b ++ take room left) empty in
    let few_taken : length (take room left) < room = subst (λ (b : List ℕ). length b < room) taken few in
    taken ∙ take_all room left (omega (arith, length-take room left, few_taken))
