-- Sums of whole numbers over a list that is joined, grows or is cut.
use Rattle.std.proofs.Common.{◌≡◌, ℕ, ◌+◌, ◌<◌, List, [], ◌∷◌, ◌++◌, length, take, get_or, ℤ, ◌+ℤ◌, ap, ◌∙◌, arith}
use Rattle.std.proofs.lemmas.Int.{ints}
use Rattle.std.proofs.lemmas.List.{take_more}
use Rattle.mix_system.specs.Sum.{int_sum_by}

pub int_sum_by-append : {X : Type 0} (f : X → ℤ) (xs ys : List X) → int_sum_by f (xs ++ ys) ≡ int_sum_by f xs +ℤ int_sum_by f ys
int_sum_by-append f [] ys = omega (arith, ints)
int_sum_by-append f (x ∷ xs) ys = omega (arith, ints, int_sum_by-append f xs ys)

pub int_sum_by_push : {X : Type 0} (f : X → ℤ) (xs : List X) (x : X) → int_sum_by f (xs ++ x ∷ []) ≡ int_sum_by f xs +ℤ f x
int_sum_by_push f xs x = omega (arith, ints, int_sum_by-append f xs (x ∷ []))

pub int_sum_by_more : {X : Type 0} (f : X → ℤ) (xs : List X) (i : ℕ) (d : X) → i < length xs → int_sum_by f (take (i + 1) xs) ≡ int_sum_by f (take i xs) +ℤ f (get_or xs i d)
int_sum_by_more f xs i d h = ap (int_sum_by f) (take_more xs i d h) ∙ int_sum_by_push f (take i xs) (get_or xs i d)
