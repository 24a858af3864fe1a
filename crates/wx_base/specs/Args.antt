-- The arguments of a function as numbers, in the order of its parameters.
use Rattle.std.specs.Prelude.{◌≡◌, ◌⊎◌, ℕ, ◌^◌, ◌<◌, List, [], ◌∷◌}

-- one number for each width in bits, each below two to the power of its width
abbrev pub AreArguments : List ℕ → List ℕ → Type 0
AreArguments [] [] = Unit {0}
AreArguments [] (arg ∷ args) = ⊥
AreArguments (width ∷ widths) [] = ⊥
AreArguments (width ∷ widths) (arg ∷ args) = (arg < 2 ^ width) × AreArguments widths args

-- the first numbers at which the two lists differ are in this order, the earlier list's the smaller
abbrev pub ComesBefore : List ℕ → List ℕ → Type 0
ComesBefore [] others = ⊥
ComesBefore (arg ∷ args) [] = ⊥
ComesBefore (arg ∷ args) (other ∷ others) = (arg < other) ⊎ ((arg ≡ other) × ComesBefore args others)
