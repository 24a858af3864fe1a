-- Lists that lie end to end in one.
use Rattle.std.specs.Prelude.{◌≤◌, ℕ, List, [], ◌∷◌, slice_range}

-- the list up to each end, from the end before it
abbrev pub pieces : {X : Type 0} → ℕ → List ℕ → List X → List (List X)
pieces start [] items = []
pieces start (end ∷ ends) items = slice_range items start end ∷ pieces end ends items

-- ends in order, none past the whole
abbrev pub AreEnds : ℕ → List ℕ → ℕ → Type 0
AreEnds start [] whole = start ≤ whole
AreEnds start (end ∷ ends) whole = (start ≤ end) × AreEnds end ends whole

abbrev pub last_end : ℕ → List ℕ → ℕ
last_end start [] = start
last_end start (end ∷ ends) = last_end end ends
