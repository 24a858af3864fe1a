-- Names by their places in a list.
use Rattle.std.specs.Prelude.{◌≡◌, ◌<◌, ℕ, List, [], ◌∷◌, length, take, slice_index_or, Contains, Option, Some, None, if◌then◌else◌, suc}
use Rattle.std.specs.Option.{option_map}
use Rattle.std.specs.Str.{bytes_eq}

-- the first place at which the name stands
abbrev pub place_of : List ℕ → List (List ℕ) → Option ℕ
place_of name [] = None
place_of name (other ∷ others) = if bytes_eq name other then Some 0 else option_map suc (place_of name others)

-- no two of the names are one
abbrev pub AreDifferent : List (List ℕ) → Type 0
AreDifferent [] = Unit {0}
AreDifferent (name ∷ names) = (place_of name names ≡ None) × AreDifferent names

-- The first place at which a name stands that stood before: those before it differ.
pub record IsFirstRepeat (names : List (List ℕ)) (at : ℕ) : Type 0 where
  pub within : at < length names
  pub again : Contains (take at names) (slice_index_or names at [])
  pub first : AreDifferent (take at names)
