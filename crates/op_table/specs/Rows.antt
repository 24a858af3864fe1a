-- What a word table holds, and where a word stands in it.
use Rattle.std.specs.Prelude.{◌≡◌, ◌≢◌, ◌<◌, ℕ, Bool, true, not, ◌&&◌, List, [], ◌∷◌, map, Some, slice_get}
use Rattle.std.specs.List.{list_any}
use Rattle.std.specs.Str.{bytes_eq}
use Rattle.std.specs.Borrow.{Bor}

-- the words of a table, in order
abbrev pub rows_of : List (Bor (List ℕ)) → List (List ℕ)
rows_of words = map (λ (word : Bor (List ℕ)). word.now) words

-- the first place at which the word stands
pub record IsFirstAt (rows : List (List ℕ)) (word : List ℕ) (at : ℕ) : Type 0 where
  pub there : slice_get rows at ≡ Some word
  pub not_before : (k : ℕ) → k < at → slice_get rows k ≢ Some word

-- no two rows share a word: a test, which computes over a whole table
abbrev pub are_distinct : List (List ℕ) → Bool
are_distinct [] = true
are_distinct (word ∷ others) = not (list_any (bytes_eq word) others) && are_distinct others
