-- The words of a line: what stands between its spaces.
use Rattle.std.specs.Prelude.{ℕ, ◌==◌, List, [], ◌∷◌, Bool, not, Option, Some, None}
use Rattle.std.specs.List.{slice_split, prefix_len}

abbrev pub is_space : ℕ → Bool
is_space byte = byte == 32

-- how many bytes stand before the first space
abbrev pub word_len : List ℕ → ℕ
word_len bytes = prefix_len (λ byte. not (is_space byte)) bytes

abbrev pub words : List ℕ → List (List ℕ)
words bytes = slice_split is_space bytes

-- the words of bytes that are empty or begin with a space
abbrev pub words_after : List ℕ → List (List ℕ)
words_after [] = []
words_after (byte ∷ bytes) = words bytes

abbrev pub only_word : List (List ℕ) → Option (List ℕ)
only_word [] = None
only_word (word ∷ []) = Some word
only_word (word ∷ other ∷ others) = None

abbrev pub two_words : List (List ℕ) → Option (List ℕ × List ℕ)
two_words [] = None
two_words (word ∷ []) = None
two_words (first ∷ second ∷ []) = Some (first, second)
two_words (first ∷ second ∷ other ∷ others) = None
